use Rattle.std.proofs.Common.{◌≡◌, ◌-◌}
use Rattle.message.specs.Message.{kinds, kind_of, kind_from}
use Rattle.message_gate.proofs.kind.Given as goal

-- none of the messages so far is the one that is looked for
abbrev pub invariant-loop-served : goal.invariant-loop-served
invariant-loop-served l = kind_of l.msg ≡ kind_from (kinds - l.served-index) l.served-index l.msg
