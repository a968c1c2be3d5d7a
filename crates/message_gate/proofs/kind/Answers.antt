-- `message_gate::kind` meets its contract: the messages are gone through in their order. Assumes nothing.
use mathlib.Core.Path.{◌≡◌, sym, ap, ◌∙◌}
use mathlib.Core.Bool.{true, false}
use mathlib.Core.List.{[], ◌∷◌}
use Rattle.std.specs.Prelude.{Some}
use Prim.Native.Nat.{ℕ, zero, suc, ◌+◌, ◌-◌, ◌<◌}
use native.Mathlib.Omega.{arith}
use lib.ListN.{get_or}
use Rattle.message.specs.declared.Kind.TheVariants.{Disconnect, FreeCursor, GetRows, SetBindings}
use Rattle.message.specs.Message.{kinds, kind_of, kind_from}
use Rattle.message.specs.AnswerTold.{kind_at}
use Rattle.message.proofs.Gating.{kind_here, kind_more, kind_none}
use Rattle.message_gate.specs.declared.Served.{Served}
use Rattle.message_gate.proofs.kind.Goals as goal

abbrev none : Served
none = record { msg = 0; kind = Disconnect; tested = false }

-- the messages by their places, as the code has them
abbrev row : ℕ → Served
row k =
    get_or
    (record { msg = 201; kind = Disconnect; tested = false }
    ∷ record { msg = 203; kind = FreeCursor; tested = false }
    ∷ record { msg = 204; kind = GetRows; tested = true }
    ∷ record { msg = 208; kind = SetBindings; tested = true }
    ∷ [])
    k
    none

here : (k msg : ℕ) → k < kinds → (row k).msg ≡ msg → kind_of msg ≡ kind_from (kinds - k) k msg → Some (row k).kind ≡ kind_at (kind_of msg)
here zero msg h e v = sym (ap kind_at (v ∙ kind_here 0 msg h e))
here (suc zero) msg h e v = sym (ap kind_at (v ∙ kind_here 1 msg h e))
here (suc (suc zero)) msg h e v = sym (ap kind_at (v ∙ kind_here 2 msg h e))
here (suc (suc (suc zero))) msg h e v = sym (ap kind_at (v ∙ kind_here 3 msg h e))
here (suc (suc (suc (suc k)))) msg h e v = absurd (omega (arith, h))

more : (k msg : ℕ) → k < kinds → ((row k).msg ≡ msg → ⊥) → kind_of msg ≡ kind_from (kinds - k) k msg → kind_of msg ≡ kind_from (kinds - (k + 1)) (k + 1) msg
more zero msg h e v = v ∙ kind_more 0 msg h e
more (suc zero) msg h e v = v ∙ kind_more 1 msg h e
more (suc (suc zero)) msg h e v = v ∙ kind_more 2 msg h e
more (suc (suc (suc zero))) msg h e v = v ∙ kind_more 3 msg h e
more (suc (suc (suc (suc k)))) msg h e v = absurd (omega (arith, h))

pub returns-then-served-msg : goal.returns-then-served-msg
returns-then-served-msg c = here c.loop-served.served-index c.args.msg c.loop-served-test.true c.if-served-msg.true c.loop-served.invariant

pub loop-served-preserved : goal.loop-served-preserved
loop-served-preserved c = more c.loop-served.served-index c.args.msg c.loop-served-test.true c.if-served-msg.false c.loop-served.invariant

pub returns : goal.returns
returns c =
    let k = c.loop-served.served-index in
    let z : k ≡ kinds = omega arith in
    sym (ap kind_at (c.loop-served.invariant ∙ kind_none k c.args.msg z ∙ z))
