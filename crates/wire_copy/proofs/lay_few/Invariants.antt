use mathlib.Core.Path.{◌≡◌}
use lib.ListN.{length}
use lib.Seq.{paste}
use Rattle.wire_copy.proofs.lay_few.Given as goal

abbrev pub invariant-loop-i : goal.invariant-loop-i
invariant-loop-i l = (length l.reply ≡ length l.initial.reply) × (l.reply ≡ paste l.initial.reply l.at l.bytes l.i)
