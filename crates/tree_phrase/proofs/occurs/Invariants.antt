use mathlib.Core.Path.{◌≡◌}
use Prim.Native.Nat.{ℕ, ◌+◌, ◌<◌}
use lib.ListN.{get_or}
use Rattle.wire.specs.Word.{halves}
use Rattle.tree.specs.Phrase.{OccursAt}
use Rattle.tree_phrase.proofs.occurs.Given as goal

abbrev pub invariant-loop-i : goal.invariant-loop-i
invariant-loop-i l = (k : ℕ) → k < l.i → get_or (halves l.phrase) k 0 ≡ get_or (halves l.text) (l.place + k) 0

abbrev pub invariant-places : goal.invariant-places
invariant-places l = (k : ℕ) → k < l.place → OccursAt l.method (halves l.phrase) (halves l.text) k → ⊥
