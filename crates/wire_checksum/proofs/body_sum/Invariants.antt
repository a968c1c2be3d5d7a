use mathlib.Core.Path.{◌≡◌}
use Prim.Native.Nat.{◌≤◌, ◌*◌}
use Rattle.wire.specs.Checksum.{sum_of_words}
use Rattle.wire_checksum.proofs.body_sum.Given as goal

abbrev pub invariant-loop-word : goal.invariant-loop-word
invariant-loop-word l = (l.sum ≤ l.word-index * 4294967295) × (l.sum ≡ sum_of_words l.word-index l.body)
