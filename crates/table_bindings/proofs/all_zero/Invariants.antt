use mathlib.Core.Path.{◌≡◌}
use lib.Dec.{eqb}
use lib.ListN.{get_or}
use Rattle.lists.specs.Below.{every_below}
use Rattle.table_bindings.proofs.all_zero.Given as goal

abbrev pub invariant-loop-word : goal.invariant-loop-word
invariant-loop-word l = eqb l.joined 0 ≡ every_below l.word-index (λ k. eqb (get_or l.words k 0) 0)
