use mathlib.Core.Path.{◌≡◌}
use Prim.Native.Nat.{◌+◌, ◌*◌, ◌≤◌}
use lib.ListN.{drop}
use Rattle.catalogue.specs.Groups.{groups, further, within}
use Rattle.catalogue.specs.NumberPlaces.{placed}
use Rattle.catalogue.proofs.Carry.{carry}
use Rattle.catalogue_number.proofs.read_further.Given as goal

abbrev pub invariant-loop-i : goal.invariant-loop-i
invariant-loop-i l = (1 ≤ l.room) × (l.value + l.weight * l.room ≤ l.limit) × (placed l.at (within l.limit (further l.low (groups (drop (l.at + 1) l.catalogue)))) ≡ carry l.value l.weight l.room l.i (groups (drop l.i l.catalogue)))
