use mathlib.Core.Path.{◌≡◌}
use Prim.Native.Nat.{◌-◌, ◌+◌, ◌≤◌}
use lib.Dec.{ltb}
use lib.ListN.{length, get_or}
use Rattle.lists.specs.Below.{every_below}
use Rattle.table_cursor.proofs.rising.Given as goal

abbrev pub invariant-loop-i : goal.invariant-loop-i
invariant-loop-i l =
    (l.i - 1 ≤ length l.rows - 1)
    × (l.rises ≡ every_below (l.i - 1) (λ k. ltb (get_or l.rows k 0) (get_or l.rows (k + 1) 0)))
