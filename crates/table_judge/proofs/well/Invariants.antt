use mathlib.Core.Path.{◌≡◌}
use mathlib.Core.Bool.{true}
use Prim.Native.Nat.{ℕ, ◌<◌}
use Rattle.table.specs.Layout.{seat_part}
use Rattle.table.specs.Well.{seat_well}
use Rattle.table_judge.proofs.well.Given as goal

abbrev pub invariant-loop-seat : goal.invariant-loop-seat
invariant-loop-seat l = (k : ℕ) → k < l.seat-index → seat_well (seat_part l.table k) ≡ true
