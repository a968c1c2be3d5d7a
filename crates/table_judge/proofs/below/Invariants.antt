use mathlib.Core.Path.{◌≡◌}
use mathlib.Core.Bool.{true}
use Prim.Native.Nat.{ℕ, ◌<◌}
use Rattle.table.specs.Layout.{seat_part}
use Rattle.table.specs.Seat.{seat_of}
use Rattle.table.specs.Well.{seat_below}
use Rattle.table_judge.proofs.below.Given as goal

abbrev pub invariant-loop-seat : goal.invariant-loop-seat
invariant-loop-seat l = (k : ℕ) → k < l.seat-index → seat_below l.rows (seat_of (seat_part l.table k)) ≡ true
