-- The first so many bytes of a list are no more than so many. Assumes nothing.
use mathlib.Core.List.{List, [], ◌∷◌}
use Prim.Native.Nat.{ℕ, zero, suc, ◌≤◌}
use native.Mathlib.Omega.{arith}
use lib.ListN.{length, take}

pub part_short : (k : ℕ) (s : List ℕ) → length (take k s) ≤ k
part_short zero s = omega arith
part_short (suc k) [] = omega arith
part_short (suc k) (x ∷ s) = let h = part_short k s in omega arith
