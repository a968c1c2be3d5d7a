-- A run of bytes is the longest part of one kind that the bytes begin with, and when two lists are the same bytes. Assumes nothing.
use mathlib.Core.Path.{◌≡◌, refl}
use mathlib.Core.Bool.{Bool, true, false, cond, ◌&&◌}
use mathlib.Core.List.{List, [], ◌∷◌}
use Prim.Native.Nat.{ℕ, suc, ◌+◌}
use native.Mathlib.Omega.{arith}
use lib.Dec.{eqb}
use Rattle.std.specs.List.{prefix_len}
use Rattle.std.specs.Str.{bytes_eq}
use Rattle.lists.specs.Below.{pick, both}
use Rattle.line.specs.Runs.{run, same_bytes}

pub run_is : (kind : ℕ → Bool) (s : List ℕ) → run kind s ≡ prefix_len kind s
unfolding run
run_is kind [] = refl
run_is kind (b ∷ s) = more (kind b) (run kind s) (prefix_len kind s) (run_is kind s)
  where
    more : (t : Bool) (m n : ℕ) → m ≡ n → pick t (suc m) 0 ≡ cond t (1 + n) 0
    more true m n e = omega arith
    more false m n e = refl

-- what `==` on slices says
pub same_is : (a b : List ℕ) → same_bytes a b ≡ bytes_eq a b
unfolding same_bytes
same_is [] [] = refl
same_is [] (y ∷ b) = refl
same_is (x ∷ a) [] = refl
same_is (x ∷ a) (y ∷ b) = rw (same_is a b) (one (eqb x y) (bytes_eq a b))
  where
    one : (p q : Bool) → both p q ≡ (p && q)
    one true q = refl
    one false q = refl
