-- Laws of parts of a list and of zeros. Assumes nothing.
use mathlib.Core.Path.{◌≡◌, refl, sym, ap, ◌∙◌}
use mathlib.Core.List.{List, ◌∷◌}
use Prim.Native.Nat.{ℕ, zero, suc, ◌+◌, ◌-◌, ◌≤◌}
use native.Mathlib.Nat.{sub-zero}
use native.Mathlib.Omega.{arith}
use lib.ListN.{take, drop, length, length-drop}
use Rattle.lists.specs.Parts.{part, zeros}
use lib.Seq.{length-take-le}

-- the first of so many zeros, and those after them
pub take_zeros : (m n : ℕ) → m ≤ n → take m (zeros n) ≡ zeros m
take_zeros zero n h = refl
take_zeros (suc m) zero h = absurd (omega arith)
take_zeros (suc m) (suc n) h = ap (λ (r : List ℕ). 0 ∷ r) (take_zeros m n (omega arith))

pub drop_zeros : (k n : ℕ) → drop k (zeros n) ≡ zeros (n - k)
drop_zeros zero n = ap zeros (sym (sub-zero n))
drop_zeros (suc k) zero = ap zeros none_left
  where
    none_left : 0 ≡ 0 - suc k
    none_left = omega arith
drop_zeros (suc k) (suc n) = drop_zeros k n ∙ ap zeros less
  where
    less : n - k ≡ suc n - suc k
    less = omega arith

-- what is lent from a place to the place n further on is a part of n words
pub part_is : (t : List ℕ) (at n : ℕ) → take (at + n - at) (drop at t) ≡ part t at n
part_is t at n = ap (λ (k : ℕ). take k (drop at t)) same
  where
    same : at + n - at ≡ n
    same = omega arith

pub part_length : (t : List ℕ) (at n : ℕ) → at + n ≤ length t → length (part t at n) ≡ n
part_length t at n h = length-take-le n (drop at t) (omega (arith, length-drop at t))
