-- Laws of little-endian numbers: one step of a number at a place, and the two widths that the code reads. Assumes nothing.
use mathlib.Core.Path.{◌≡◌, refl}
use mathlib.Core.List.{List, [], ◌∷◌}
use Prim.Native.Nat.{ℕ, zero, suc, ◌+◌, ◌*◌, ◌-◌}
use native.Mathlib.Nat.{add-suc}
use native.Mathlib.Numerals.{add-one}
use native.Mathlib.Omega.{arith}
use lib.ListN.{length, get_or, take, drop, length-drop}
use lib.Seq.{take-nil, take_all}
use Rattle.wire.specs.Word.{number, number_at}

-- the byte at the place, and 256 times the number of the bytes after it
pub number_suc : (n : ℕ) (s : List ℕ) (at : ℕ) → number_at (suc n) s at ≡ get_or s at 0 + 256 * number_at n s (suc at)
unfolding number_at number
number_suc n [] zero = rw take-nil
number_suc n [] (suc at) = rw take-nil
number_suc n (b ∷ s) zero = refl
number_suc n (b ∷ s) (suc at) = number_suc n s at

number_none : (s : List ℕ) (at : ℕ) → number_at 0 s at ≡ 0
unfolding number_at number
number_none s at = refl

-- the same at a place that is counted from another
number_from : (n : ℕ) (s : List ℕ) (at i : ℕ) → number_at (suc n) s (at + i) ≡ get_or s (at + i) 0 + 256 * number_at n s (at + (i + 1))
number_from n s at i = rw (add-one, add-suc) (number_suc n s (at + i))

pub half_at : (s : List ℕ) (at : ℕ) → number_at 2 s at ≡ get_or s at 0 + get_or s (at + 1) 0 * 256
half_at s at = omega (arith, first, number_from 0 s at 1, number_none s (at + 2))
  where
    first : number_at 2 s at ≡ get_or s at 0 + 256 * number_at 1 s (at + 1)
    first = rw add-one (number_suc 1 s at)

pub word_at : (s : List ℕ) (at : ℕ)
    → number_at 4 s at ≡ get_or s at 0 + get_or s (at + 1) 0 * 256 + get_or s (at + 2) 0 * 65536 + get_or s (at + 3) 0 * 16777216
word_at s at =
    omega (
      arith,
      first,
      number_from 2 s at 1,
      number_from 1 s at 2,
      number_from 0 s at 3,
      number_none s (at + 4),
    )
  where
    first : number_at 4 s at ≡ get_or s at 0 + 256 * number_at 3 s (at + 1)
    first = rw add-one (number_suc 3 s at)

-- a part that goes on to the end is what is left after its start
pub rest : (a : ℕ) (s : List ℕ) → take (length s - a) (drop a s) ≡ drop a s
rest a s = take_all (length s - a) (drop a s) (omega (arith, length-drop a s))
