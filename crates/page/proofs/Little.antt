-- Laws of numbers that leave the upper bytes zero. Assumes nothing.
use mathlib.Core.Path.{◌≡◌, refl, ap}
use mathlib.Core.List.{◌∷◌, ◌++◌}
use Prim.Native.Nat.{ℕ, zero, suc, ◌+◌, ◌/◌, ◌%◌, ◌^◌, ◌<◌}
use native.Mathlib.Nat.{pow-suc, div-lt_iff_lt-mul, suc-add, zero-add}
use native.Mathlib.Omega.{arith}
use lib.ListN.{replicate}
use Rattle.wire.specs.Word.{le}

le_nothing : (n : ℕ) → le n 0 ≡ replicate n 0
unfolding le
le_nothing zero = refl
le_nothing (suc n) = ap (λ s. 0 ∷ s) (le_nothing n)

-- a number that m bytes hold, in more bytes: the others are zero
pub le_more : (m n v : ℕ) → v < 256 ^ m → le (m + n) v ≡ le m v ++ replicate n 0
unfolding le
le_more zero n v h = rw (zero-add n, nothing) (le_nothing n)
  where
    nothing : v ≡ 0
    nothing = omega arith
le_more (suc m) n v h =
    rw (suc-add m n) (ap (λ s. (v % 256) ∷ s) (le_more m n (v / 256) ((div-lt_iff_lt-mul {k = 256} {x = v} {y = 256 ^ m} (omega arith)).1 (rw pow-suc at h))))
