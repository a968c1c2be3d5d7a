-- The bytes that the library makes of a number are those of the number on the wire. Assumes nothing.
use mathlib.Core.Path.{◌≡◌, refl, ap, ap₂, sym, ◌∙◌}
use mathlib.Core.List.{List, ◌∷◌}
use Prim.Native.Nat.{ℕ, zero, suc, ◌+◌, ◌*◌, ◌/◌, ◌%◌, ◌^◌}
use native.Mathlib.Nat.{one-le-pow, pow-suc, div-one, div-div-eq-div-mul}
use native.Mathlib.Omega.{arith}
use lib.Arith.{mod-mul}
use Rattle.std.specs.Int.{bytes_low_first}
use Rattle.wire.specs.Word.{le}

-- from byte i on
low_first : (i n v : ℕ) → bytes_low_first i n v ≡ le n (v / 256 ^ i)
unfolding le
low_first i zero v = refl
low_first zero (suc n) v = rw (div-one v) (ap (λ (t : List ℕ). v % 256 ∷ t) (low_first 1 n v))
low_first (suc i) (suc n) v = ap (λ (t : List ℕ). v / 256 ^ suc i % 256 ∷ t) (low_first (suc (suc i)) n v ∙ ap (le n) next)
  where
    next : v / 256 ^ suc (suc i) ≡ v / 256 ^ suc i / 256
    next = rw (pow-suc 256 (suc i)) (sym (div-div-eq-div-mul v (256 ^ suc i) 256))

-- the low bytes of a number are those of what it leaves when the higher ones are taken off
low_bytes : (n v : ℕ) → le n (v % 256 ^ n) ≡ le n v
unfolding le
low_bytes zero v = refl
low_bytes (suc n) v = ap₂ (λ (b : ℕ) (t : List ℕ). b ∷ t) first (ap (le n) others ∙ low_bytes n (v / 256))
  where
    parted : v % 256 ^ suc n ≡ v / 256 % 256 ^ n * 256 + v % 256
    parted = rw (pow-suc 256 n) (mod-mul v {m = 256 ^ n} {c = 256} (omega (arith, one-le-pow n 256 (omega arith))) (omega arith))

    first : v % 256 ^ suc n % 256 ≡ v % 256
    first = omega (arith, parted)

    others : v % 256 ^ suc n / 256 ≡ v / 256 % 256 ^ n
    others = omega (arith, parted)

pub bytes_le : (n v : ℕ) → bytes_low_first 0 n (v % 256 ^ n) ≡ le n v
bytes_le n v = low_first 0 n (v % 256 ^ n) ∙ rw (div-one (v % 256 ^ n)) (low_bytes n v)

pub long_le : (v : ℕ) → bytes_low_first 0 8 v ≡ le 8 v
long_le v = low_first 0 8 v ∙ ap (le 8) (div-one v)
