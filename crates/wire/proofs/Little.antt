-- Laws of the little-endian bytes of a number: how many there are, how they part, and that the number is read back.
-- Assumes nothing.
use mathlib.Core.Path.{◌≡◌, refl, sym, ap, ap₂, ◌∙◌}
use mathlib.Core.List.{List, ◌∷◌, ◌++◌, append_assoc}
use Prim.Native.Nat.{ℕ, zero, suc, ◌+◌, ◌/◌, ◌%◌, ◌^◌, ◌≤◌, ◌<◌}
use native.Mathlib.Nat.{zero-add, suc-add, pow-suc, pow-succ', div-one, div-div-eq-div-mul, div-lt_iff_lt-mul}
use native.Mathlib.Omega.{arith}
use lib.ListN.{length, length-append}
use Rattle.wire.specs.Word.{number, number_at, le}
use Rattle.wire.specs.Laid.{lay, four_words}
use Rattle.lists.specs.Parts.{part}
use Rattle.wire.proofs.Lay.{lay_next}

pub le_length : (n v : ℕ) → length (le n v) ≡ n
unfolding le
le_length zero v = refl
le_length (suc n) v = ap suc (le_length n (v / 256))

-- the low bytes and the high bytes
pub le_join : (m n v : ℕ) → le m v ++ le n (v / 256 ^ m) ≡ le (m + n) v
unfolding le
le_join zero n v = ap₂ le (sym (zero-add n)) (div-one v)
le_join (suc m) n v =
    rw (pow-succ' 256 m, ← (div-div-eq-div-mul v 256 (256 ^ m)), suc-add m n) (ap (λ (t : List ℕ). v % 256 ∷ t) (le_join m n (v / 256)))

-- a number that n bytes hold is what they hold
pub number_le : (n v : ℕ) → v < 256 ^ n → number (le n v) ≡ v
unfolding number le
number_le zero v h = omega arith
number_le (suc n) v h = omega (arith, number_le n (v / 256) ((div-lt_iff_lt-mul {k = 256} {x = v} {y = 256 ^ n} (omega arith)).1 (rw pow-suc at h)))

-- so it is read back where they stand
pub read_number : (t : List ℕ) (n at v : ℕ) → v < 256 ^ n → part t at n ≡ le n v → number_at n t at ≡ v
unfolding number_at
read_number t n at v h e = ap number e ∙ number_le n v h

-- a number laid in two parts, the second over what the first left
pub lay_parts : (m n : ℕ) (t : List ℕ) (at v : ℕ) {half whole : List ℕ} → at + m ≤ length t → half ≡ lay t at (le m v)
    → whole ≡ lay half (at + m) (le n (v / 256 ^ m)) → whole ≡ lay t at (le (m + n) v)
lay_parts m n t at v h a b =
    b ∙ rw a (lay_next t at m (le m v) (le n (v / 256 ^ m)) (le_length m v) h ∙ ap (lay t at) (le_join m n v))

-- words laid one after the other, each over what the one before left
pub lay_fours : (t : List ℕ) (at a b c d : ℕ) {t₁ t₂ t₃ t₄ : List ℕ} → at + 12 ≤ length t → t₁ ≡ lay t at (le 4 a) → t₂ ≡ lay t₁ (at + 4) (le 4 b)
    → t₃ ≡ lay t₂ (at + 8) (le 4 c) → t₄ ≡ lay t₃ (at + 12) (le 4 d) → t₄ ≡ lay t at (four_words a b c d)
lay_fours t at a b c d h e₁ e₂ e₃ e₄ =
    e₄
    ∙ rw (
      e₃,
      e₂,
      e₁,
      lay_next t at 4 (le 4 a) (le 4 b) (le_length 4 a) (omega arith),
      lay_next t at 8 (le 4 a ++ le 4 b) (le 4 c) two (omega arith),
      lay_next t at 12 (le 4 a ++ le 4 b ++ le 4 c) (le 4 d) three h,
    )
    (ap (lay t at) (append_assoc (le 4 a ++ le 4 b) (le 4 c) (le 4 d) ∙ append_assoc (le 4 a) (le 4 b) (le 4 c ++ le 4 d)))
  where
    two : length (le 4 a ++ le 4 b) ≡ 8
    two = omega (arith, length-append (le 4 a) (le 4 b), le_length 4 a, le_length 4 b)

    three : length (le 4 a ++ le 4 b ++ le 4 c) ≡ 12
    three = omega (arith, length-append (le 4 a ++ le 4 b) (le 4 c), two, le_length 4 c)
