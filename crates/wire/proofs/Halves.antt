-- Laws of the 16-bit words of a list: how many there are, and each as the number at its place. Assumes nothing.
use mathlib.Core.Path.{◌≡◌, refl, ap, ◌∙◌}
use mathlib.Core.List.{List, [], ◌∷◌}
use Prim.Native.Nat.{ℕ, zero, suc, ◌+◌, ◌*◌, ◌/◌, ◌<◌}
use native.Mathlib.Omega.{arith}
use lib.ListN.{length, get_or}
use Rattle.wire.specs.Word.{number_at, halves}
use Rattle.wire.proofs.Words.{half_at}

pub halves_length : (s : List ℕ) → length (halves s) ≡ length s / 2
unfolding halves
halves_length [] = refl
halves_length (a ∷ []) = refl
halves_length (a ∷ b ∷ s) = omega (arith, halves_length s)

-- the word at index i is the number at byte 2 i
pub halves_at : (s : List ℕ) (i : ℕ) → 2 * i + 1 < length s → get_or (halves s) i 0 ≡ number_at 2 s (2 * i)
unfolding halves number_at
halves_at [] i h = absurd (omega arith)
halves_at (a ∷ []) zero h = absurd (omega arith)
halves_at (a ∷ []) (suc i) h = absurd (omega arith)
halves_at (a ∷ b ∷ s) zero h = omega (arith, half_at (a ∷ b ∷ s) 0)
halves_at (a ∷ b ∷ s) (suc i) h = halves_at s i (omega arith) ∙ ap (number_at 2 (a ∷ b ∷ s)) two_more
  where
    two_more : suc (suc (2 * i)) ≡ 2 * suc i
    two_more = omega arith
