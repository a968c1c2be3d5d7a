-- Laws of the sum of a body's words: one word more, and what is left after the whole words. Assumes nothing.
use mathlib.Core.Path.{◌≡◌, refl, ap, ◌∙◌}
use mathlib.Core.List.{List, []}
use mathlib.Core.Logic.{⊎_elim}
use Prim.Native.Nat.{ℕ, zero, suc, ◌+◌, ◌*◌, ◌/◌, ◌≤◌, ◌<◌}
use native.Mathlib.Nat.{eq-or-lt_of_le}
use native.Mathlib.Numerals.{add-one}
use native.Mathlib.Omega.{arith}
use lib.ListN.{length, get_or, take, drop, drop_of_length-le}
use lib.Seq.{drop-drop}
use Rattle.std.specs.Int.{w32, from_le_bytes}
use Rattle.std.specs.Simd.{first_chunks}
use Rattle.lists.specs.Parts.{part}
use Rattle.lists.proofs.Library.{part_at}
use Rattle.wire.proofs.Words.{word_at}
use Rattle.wire.specs.Word.{number, number_at}
use Rattle.wire.specs.Checksum.{sum_of_words, body_sum}

-- one word more
pub sum_more : (k : ℕ) (s : List ℕ) → sum_of_words (k + 1) s ≡ number_at 4 s (4 * k) + sum_of_words k s
unfolding sum_of_words
sum_more k s = rw add-one

-- the whole words are all
pub sum_whole : (k : ℕ) (s : List ℕ) → 4 * k ≡ length s → body_sum s ≡ sum_of_words k s
unfolding body_sum
sum_whole k s e = ap (λ (n : ℕ). sum_of_words n s) (omega arith)

-- or all but the last
pub sum_short : (k : ℕ) (s : List ℕ) → 4 * k < length s → length s < 4 * k + 4 → body_sum s ≡ number_at 4 s (4 * k) + sum_of_words k s
unfolding body_sum
sum_short k s low high = ap (λ (n : ℕ). sum_of_words n s) more ∙ sum_more k s
  where
    more : (length s + 3) / 4 ≡ k + 1
    more = omega arith

-- the words after the whole ones are one that may be short, or none
pub sum_rest : (s : List ℕ) → body_sum s ≡ sum_of_words (length s / 4) s + number_at 4 (drop (length s / 4 * 4) s) 0
unfolding number_at number
sum_rest s = ⊎_elim (λ (e : k * 4 ≡ length s). none e) (λ (h : k * 4 < length s). one h) (eq-or-lt_of_le whole)
  where
    k : ℕ
    k = length s / 4

    whole : k * 4 ≤ length s
    whole = omega arith

    turned : 4 * k ≡ k * 4
    turned = omega arith

    none : k * 4 ≡ length s → body_sum s ≡ sum_of_words k s + number_at 4 (drop (k * 4) s) 0
    none e = rw (drop_of_length-le s {i = k * 4} (omega arith)) (omega (arith, sum_whole k s (omega arith)))

    one : k * 4 < length s → body_sum s ≡ sum_of_words k s + number_at 4 (drop (k * 4) s) 0
    one h = omega (arith, sum_short k s (omega arith) (omega arith), ap (λ (n : ℕ). number_at 4 s n) turned)

-- a word of four bytes in a row of such words, and what it adds
pub chunk_at : (k n : ℕ) (s : List ℕ) → k < n → get_or (first_chunks 4 n s) k [] ≡ part s (4 * k) 4
chunk_at k zero s h = absurd (omega arith)
chunk_at zero (suc n) s h = refl
chunk_at (suc k) (suc n) s h =
    chunk_at k n (drop 4 s) (omega arith) ∙ ap (take 4) (drop-drop (4 * k) 4 s ∙ ap (λ (i : ℕ). drop i s) (omega arith))

four : (b : List ℕ) → from_le_bytes w32 b ≡ get_or b 0 0 + get_or b 1 0 * 256 + get_or b 2 0 * 65536 + get_or b 3 0 * 16777216
four b = refl

pub word_of : (s : List ℕ) (at : ℕ) → from_le_bytes w32 (part s at 4) ≡ number_at 4 s at
word_of s at =
    omega (
      arith,
      four (part s at 4),
      word_at s at,
      first,
      part_at s at 4 1 (omega arith),
      part_at s at 4 2 (omega arith),
      part_at s at 4 3 (omega arith),
    )
  where
    first : get_or (part s at 4) 0 0 ≡ get_or s at 0
    first = part_at s at 4 0 (omega arith) ∙ ap (λ (i : ℕ). get_or s i 0) (omega arith)
