-- Parts of a part that was read back: numbers in a row, and the units of a block. Assumes nothing.
use mathlib.Core.Path.{◌≡◌, refl, sym, ap, ◌∙◌}
use mathlib.Core.List.{List, [], ◌∷◌, ◌++◌, append_assoc, append-nil}
use Prim.Native.Nat.{ℕ, zero, suc, ◌+◌, ◌*◌, ◌^◌, ◌<◌}
use native.Mathlib.Nat.{add-zero, not-suc-le-zero, le_of_suc-le-suc}
use native.Mathlib.Omega.{arith}
use lib.ListN.{length, get_or, take, drop, take-append-drop}
use lib.Seq.{take_at, drop_at, drop-drop, length-take-le}
use Rattle.wire.specs.Word.{le, number_at}
use Rattle.catalogue.specs.Writer.{unit_bytes}
use Rattle.lists.specs.Parts.{part}
use Rattle.wire.proofs.Little.{le_length, read_number}
use Rattle.page.specs.Cell.{block_of}
use Rattle.page.proofs.Units.{unit_bytes_length}
use Rattle.page.specs.Reads.{UnitsRead}

-- a part of a part
pub inner : (u : List ℕ) (at n : ℕ) (a b c : List ℕ) → part u at n ≡ a ++ (b ++ c) → part u (at + length a) (length b) ≡ b
inner u at n a b c e =
    ap (take (length b)) (sym (drop-drop (length a) at u) ∙ ap (drop (length a)) all ∙ drop_at a (b ++ (c ++ rest)) (length a) refl)
    ∙ take_at b (c ++ rest) (length b) refl
  where
    rest : List ℕ
    rest = drop n (drop at u)

    all : drop at u ≡ a ++ (b ++ (c ++ rest))
    all =
        sym (take-append-drop n (drop at u))
        ∙ ap (λ (l : List ℕ). l ++ rest) e
        ∙ append_assoc a (b ++ c) rest
        ∙ ap (λ (l : List ℕ). a ++ l) (append_assoc b c rest)

-- a number that is a part of a part
pub inner_number : (u : List ℕ) (at n width v : ℕ) (a c : List ℕ) → v < 256 ^ width → part u at n ≡ a ++ (le width v ++ c)
    → number_at width u (at + length a) ≡ v
inner_number u at n width v a c h e =
    read_number u width (at + length a) v h (ap (λ (k : ℕ). part u (at + length a) k) (sym (le_length width v)) ∙ inner u at n a (le width v) c e)

-- words in a row: the first, and those after it
module _ (u : List ℕ) (n at v : ℕ) (rest : List ℕ) (e : part u at n ≡ le 4 v ++ rest) where
  pub first_word : v < 256 ^ 4 → number_at 4 u at ≡ v
  first_word h = ap (number_at 4 u) (sym (add-zero at)) ∙ inner_number u at n 4 v [] rest h e

  pub other_words : part u (at + 4) (length rest) ≡ rest
  other_words =
      ap (λ (k : ℕ). part u (at + k) (length rest)) (sym (le_length 4 v))
      ∙ inner u at n (le 4 v) rest [] (e ∙ ap (λ (l : List ℕ). le 4 v ++ l) (sym (append-nil rest)))

-- the bytes of the units before one, of that one, and of those after it
units_split : (units : List ℕ) (i : ℕ) → i < length units
    → unit_bytes units ≡ unit_bytes (take i units) ++ (le 2 (get_or units i 0) ++ unit_bytes (drop (suc i) units))
unfolding unit_bytes
units_split [] i h = absurd (not-suc-le-zero h)
units_split (x ∷ units) zero h = refl
units_split (x ∷ units) (suc i) h =
    ap (λ (l : List ℕ). le 2 x ++ l) (units_split units i (le_of_suc-le-suc h))
    ∙ sym (append_assoc (le 2 x) (unit_bytes (take i units)) (le 2 (get_or units i 0) ++ unit_bytes (drop (suc i) units)))

pub units_read : (u : List ℕ) (n place : ℕ) (units : List ℕ) → part u place n ≡ block_of units → UnitsRead u place units
unfolding le
units_read u n place units e =
    record {
      unit = λ i h small.
          ap (λ (k : ℕ). number_at 2 u (place + k)) (sym (unit_bytes_length (take i units) ∙ ap (λ (k : ℕ). 2 * k) (length-take-le i units (omega arith))))
          ∙ inner_number u place n 2 (get_or units i 0) (unit_bytes (take i units)) (unit_bytes (drop (suc i) units) ++ (0 ∷ 0 ∷ [])) small
          (e
          ∙ ap (λ (l : List ℕ). l ++ (0 ∷ 0 ∷ [])) (units_split units i h)
          ∙ append_assoc (unit_bytes (take i units)) (le 2 (get_or units i 0) ++ unit_bytes (drop (suc i) units)) (0 ∷ 0 ∷ [])
          ∙ ap (λ (l : List ℕ). unit_bytes (take i units) ++ l) (append_assoc (le 2 (get_or units i 0)) (unit_bytes (drop (suc i) units)) (0 ∷ 0 ∷ [])));
      ended =
          ap (λ (k : ℕ). number_at 2 u (place + k)) (sym (unit_bytes_length units))
          ∙ inner_number u place n 2 0 (unit_bytes units) [] (omega arith) e;
    }
