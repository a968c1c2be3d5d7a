-- The spans of a row by column and part: what holds of each used span, or of any two, holds of each part, or of any two.
-- Assumes nothing.
use mathlib.Core.Path.{◌≡◌, sym, ap, ◌∙◌}
use mathlib.Core.Bool.{Bool, true}
use mathlib.Core.List.{List, [], ◌∷◌}
use Prim.Native.Nat.{ℕ, zero, suc, ◌+◌, ◌*◌, ◌<◌}
use native.Mathlib.Omega.{arith}
use lib.ListN.{length}
use Rattle.lists.specs.Below.{both}
use Rattle.lists.proofs.Below.{both_left, both_right}
use Rattle.lists.specs.Every.{every, pairwise}
use Rattle.bindings.specs.Fit.{spans_of, apart, span_of}
use Rattle.bindings.specs.Sound.{column}
use Rattle.bindings.specs.declared.Column.{Column}
use Rattle.bindings.specs.declared.Span.{Span}
use Rattle.lists.proofs.Every.{all_three, all_four}
use Rattle.bindings.proofs.Spans.{none, apart_none, part_if, every_if, pair_if}

-- the three parts of a column in front of others
module _ (test : Span → Bool) (e : test none ≡ true) (c : Column) (s : List Span) where
  of_two : every test (part_if c 1 (part_if c 2 s)) ≡ both (test (span_of c 1)) (both (test (span_of c 2)) (every test s))
  of_two = every_if test e c 1 (part_if c 2 s) ∙ ap (both (test (span_of c 1))) (every_if test e c 2 s)

  of_three : every test (part_if c 0 (part_if c 1 (part_if c 2 s)))
      ≡ both (test (span_of c 0)) (both (test (span_of c 1)) (both (test (span_of c 2)) (every test s)))
  of_three = every_if test e c 0 (part_if c 1 (part_if c 2 s)) ∙ ap (both (test (span_of c 0))) of_two

-- one of the three
by_part : (P : ℕ → Type 0) → P 0 → P 1 → P 2 → (p : ℕ) → p < 3 → P p
by_part P a b d zero h = a
by_part P a b d (suc zero) h = b
by_part P a b d (suc (suc zero)) h = d
by_part P a b d (suc (suc (suc p))) h = absurd (omega arith)

-- what each used span passes, each part passes
pub every_part : (test : Span → Bool) → test none ≡ true → (s : List Column) → every test (spans_of s) ≡ true
    → (k p : ℕ) → k < length s → p < 3 → test (span_of (column s k) p) ≡ true
unfolding spans_of
every_part test e [] h k p b q = absurd (omega arith)
every_part test e (c ∷ s) h zero p b q =
    let f = all_four (test (span_of c 0)) (test (span_of c 1)) (test (span_of c 2)) (every test (spans_of s)) (sym (of_three test e c (spans_of s)) ∙ h) in
    by_part (λ p. test (span_of c p) ≡ true) f.0 f.1 f.2 p q
every_part test e (c ∷ s) h (suc k) p b q =
    let f = all_four (test (span_of c 0)) (test (span_of c 1)) (test (span_of c 2)) (every test (spans_of s)) (sym (of_three test e c (spans_of s)) ∙ h) in
    every_part test e s f.3 k p (omega arith) q

-- two parts of the first column, a part of it and the spans of the others, and the others among themselves
record Heads (c : Column) (s : List Span) : Type 0 where
  value_status : apart (span_of c 0) (span_of c 1) ≡ true
  value_length : apart (span_of c 0) (span_of c 2) ≡ true
  status_length : apart (span_of c 1) (span_of c 2) ≡ true
  others : (p : ℕ) → p < 3 → every (apart (span_of c p)) s ≡ true
  rest : pairwise apart s ≡ true

heads : (c : Column) (s : List Span) → pairwise apart (part_if c 0 (part_if c 1 (part_if c 2 s))) ≡ true → Heads c s
heads c s h =
    let f = all_four value_clear status_clear length_clear (pairwise apart s) (sym three ∙ h) in
    let v = all_three (apart (span_of c 0) (span_of c 1)) (apart (span_of c 0) (span_of c 2)) (every (apart (span_of c 0)) s)
    (sym (of_two (apart (span_of c 0)) (apart_none (span_of c 0)) c s) ∙ f.0) in
    let t = sym (every_if (apart (span_of c 1)) (apart_none (span_of c 1)) c 2 s) ∙ f.1 in
    record {
      value_status = v.0;
      value_length = v.1;
      status_length = both_left (apart (span_of c 1) (span_of c 2)) (every (apart (span_of c 1)) s) t;
      others =
          by_part (λ p. every (apart (span_of c p)) s ≡ true) v.2
          (both_right (apart (span_of c 1) (span_of c 2)) (every (apart (span_of c 1)) s) t)
          f.2;
      rest = f.3;
    }
  where
    value_clear : Bool
    value_clear = every (apart (span_of c 0)) (part_if c 1 (part_if c 2 s))

    status_clear : Bool
    status_clear = every (apart (span_of c 1)) (part_if c 2 s)

    length_clear : Bool
    length_clear = every (apart (span_of c 2)) s

    three : pairwise apart (part_if c 0 (part_if c 1 (part_if c 2 s))) ≡ both value_clear (both status_clear (both length_clear (pairwise apart s)))
    three =
        pair_if c 0 (part_if c 1 (part_if c 2 s))
        ∙ ap (both value_clear) (pair_if c 1 (part_if c 2 s) ∙ ap (both status_clear) (pair_if c 2 s))

in_column : (c : Column) (s : List Span) → Heads c s → (p q : ℕ) → p < q → q < 3 → apart (span_of c p) (span_of c q) ≡ true
in_column c s h zero zero l b = absurd (omega arith)
in_column c s h zero (suc zero) l b = h.value_status
in_column c s h zero (suc (suc zero)) l b = h.value_length
in_column c s h zero (suc (suc (suc q))) l b = absurd (omega arith)
in_column c s h (suc zero) zero l b = absurd (omega arith)
in_column c s h (suc zero) (suc zero) l b = absurd (omega arith)
in_column c s h (suc zero) (suc (suc zero)) l b = h.status_length
in_column c s h (suc zero) (suc (suc (suc q))) l b = absurd (omega arith)
in_column c s h (suc (suc p)) q l b = absurd (omega arith)

pub pair_parts : (s : List Column) → pairwise apart (spans_of s) ≡ true
    → (j p k q : ℕ) → 3 * j + p < 3 * k + q → k < length s → p < 3 → q < 3 → apart (span_of (column s j) p) (span_of (column s k) q) ≡ true
unfolding spans_of
pair_parts [] h j p k q l b m n = absurd (omega arith)
pair_parts (c ∷ s) h zero p zero q l b m n = in_column c (spans_of s) (heads c (spans_of s) h) p q (omega arith) n
pair_parts (c ∷ s) h zero p (suc k) q l b m n =
    every_part (apart (span_of c p)) (apart_none (span_of c p)) s ((heads c (spans_of s) h).others p m) k q (omega arith) n
pair_parts (c ∷ s) h (suc j) p zero q l b m n = absurd (omega arith)
pair_parts (c ∷ s) h (suc j) p (suc k) q l b m n = pair_parts s (heads c (spans_of s) h).rest j p k q (omega arith) (omega arith) m n
