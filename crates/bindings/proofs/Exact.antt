-- Sound bindings pass: so bindings are fit exactly where they are sound. Assumes nothing.
use mathlib.Core.Path.{◌≡◌, refl, ap}
use mathlib.Core.Bool.{Bool, true, not}
use mathlib.Core.List.{List, [], ◌∷◌}
use Prim.Native.Nat.{ℕ, ◌+◌, ◌≤◌, ◌<◌}
use native.Mathlib.Omega.{arith}
use borrow.Author.Tests.{le-leb, lt-ltb, eq-eqb, ne_eqb, leb-true, leb-false, ltb-true, ltb-false, eqb-true}
use lib.Dec.{leb, ltb}
use lib.ListN.{length}
use Rattle.lists.specs.Below.{both, within}
use Rattle.lists.proofs.Below.{by_test, both_left, both_right, both_true}
use Rattle.lists.specs.Every.{every, pairwise}
use Rattle.bindings.specs.Column.{columns_most}
use Rattle.wire.specs.Property.{key_property, note_property, known, cell_size, status_size, length_size}
use Rattle.bindings.specs.Fit.{is_used, sized, typed, column_fits, differ, span_if, spans_of, inside, apart, row_most, columns_fit, fit}
use Rattle.bindings.specs.Sound.{column, span, Holds, Sound}
use Rattle.bindings.specs.declared.Value.{Value}
use Rattle.bindings.specs.declared.Column.{Column}
use Rattle.bindings.specs.declared.Span.{Span}
use Rattle.lists.proofs.Every.{every_all, every_index, pair_all}
use Rattle.bindings.proofs.Sound.{parts, sized_used}

in_range_lem : (low high n : ℕ) → (low ≤ n) × (n ≤ high) → within low high n ≡ true
in_range_lem low high n h = both_true (leb low n) (leb n high) (le-leb low n h.0) (le-leb n high h.1)

sized_shown : (size : ℕ) (v : Value) → (v.used ≡ 1 → v.size ≡ size) → sized size v ≡ true
sized_shown size v f =
    by_test (is_used v.used)
    (λ q. rw (q, eq-eqb v.size size (f (eqb-true v.used 1 q))))
    (λ q. rw q)

-- two spans that have a byte have none in common only where one ends before the other begins
apart_shown : (a b : Span) → 0 < a.size → 0 < b.size → ((byte : ℕ) → Holds a byte → Holds b byte → ⊥) → apart a b ≡ true
apart_shown a b h k f =
    by_test (leb (a.place + a.size) b.place)
    (λ q. rw q)
    (λ q. rw q (le-leb (b.place + b.size) a.place (clear (leb-false (a.place + a.size) b.place q))))
  where
    clear : b.place < a.place + a.size → b.place + b.size ≤ a.place
    clear l =
        by_test (leb (b.place + b.size) a.place)
        (λ q. leb-true (b.place + b.size) a.place q)
        (λ q.
        let r = leb-false (b.place + b.size) a.place q in
        by_test (ltb a.place b.place)
        (λ t. absurd (f b.place (omega (arith, ltb-true a.place b.place t)) (omega arith)))
        (λ t. absurd (f a.place (omega arith) (omega (arith, ltb-false a.place b.place t)))))

-- each used span has a byte
abbrev filled : Span → Bool
filled a = ltb 0 a.size

filled_if : (flag place size : ℕ) (s : List Span) → (flag ≡ 1 → 0 < size) → every filled s ≡ true → every filled (span_if flag place size s) ≡ true
unfolding every
filled_if flag place size s f e =
    by_test (is_used flag)
    (λ q. rw (q, lt-ltb 0 size (f (eqb-true flag 1 q))) e)
    (λ q. rw q e)

spans_filled : (s : List Column) → every column_fits s ≡ true → every filled (spans_of s) ≡ true
unfolding spans_of every
spans_filled [] e = refl
spans_filled (c ∷ s) e =
    filled_if c.value.used c.value.offset c.value.size _ value
    (filled_if c.status.used c.status.offset status_size _ (λ u. omega arith)
    (filled_if c.length.used c.length.offset length_size _ (λ u. omega arith)
    (spans_filled s (both_right (column_fits c) (every column_fits s) e))))
  where
    value : c.value.used ≡ 1 → 0 < c.value.size
    value u = let p = parts c (both_left (column_fits c) (every column_fits s) e) in
        omega (
          arith,
          sized_used (cell_size c.property c.vtype) c.value p.2 u,
          ltb-true 0 (cell_size c.property c.vtype) p.1,
        )

pub sound_fit : (width : ℕ) (columns : List Column) → Sound width columns → fit width columns ≡ true
unfolding fit columns_fit
sound_fit width columns s =
    both_true (within 1 columns_most (length columns)) (both (within 1 row_most width) (columns_fit width columns))
    (in_range_lem 1 columns_most (length columns) s.count)
    (both_true (within 1 row_most width) (columns_fit width columns) (in_range_lem 1 row_most width s.row) together)
  where
    size : ℕ → ℕ
    size k = cell_size (column columns k).property (column columns k).vtype

    each : every column_fits columns ≡ true
    each =
        every_all column_fits columns _ (λ k h.
        both_true (known (column columns k).property) (typed (size k) (column columns k).value)
        (in_range_lem key_property note_property (column columns k).property (s.known k h))
        (both_true (ltb 0 (size k)) (sized (size k) (column columns k).value)
        (lt-ltb 0 (size k) (s.typed k h))
        (sized_shown (size k) (column columns k).value (s.sized k h))))

    once : pairwise differ columns ≡ true
    once =
        pair_all differ columns _ (λ j k l h.
        ap not (ne_eqb (column columns j).property (column columns k).property (s.once j k l h)))

    lie : every (inside width) (spans_of columns) ≡ true
    lie = every_all (inside width) (spans_of columns) _ (λ i h. le-leb ((span columns i).place + (span columns i).size) width (s.inside i h))

    filled_at : (i : ℕ) → i < length (spans_of columns) → 0 < (span columns i).size
    filled_at i h = ltb-true 0 (span columns i).size (every_index filled (spans_of columns) _ (spans_filled columns each) i h)

    clear : pairwise apart (spans_of columns) ≡ true
    clear =
        pair_all apart (spans_of columns) _ (λ i j l h.
        apart_shown (span columns i) (span columns j) (filled_at i (omega arith)) (filled_at j h) (s.apart i j l h))

    together : columns_fit width columns ≡ true
    together =
        both_true (every column_fits columns) (both (pairwise differ columns) (both (every (inside width) (spans_of columns)) (pairwise apart (spans_of columns))))
        each
        (both_true (pairwise differ columns) (both (every (inside width) (spans_of columns)) (pairwise apart (spans_of columns)))
        once
        (both_true (every (inside width) (spans_of columns)) (pairwise apart (spans_of columns)) lie clear))
