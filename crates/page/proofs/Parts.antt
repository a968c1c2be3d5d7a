-- What fit bindings say of a first column and of the others, and what a column's spans are. Assumes nothing.
use mathlib.Core.Path.{◌≡◌}
use mathlib.Core.Bool.{Bool, true}
use mathlib.Core.List.{List, ◌∷◌}
use Prim.Native.Nat.{ℕ, ◌<◌}
use borrow.Author.Tests.{ltb-true, eqb-false}
use lib.ListN.{length}
use Rattle.lists.specs.Below.{both, within}
use Rattle.lists.proofs.Below.{by_test, both_left, both_right}
use Rattle.lists.specs.Every.{every, pairwise}
use Rattle.bindings.specs.Column.{columns_most}
use Rattle.wire.specs.Property.{cell_size, status_size, length_size}
use Rattle.bindings.specs.Fit.{is_used, span_if, spans_of, inside, apart, column_fits, differ, row_most, columns_fit, fit}
use Rattle.bindings.specs.declared.Column.{Column}
use Rattle.bindings.specs.declared.Span.{Span}
use Rattle.bindings.proofs.Sound.{parts, sized_used}

-- columns that fit rows of a width
pub record Good (width : ℕ) (columns : List Column) : Type 0 where
  pub types : every column_fits columns ≡ true
  pub lie : every (inside width) (spans_of columns) ≡ true
  pub clear : pairwise apart (spans_of columns) ≡ true

pub good : (width : ℕ) (columns : List Column) → fit width columns ≡ true → Good width columns
unfolding fit columns_fit
good width columns e =
    let c = both_right (within 1 row_most width) _ (both_right (within 1 columns_most (length columns)) _ e) in
    let d = both_right (pairwise differ columns) _ (both_right (every column_fits columns) _ c) in
    record {
      types = both_left (every column_fits columns) _ c;
      lie = both_left (every (inside width) (spans_of columns)) (pairwise apart (spans_of columns)) d;
      clear = both_right (every (inside width) (spans_of columns)) (pairwise apart (spans_of columns)) d;
    }

-- a span in front of others, where it is used
front : (test : Span → Bool) (flag place size : ℕ) (s : List Span) → every test (span_if flag place size s) ≡ true
    → (flag ≡ 1 → test (record { place = place; size = size }) ≡ true) × (every test s ≡ true)
unfolding every
front test flag place size s e =
    by_test (is_used flag)
    (λ q.
    let f : both (test (record { place = place; size = size })) (every test s) ≡ true = rw q at e in
    (λ u. both_left _ (every test s) f, both_right (test (record { place = place; size = size })) _ f))
    (λ q. (λ u. absurd (eqb-false flag 1 q u), rw q at e))

pair_front : (flag place size : ℕ) (s : List Span) → pairwise apart (span_if flag place size s) ≡ true
    → (flag ≡ 1 → every (apart (record { place = place; size = size })) s ≡ true) × (pairwise apart s ≡ true)
unfolding pairwise
pair_front flag place size s e =
    by_test (is_used flag)
    (λ q.
    let f : both (every (apart (record { place = place; size = size })) s) (pairwise apart s) ≡ true = rw q at e in
    (λ u. both_left _ (pairwise apart s) f, both_right (every (apart (record { place = place; size = size })) s) _ f))
    (λ q. (λ u. absurd (eqb-false flag 1 q u), rw q at e))

-- a column's three spans in a row
abbrev pub value_in : Column → Span
value_in c = record { place = c.value.offset; size = c.value.size }

abbrev pub status_in : Column → Span
status_in c = record { place = c.status.offset; size = status_size }

abbrev pub length_in : Column → Span
length_in c = record { place = c.length.offset; size = length_size }

-- a test holds of the used spans of a column, and of those of the others
pub record Tests (test : Span → Bool) (c : Column) (s : List Column) : Type 0 where
  pub value : c.value.used ≡ 1 → test (value_in c) ≡ true
  pub status : c.status.used ≡ 1 → test (status_in c) ≡ true
  pub length : c.length.used ≡ 1 → test (length_in c) ≡ true
  pub others : every test (spans_of s) ≡ true

pub tests : (test : Span → Bool) (c : Column) (s : List Column) → every test (spans_of (c ∷ s)) ≡ true → Tests test c s
unfolding spans_of
tests test c s e =
    let v = front test c.value.used c.value.offset c.value.size _ e in
    let t = front test c.status.used c.status.offset status_size _ v.1 in
    let l = front test c.length.used c.length.offset length_size _ t.1 in
    record { value = v.0; status = t.0; length = l.0; others = l.1 }

-- a column in front of others: its cell has the size of its type, and no two used spans meet
pub record First (width : ℕ) (c : Column) (s : List Column) : Type 0 where
  pub typed : 0 < cell_size c.property c.vtype
  pub size : c.value.used ≡ 1 → c.value.size ≡ cell_size c.property c.vtype
  pub lie : Tests (inside width) c s
  pub value_status : c.value.used ≡ 1 → c.status.used ≡ 1 → apart (value_in c) (status_in c) ≡ true
  pub value_length : c.value.used ≡ 1 → c.length.used ≡ 1 → apart (value_in c) (length_in c) ≡ true
  pub status_length : c.status.used ≡ 1 → c.length.used ≡ 1 → apart (status_in c) (length_in c) ≡ true
  pub value : c.value.used ≡ 1 → every (apart (value_in c)) (spans_of s) ≡ true
  pub status : c.status.used ≡ 1 → every (apart (status_in c)) (spans_of s) ≡ true
  pub length : c.length.used ≡ 1 → every (apart (length_in c)) (spans_of s) ≡ true
  pub others : Good width s

pub first : (width : ℕ) (c : Column) (s : List Column) → Good width (c ∷ s) → First width c s
unfolding every spans_of
first width c s g =
    let fits = both_left (column_fits c) (every column_fits s) g.types in
    let size : ℕ = cell_size c.property c.vtype in
    let p = parts c fits in
    let rest : List Span = spans_of s in
    let after_status : List Span = span_if c.length.used c.length.offset length_size rest in
    let after_value : List Span = span_if c.status.used c.status.offset status_size after_status in
    let v = pair_front c.value.used c.value.offset c.value.size after_value g.clear in
    let t = pair_front c.status.used c.status.offset status_size after_status v.1 in
    let l = pair_front c.length.used c.length.offset length_size rest t.1 in
    let vs : c.value.used ≡ 1 → (c.status.used ≡ 1 → apart (value_in c) (status_in c) ≡ true) × (every (apart (value_in c)) after_status ≡ true) =
    λ u. front (apart (value_in c)) c.status.used c.status.offset status_size after_status (v.0 u) in
    let vl : c.value.used ≡ 1 → (c.length.used ≡ 1 → apart (value_in c) (length_in c) ≡ true) × (every (apart (value_in c)) rest ≡ true) =
    λ u. front (apart (value_in c)) c.length.used c.length.offset length_size rest (vs u).1 in
    let sl : c.status.used ≡ 1 → (c.length.used ≡ 1 → apart (status_in c) (length_in c) ≡ true) × (every (apart (status_in c)) rest ≡ true) =
    λ u. front (apart (status_in c)) c.length.used c.length.offset length_size rest (t.0 u) in
    let lie = tests (inside width) c s g.lie in
    record {
      typed = ltb-true 0 size p.1;
      size = sized_used size c.value p.2;
      lie = lie;
      value_status = λ u w. (vs u).0 w;
      value_length = λ u w. (vl u).0 w;
      status_length = λ u w. (sl u).0 w;
      value = λ u. (vl u).1;
      status = λ u. (sl u).1;
      length = l.0;
      others = record { types = both_right (column_fits c) (every column_fits s) g.types; lie = lie.others; clear = l.1 };
    }
