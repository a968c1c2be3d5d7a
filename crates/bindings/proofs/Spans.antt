-- The used spans of a row, part by part and column by column: an unused one counts as an empty one. Assumes nothing.
use mathlib.Core.Path.{◌≡◌, refl, sym, ap, ap₂, ◌∙◌}
use mathlib.Core.Bool.{Bool, true, false}
use mathlib.Core.List.{List, [], ◌∷◌, ◌++◌}
use Prim.Native.Nat.{ℕ, ◌+◌}
use native.Mathlib.Omega.{arith}
use borrow.Author.Tests.{le-leb}
use lib.Dec.{leb}
use Rattle.lists.specs.Below.{both, either}
use Rattle.lists.proofs.Below.{by_test, both_assoc, both_swap, both_last, both_go}
use Rattle.lists.specs.Every.{every, across, pairwise}
use Rattle.lists.proofs.Every.{every_append, across_append, pair_append}
use Rattle.wire.specs.Property.{status_size, length_size}
use Rattle.bindings.specs.Fit.{is_used, span_if, spans_of, inside, apart, flag_of, place_of, size_of, span_of}
use Rattle.bindings.specs.declared.Column.{Column}
use Rattle.bindings.specs.declared.Span.{Span}

abbrev pub none : Span
none = record { place = 0; size = 0 }

-- an empty span lies in every row and meets none
pub inside_none : (width : ℕ) → inside width none ≡ true
inside_none width = le-leb 0 width (omega arith)

pub apart_none : (a : Span) → apart a none ≡ true
apart_none a = rw (le-leb 0 a.place (omega arith)) (either_true (leb (a.place + a.size) 0))
  where
    either_true : (b : Bool) → either b true ≡ true
    either_true true = refl
    either_true false = refl

none_apart : (s : List Span) → every (apart none) s ≡ true
unfolding every
none_apart [] = refl
none_apart (b ∷ s) = rw (le-leb 0 b.place (omega arith)) (none_apart s)

-- a part of a column in front of others, where it is used
abbrev pub part_if : Column → ℕ → List Span → List Span
part_if c part rest = span_if (flag_of c part) (place_of c part) (size_of c part) rest

-- it is judged as what stands for it, used or not
pub every_if : (test : Span → Bool) → test none ≡ true → (c : Column) (p : ℕ) (s : List Span)
    → every test (part_if c p s) ≡ both (test (span_of c p)) (every test s)
unfolding every
every_if test e c p s = by_test (is_used (flag_of c p)) (λ q. rw q) (λ q. rw (q, e))

pub pair_if : (c : Column) (p : ℕ) (s : List Span) → pairwise apart (part_if c p s) ≡ both (every (apart (span_of c p)) s) (pairwise apart s)
unfolding pairwise
pair_if c p s = by_test (is_used (flag_of c p)) (λ q. rw q) (λ q. rw (q, none_apart s))

-- a span that may be used is one, or none, in front of the others
if_append : (used place size : ℕ) (rest : List Span) → span_if used place size rest ≡ span_if used place size [] ++ rest
if_append used place size rest = by_test (is_used used) (λ q. rw q) (λ q. rw q)

-- the spans that a column may use
abbrev pub value_if : Column → List Span
value_if c = span_if c.value.used c.value.offset c.value.size []

abbrev pub status_if : Column → List Span
status_if c = span_if c.status.used c.status.offset status_size []

abbrev pub length_if : Column → List Span
length_if c = span_if c.length.used c.length.offset length_size []

of_column_lem : (c : Column) → spans_of (c ∷ []) ≡ value_if c ++ (status_if c ++ length_if c)
unfolding spans_of
of_column_lem c =
    if_append c.value.used c.value.offset c.value.size _
    ∙ ap (◌++◌ (value_if c)) (if_append c.status.used c.status.offset status_size _)

of_columns : (c : Column) (s : List Column) → spans_of (c ∷ s) ≡ spans_of (c ∷ []) ++ spans_of s
unfolding spans_of
of_columns c s =
    by_test (is_used c.value.used)
    (λ q. by_test (is_used c.status.used) (λ r. by_test (is_used c.length.used) (λ t. rw (q, r, t)) (λ t. rw (q, r, t))) (λ r. by_test (is_used c.length.used) (λ t. rw (q, r, t)) (λ t. rw (q, r, t))))
    (λ q. by_test (is_used c.status.used) (λ r. by_test (is_used c.length.used) (λ t. rw (q, r, t)) (λ t. rw (q, r, t))) (λ r. by_test (is_used c.length.used) (λ t. rw (q, r, t)) (λ t. rw (q, r, t))))

-- each span of a column, and of columns
pub column_every : (test : Span → Bool) (c : Column)
    → every test (spans_of (c ∷ [])) ≡ both (every test (value_if c)) (both (every test (status_if c)) (every test (length_if c)))
column_every test c =
    ap (every test) (of_column_lem c)
    ∙ every_append test (value_if c) (status_if c ++ length_if c)
    ∙ ap (both (every test (value_if c))) (every_append test (status_if c) (length_if c))

pub columns_every : (test : Span → Bool) (c : Column) (s : List Column)
    → every test (spans_of (c ∷ s)) ≡ both (every test (spans_of (c ∷ []))) (every test (spans_of s))
columns_every test c s = ap (every test) (of_columns c s) ∙ every_append test (spans_of (c ∷ [])) (spans_of s)

-- any two of a column, each of a column with others, and any two of columns
if_pairs : (used place size : ℕ) → pairwise apart (span_if used place size []) ≡ true
unfolding pairwise every
if_pairs used place size = by_test (is_used used) (λ q. rw q) (λ q. rw q)

pub column_pairs : (c : Column)
    → pairwise apart (spans_of (c ∷ []))
    ≡ both (across apart (value_if c) (status_if c)) (both (across apart (value_if c) (length_if c)) (across apart (status_if c) (length_if c)))
column_pairs c =
    ap (pairwise apart) (of_column_lem c)
    ∙ pair_append apart (value_if c) (status_if c ++ length_if c)
    ∙ both_go _ (if_pairs c.value.used c.value.offset c.value.size)
    ∙ ap₂ both (across_append apart (value_if c) (status_if c) (length_if c)) own
    ∙ both_assoc (across apart (value_if c) (status_if c)) (across apart (value_if c) (length_if c)) _
  where
    own : pairwise apart (status_if c ++ length_if c) ≡ across apart (status_if c) (length_if c)
    own =
        pair_append apart (status_if c) (length_if c)
        ∙ both_go _ (if_pairs c.status.used c.status.offset status_size)
        ∙ rw (if_pairs c.length.used c.length.offset length_size) (both_last _)

pub columns_pairs : (c : Column) (s : List Column)
    → pairwise apart (spans_of (c ∷ s))
    ≡ both (pairwise apart (spans_of (c ∷ []))) (both (across apart (spans_of (c ∷ [])) (spans_of s)) (pairwise apart (spans_of s)))
columns_pairs c s = ap (pairwise apart) (of_columns c s) ∙ pair_append apart (spans_of (c ∷ [])) (spans_of s)

-- so a test of each span is one of each column, and a test of any two spans one of each column and of any two columns
pub spans_every : (test : Span → Bool) (s : List Column) → every test (spans_of s) ≡ every (λ c. every test (spans_of (c ∷ []))) s
unfolding every spans_of
spans_every test [] = refl
spans_every test (c ∷ s) = columns_every test c s ∙ ap (both (every test (spans_of (c ∷ [])))) (spans_every test s)

abbrev pub own : Column → Bool
own c = pairwise apart (spans_of (c ∷ []))

abbrev pub clear : Column → Column → Bool
clear c d = across apart (spans_of (c ∷ [])) (spans_of (d ∷ []))

across_none : (a : List Span) → across apart a [] ≡ true
unfolding across every
across_none [] = refl
across_none (b ∷ a) = across_none a

column_clears : (c : Column) (s : List Column) → across apart (spans_of (c ∷ [])) (spans_of s) ≡ every (clear c) s
unfolding every spans_of
column_clears c [] = across_none (spans_of (c ∷ []))
column_clears c (d ∷ s) =
    ap (across apart (spans_of (c ∷ []))) (of_columns d s)
    ∙ across_append apart (spans_of (c ∷ [])) (spans_of (d ∷ [])) (spans_of s)
    ∙ ap (both (clear c d)) (column_clears c s)

pub spans_pairs : (s : List Column) → pairwise apart (spans_of s) ≡ both (every own s) (pairwise clear s)
unfolding every pairwise spans_of
spans_pairs [] = refl
spans_pairs (c ∷ s) =
    columns_pairs c s
    ∙ ap (both (own c)) (ap₂ both (column_clears c s) (spans_pairs s))
    ∙ sym (both_assoc (own c) (every (clear c) s) (both (every own s) (pairwise clear s)))
    ∙ both_swap (own c) (every (clear c) s) (every own s) (pairwise clear s)
