-- The columns of a message, one at a time, and what is kept of them. Assumes nothing.
use mathlib.Core.Path.{◌≡◌, refl, ap, subst}
use mathlib.Core.Bool.{Bool, true, false}
use mathlib.Core.List.{List, []}
use Rattle.std.specs.Prelude.{Option, None, Some}
use Prim.Native.Nat.{ℕ, zero, suc, ◌+◌, ◌-◌, ◌<◌}
use native.Mathlib.Nat.{not-suc-le-zero}
use native.Mathlib.Numerals.{sub-one}
use lib.Dec.{eqb}
use lib.ListN.{length}
use Rattle.lists.specs.Below.{pick}
use borrow.Author.Tests.{eq-eqb, ne_eqb}
use Rattle.bindings.specs.Column.{kept, kept_all}
use Rattle.bindings.specs.declared.Column.{Column}
use Rattle.wire.specs.FieldPlaces.{padded_on}
use Rattle.lists.specs.Options.{and_then}
use Rattle.bindings.specs.ColumnPlaces.{column_on}
use Rattle.bindings.specs.BindingsPlaces.{columns_on, keeping}
use Rattle.bindings.specs.Plain.{before}

-- one column more
pub columns_more : (left : ℕ) (m : List ℕ) (at : ℕ) → 0 < left
    → columns_on left m at ≡ and_then (padded_on 4 m at) (λ place. and_then (column_on m place) (λ (c, next). before c (columns_on (left - 1) m next)))
unfolding columns_on
columns_more zero m at h = absurd (not-suc-le-zero h)
columns_more (suc n) m at h = rw (sub-one (suc n))

-- a column is kept, and the others after it
pub keeping_more : (k : ℕ) (words : List ℕ) (c : Column) (o : Option (List Column)) → keeping k words (before c o) ≡ keeping (k + 1) (kept words k c) o
unfolding kept_all
keeping_more k words c None = refl
keeping_more k words c (Some s) = refl

-- no column is left, and the message ends there or does not
module _ (k : ℕ) (words : List ℕ) (left : ℕ) (m : List ℕ) (at : ℕ) (e : left ≡ 0) where
  pub keeping_end : at ≡ length m → keeping k words (columns_on left m at) ≡ Some words
  unfolding columns_on kept_all
  keeping_end h = rw (e, eq-eqb at (length m) h)

  pub keeping_over : (at ≡ length m → ⊥) → keeping k words (columns_on left m at) ≡ None
  unfolding columns_on
  keeping_over h = rw (e, ne_eqb at (length m) h)

-- as many columns are read as were to be
abbrev Counted : ℕ → Option (List Column) → Type 0
Counted n None = Unit {0}
Counted n (Some s) = length s ≡ n

counted_end : (b : Bool) → Counted 0 (pick b (Some []) None)
counted_end true = refl
counted_end false = tt

counted_read : {A : Type 0} (n : ℕ) (o : Option A) (f : A → Option (List Column)) → ((a : A) → Counted n (f a)) → Counted n (and_then o f)
counted_read n None f h = tt
counted_read n (Some r) f h = h r

counted_before : (n : ℕ) (c : Column) (o : Option (List Column)) → Counted n o → Counted (suc n) (before c o)
counted_before n c None h = tt
counted_before n c (Some s) h = ap suc h

counted : (n : ℕ) (m : List ℕ) (at : ℕ) → Counted n (columns_on n m at)
unfolding columns_on
counted zero m at = counted_end (eqb at (length m))
counted (suc n) m at =
    counted_read (suc n) (padded_on 4 m at) _ (λ place.
    counted_read (suc n) (column_on m place) _ (λ (c, next). counted_before n c (columns_on n m next) (counted n m next)))

pub columns_count : (n : ℕ) (m : List ℕ) (at : ℕ) (s : List Column) → columns_on n m at ≡ Some s → length s ≡ n
columns_count n m at s e = subst (Counted n) e (counted n m at)
