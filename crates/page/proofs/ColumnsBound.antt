-- Fit bindings: each column's used spans lie in the row. Assumes nothing.
use mathlib.Core.Path.{◌≡◌, subst}
use mathlib.Core.Bool.{true}
use mathlib.Core.List.{List}
use Prim.Native.Nat.{ℕ, zero, suc, ◌+◌, ◌≤◌, ◌<◌}
use native.Mathlib.Nat.{add-zero, not-suc-le-zero, le_of_suc-le-suc}
use native.Mathlib.Omega.{arith}
use borrow.Author.Tests.{leb-true}
use Rattle.bindings.specs.Column.{columns_most, column_at, columns_from, columns_of}
use Rattle.wire.specs.Property.{status_size, length_size}
use Rattle.bindings.specs.Fit.{fit}
use Rattle.bindings.specs.declared.Column.{Column}
use Rattle.bindings.proofs.Columns.{from_length}
use Rattle.bindings.proofs.Sound.{fit_sound}
use Rattle.page.specs.FieldReady.{SpansReady}
use Rattle.page.specs.RowReady.{AllSpansReady}
use Rattle.page.proofs.Parts.{Good, good, First, first}

in_row : (width : ℕ) (c : Column) (s : List Column) → First width c s → SpansReady width 0 c
in_row width c s f =
    record {
      typed = f.typed;
      value = λ u. omega (arith, leb-true (c.value.offset + c.value.size) width (f.lie.value u), f.size u);
      status = λ u. omega (arith, leb-true (c.status.offset + status_size) width (f.lie.status u));
      length = λ u. omega (arith, leb-true (c.length.offset + length_size) width (f.lie.length u));
    }

-- the j-th of n columns from the k-th on
column_in_row : (width n k j : ℕ) (words : List ℕ) → Good width (columns_from n k words) → j < n → SpansReady width 0 (column_at words (k + j))
unfolding columns_from
column_in_row width zero k j words g h = absurd (not-suc-le-zero h)
column_in_row width (suc n) k zero words g h =
    rw (add-zero k) (in_row width (column_at words k) (columns_from n (k + 1) words) (first width (column_at words k) (columns_from n (k + 1) words) g))
column_in_row width (suc n) k (suc j) words g h =
    subst (λ (i : ℕ). SpansReady width 0 (column_at words i)) next
    (column_in_row width n (k + 1) j words (first width (column_at words k) (columns_from n (k + 1) words) g).others (le_of_suc-le-suc h))
  where
    next : k + 1 + j ≡ k + suc j
    next = omega arith

module _ (width bound : ℕ) (words : List ℕ) (fits : fit width (columns_of bound words) ≡ true) where
  pub bound_few : bound ≤ columns_most
  bound_few = omega (arith, (fit_sound width (columns_of bound words) fits).count.1, from_length bound 0 words)

  pub bound_in : AllSpansReady width 0 words bound
  bound_in k h =
      subst (λ (i : ℕ). SpansReady width 0 (column_at words i)) here (column_in_row width bound 0 k words (good width (columns_of bound words) fits) h)
    where
      here : 0 + k ≡ k
      here = omega arith
