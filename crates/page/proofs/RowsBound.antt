-- The columns of a row lie where the row lies, and a row stands at the place that was looked up. Assumes nothing.
use mathlib.Core.Path.{◌≡◌, sym, subst}
use mathlib.Core.List.{List}
use Prim.Native.Nat.{ℕ, ◌+◌, ◌≤◌, ◌<◌}
use native.Mathlib.Omega.{arith}
use lib.ListN.{length, get_or}
use Rattle.catalogue.specs.CatalogueReady.{RowAtReady}
use Rattle.bindings.specs.declared.Column.{Column}
use Rattle.page.specs.FieldReady.{SpansReady}
use Rattle.page.specs.RowReady.{NumbersReady}

-- a row of a width that lies in n bytes has its columns there
pub column_in : (width n row : ℕ) (c : Column) → row + width ≤ n → SpansReady width 0 c → SpansReady n row c
column_in width n row c h i =
    record {
      typed = i.typed;
      value = λ u. omega (arith, i.value u);
      status = λ u. omega (arith, i.status u);
      length = λ u. omega (arith, i.length u);
    }

-- a row stands at the place that was looked up
pub there_at : (s places numbers : List ℕ) (i at : ℕ) → NumbersReady s places numbers → i < length numbers → at ≡ get_or places (get_or numbers i 0) 0 → RowAtReady s at
there_at s places numbers i at t h e = subst (RowAtReady s) (sym e) (t i h)
