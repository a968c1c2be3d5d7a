-- Any two outcomes that a statement of a reply's writer allows agree. Assumes nothing.
use mathlib.Core.Path.{◌≡◌, sym, ◌∙◌, ap}
use mathlib.Core.List.{List}
use Prim.Native.Nat.{ℕ, ◌-◌}
use lib.ListN.{length, take}
use Rattle.wire.specs.Laid.{lays}
use Rattle.catalogue.specs.Plain.{Row}
use Rattle.bindings.specs.Column.{columns_of}
use Rattle.bindings.specs.declared.Column.{Column}
use Rattle.page.specs.Cell.{column_spans}
use Rattle.page.specs.RowPlaces.{rows_at}
use Rattle.page.specs.Page.{page, status_for}
use Rattle.page.specs.PageTold.{ColumnLaid, RowLaid, Paged}
use Rattle.page.specs.declared.Sheet.{Sheet}

pub column_once : (base row top : ℕ) (c : Column) (r : Row) (place place' : ℕ) (entry x x' : List ℕ) → ColumnLaid base row top c r place entry x
    → ColumnLaid base row top c r place' entry x' → (place ≡ place') × (x ≡ x')
column_once base row top c r place place' entry x x' k l =
    let same : place ≡ place' = k.placed ∙ sym l.placed in
    (same, k.laid ∙ (ap (λ p. lays entry (column_spans base row p c r)) same ∙ sym l.laid))

pub row_once : (base row top : ℕ) (columns : List Column) (r : Row) (place place' : ℕ) (entry x x' : List ℕ)
    → RowLaid base row top columns r place entry x → RowLaid base row top columns r place' entry x' → (place ≡ place') × (x ≡ x')
row_once base row top columns r place place' entry x x' k l = (k.placed ∙ sym l.placed, k.laid ∙ sym l.laid)

pub page_once : (sheet : Sheet) (records s places numbers : List ℕ) (sent sent' : ℕ) (entry x x' : List ℕ)
    → Paged sheet records s places numbers sent entry x → Paged sheet records s places numbers sent' entry x' → (sent ≡ sent') × (x ≡ x')
page_once sheet records s places numbers sent sent' entry x x' k l =
    let same : sent ≡ sent' = k.counted ∙ sym l.counted in (
      same,
      k.written
          ∙ (ap
          (λ n. page sheet.size sheet.from sheet.width sheet.base (status_for (length numbers - n)) (columns_of sheet.bound records)
          (take n (rows_at s places numbers)) entry)
          same
          ∙ sym l.written),
    )
