-- What the writers of rows rely on.
use Rattle.std.specs.Prelude.{◌≡◌, List, [], ◌∷◌, ℕ, ◌+◌, ◌^◌, ◌≤◌, ◌<◌, length, get_or}
use Rattle.catalogue.specs.Plain.{Row}
use Rattle.catalogue.specs.CataloguePlaces.{row_seen, fields_seen}
use Rattle.catalogue.specs.CatalogueReady.{RowAtReady}
use Rattle.catalogue.specs.declared.Fields.{Fields}
use Rattle.bindings.specs.Column.{columns_most, column_at, columns_of}
use Rattle.bindings.specs.Fit.{row_most}
use Rattle.bindings.specs.declared.Column.{Column}
use Rattle.page.specs.Cell.{offset_width}
use Rattle.page.specs.FieldReady.{SpansReady}
use Rattle.page.specs.Rows.{blocks}
use Rattle.page.specs.declared.Sheet.{Sheet}

-- each row that has one of these numbers stands at its place
abbrev pub NumbersReady : List ℕ → List ℕ → List ℕ → Type 0
NumbersReady s places numbers = (i : ℕ) → i < length numbers → RowAtReady s (get_or places (get_or numbers i 0) 0)

-- the blocks of a row take at most this: five columns, each with a text of at most 2,048 units and its zero unit
abbrev pub blocks_most : ℕ
blocks_most = 20490

-- each column lies in the first n bytes, in a row at `row`
abbrev pub AllSpansReady : ℕ → ℕ → List ℕ → ℕ → Type 0
AllSpansReady n row words bound = (k : ℕ) → k < bound → SpansReady n row (column_at words k)

-- the room that rows take, row by row: their width and their blocks
unfoldable pub needed : ℕ → List Column → List Row → ℕ
needed width columns [] = 0
needed width columns (r ∷ rows) = width + blocks columns r + needed width columns rows

-- a row in a reply of n bytes, its fields as they stand at a place
pub record RowReady (n : ℕ) (s : List ℕ) (at : ℕ) (fields : Fields) (words : List ℕ) (bound base row top : ℕ) : Type 0 where
  pub read : fields ≡ fields_seen s at
  pub few : bound ≤ columns_most
  pub columns : AllSpansReady n row words bound
  pub room : blocks (columns_of bound words) (row_seen s at) ≤ top
  pub ends : top ≤ n
  pub offset : base + top < 256 ^ offset_width

-- rows in a reply of n bytes, laid by a sheet
pub record RowsReady (n : ℕ) (records : List ℕ) (sheet : Sheet) : Type 0 where
  pub few : sheet.bound ≤ columns_most
  pub narrow : sheet.width ≤ row_most
  pub columns : AllSpansReady sheet.width 0 records sheet.bound
  pub inside : sheet.from ≤ sheet.size
  pub ends : sheet.size ≤ n
  pub offset : sheet.base + sheet.size < 256 ^ offset_width
