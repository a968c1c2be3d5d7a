-- What the writers of a reply answer, and the buffer that they leave.
use Rattle.std.specs.Prelude.{◌≡◌, List, ℕ, ◌-◌, length, take}
use Rattle.wire.specs.Laid.{lays}
use Rattle.catalogue.specs.Plain.{Row}
use Rattle.bindings.specs.Column.{columns_of}
use Rattle.bindings.specs.declared.Column.{Column}
use Rattle.page.specs.Cell.{block_room, column_spans}
use Rattle.page.specs.Rows.{blocks, returned, row_spans, rows_spans}
use Rattle.page.specs.RowPlaces.{rows_at}
use Rattle.page.specs.Page.{page, status_for}
use Rattle.page.specs.declared.Sheet.{Sheet}

-- a column of a row, and a whole row, with their blocks below `top`: where the last block begins is told
pub record ColumnLaid (base row top : ℕ) (c : Column) (r : Row) (place : ℕ) (entry exit : List ℕ) : Type 0 where
  pub placed : place ≡ top - block_room c r
  pub laid : exit ≡ lays entry (column_spans base row place c r)

pub record RowLaid (base row top : ℕ) (columns : List Column) (r : Row) (place : ℕ) (entry exit : List ℕ) : Type 0 where
  pub placed : place ≡ top - blocks columns r
  pub laid : exit ≡ lays entry (row_spans base row top columns r)

-- the rows with these numbers: how many were sent is told
pub record RowsLaid (sheet : Sheet) (records s places numbers : List ℕ) (sent : ℕ) (entry exit : List ℕ) : Type 0 where
  pub counted : sent ≡ returned sheet.width (columns_of sheet.bound records) sheet.asked (sheet.size - sheet.from) (rows_at s places numbers)
  pub laid : exit
      ≡ lays entry
      (rows_spans sheet.base sheet.width sheet.from sheet.size (columns_of sheet.bound records) (take sent (rows_at s places numbers)))

-- the whole reply with them
pub record Paged (sheet : Sheet) (records s places numbers : List ℕ) (sent : ℕ) (entry exit : List ℕ) : Type 0 where
  pub counted : sent ≡ returned sheet.width (columns_of sheet.bound records) sheet.asked (sheet.size - sheet.from) (rows_at s places numbers)
  pub written : exit
      ≡ page sheet.size sheet.from sheet.width sheet.base (status_for (length numbers - sent)) (columns_of sheet.bound records)
      (take sent (rows_at s places numbers)) entry
