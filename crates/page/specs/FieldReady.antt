-- What the code relies on: texts that lie in the catalogue's bytes, and spans that lie in the reply.
use Rattle.std.specs.Prelude.{◌≡◌, List, ℕ, ◌+◌, ◌^◌, ◌≤◌, ◌<◌}
use Rattle.catalogue.specs.Limits.{size_most}
use Rattle.catalogue.specs.CataloguePlaces.{row_of}
use Rattle.catalogue.specs.declared.Fields.{Fields}
use Rattle.wire.specs.Property.{cell_size, status_size, length_size}
use Rattle.bindings.specs.declared.Column.{Column}
use Rattle.page.specs.Cell.{offset_width, block_room}
use Rattle.catalogue.specs.CatalogueReady.{FieldsReady}

-- the used spans of a column, in the row at `row`, lie in the first n bytes
pub record SpansReady (n row : ℕ) (c : Column) : Type 0 where
  pub typed : 0 < cell_size c.property c.vtype
  pub value : c.value.used ≡ 1 → row + c.value.offset + cell_size c.property c.vtype ≤ n
  pub status : c.status.used ≡ 1 → row + c.status.offset + status_size ≤ n
  pub length : c.length.used ≡ 1 → row + c.length.offset + length_size ≤ n

-- sizes that the code can double, whatever the catalogue
abbrev pub SizesReady : Fields → Type 0
SizesReady f = (f.label.size ≤ size_most) × (f.note.size ≤ size_most)

-- what laying a column in a reply of n bytes relies on: the row's fields stand, the column lies in the reply, its block has
-- room below `top`, and every place up to there has an offset that the cell of a text can hold
pub record ColumnReady (n : ℕ) (s : List ℕ) (f : Fields) (c : Column) (base row top : ℕ) : Type 0 where
  pub stands : FieldsReady s f
  pub column : SpansReady n row c
  pub room : block_room c (row_of s f) ≤ top
  pub ends : top ≤ n
  pub offset : base + top < 256 ^ offset_width
