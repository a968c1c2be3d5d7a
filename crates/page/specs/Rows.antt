-- The rows of a reply (01, "Rows"): how many it has, and their bytes.
use Rattle.std.specs.Prelude.{List, [], ◌∷◌, ◌++◌, ℕ, zero, suc, ◌+◌, ◌-◌, ◌*◌, ◌≤◌, leb, take}
use Rattle.lists.specs.Below.{pick}
use Rattle.catalogue.specs.Plain.{Row}
use Rattle.bindings.specs.declared.Column.{Column}
use Rattle.wire.specs.Laid.{Laid}
use Rattle.page.specs.Cell.{block_room, column_spans}

-- the bytes of a row's blocks, and of the blocks of rows
unfoldable pub blocks : List Column → Row → ℕ
blocks [] r = 0
blocks (c ∷ columns) r = block_room c r + blocks columns r

unfoldable pub all_blocks : List Column → List Row → ℕ
all_blocks columns [] = 0
all_blocks columns (r ∷ rows) = blocks columns r + all_blocks columns rows

-- "K rows fit when R + K × W + their blocks is at most B"
abbrev pub Fits : ℕ → ℕ → ℕ → List Column → List Row → ℕ → Type 0
Fits size from width columns rows k = from + k * width + all_blocks columns (take k rows) ≤ size

-- "Returned: the least of rows asked, rows remaining, and the greatest K that fits": row by row, with the room that is left
unfoldable pub returned : ℕ → List Column → ℕ → ℕ → List Row → ℕ
returned width columns zero room rows = 0
returned width columns (suc asked) room [] = 0
returned width columns (suc asked) room (r ∷ rows) =
    pick (leb (width + blocks columns r) room) (suc (returned width columns asked (room - (width + blocks columns r)) rows)) 0

-- the spans of a row: "Blocks go downward from byte B, .. columns in binding order"; each block ends where the one before begins
unfoldable pub row_spans : ℕ → ℕ → ℕ → List Column → Row → List Laid
row_spans base row top [] r = []
row_spans base row top (c ∷ columns) r =
    column_spans base row (top - block_room c r) c r ++ row_spans base row (top - block_room c r) columns r

-- the spans of rows: "rows from R .., each W .. wide", "rows in order"
unfoldable pub rows_spans : ℕ → ℕ → ℕ → ℕ → List Column → List Row → List Laid
rows_spans base width row top columns [] = []
rows_spans base width row top columns (r ∷ rows) =
    row_spans base row top columns r ++ rows_spans base width (row + width) (top - blocks columns r) columns rows
