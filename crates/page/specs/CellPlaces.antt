-- What the code lays and counts of a column: its cell in all of its bytes, its spans in the row, the room of its block by the
-- size that the catalogue has, and how many columns send each of a row's texts.
use Rattle.std.specs.Prelude.{List, [], ◌∷◌, ◌++◌, ℕ, ◌+◌, ◌*◌, eqb}
use Rattle.lists.specs.Below.{pick}
use Rattle.wire.specs.Word.{le}
use Rattle.wire.specs.Laid.{Laid}
use Rattle.wire.specs.Property.{variant_type, number_size, length_size, label_property, is_number}
use Rattle.catalogue.specs.declared.Text.{Text}
use Rattle.catalogue.specs.declared.Fields.{Fields}
use Rattle.bindings.specs.Fit.{is_used}
use Rattle.bindings.specs.declared.Column.{Column}
use Rattle.page.specs.Cell.{laid_if}
use Rattle.page.specs.declared.Texts.{Texts}

-- a cell by its type and its number, in all of its bytes
abbrev pub cell_bytes : ℕ → ℕ → ℕ → ℕ → List ℕ
cell_bytes property type kind v = pick (eqb type variant_type) (le 8 kind ++ le 8 v) (le (number_size property) v)

-- the cell, the status byte and the length of a column, in the row at `row`
abbrev pub spans_sent : ℕ → Column → ℕ → ℕ → ℕ → ℕ → List Laid
spans_sent row c kind v status size =
    laid_if c.value.used (row + c.value.offset) (cell_bytes c.property c.vtype kind v)
    ++ (laid_if c.status.used (row + c.status.offset) (status ∷ [])
    ++ laid_if c.length.used (row + c.length.offset) (le length_size size))

-- the room of a text's block, where the value is used: its units and one more
abbrev pub room_at : ℕ → Text → ℕ
room_at used t = pick (is_used used) (2 * t.size) 0

-- how many labels a column sends, and how many notes; one that sends neither a number nor the label sends the note
abbrev pub label_sent : Column → ℕ
label_sent c = pick (is_used c.value.used) (pick (eqb c.property label_property) 1 0) 0

abbrev pub note_sent : Column → ℕ
note_sent c = pick (is_used c.value.used) (pick (eqb c.property label_property) 0 (pick (is_number c.property) 0 1)) 0

unfoldable pub texts_sent : List Column → Texts
texts_sent [] = record { labels = 0; notes = 0 }
texts_sent (c ∷ columns) =
    record { labels = label_sent c + (texts_sent columns).labels; notes = note_sent c + (texts_sent columns).notes }

-- the bytes of a row's blocks, by how many of each are sent
abbrev pub blocks_by : Texts → Fields → ℕ
blocks_by t f = 2 * (t.labels * f.label.size + t.notes * f.note.size)
