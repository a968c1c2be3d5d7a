-- The bytes of a row's columns (01, "Rows"): cells, status bytes, lengths and blocks, each laid at its place in the reply.
use Rattle.std.specs.Prelude.{List, [], ◌∷◌, ◌++◌, ℕ, ◌+◌, ◌-◌, ◌*◌, eqb, length, replicate}
use Rattle.lists.specs.Below.{pick}
use Rattle.wire.specs.Word.{le}
use Rattle.catalogue.specs.Plain.{Row}
use Rattle.catalogue.specs.Writer.{unit_bytes}
use Rattle.wire.specs.Property.{variant_type, variant_size, number_type, number_size, length_size}
use Rattle.bindings.specs.Fit.{is_used}
use Rattle.bindings.specs.declared.Column.{Column}
use Rattle.wire.specs.Laid.{Laid}
use Rattle.page.specs.Field.{Field, number, text, absent, field_of}

-- "Status byte: 0 present, 2 absent"
abbrev pub status_of : Field → ℕ
status_of (number v) = 0
status_of (text units) = 0
status_of absent = 2

-- "two bytes a unit and two more"
abbrev pub text_size : List ℕ → ℕ
text_size units = 2 * length units + 2

-- "Length: 4 for a number; for text two bytes a unit and two more, also where no value is bound; 0 if absent"
abbrev pub length_of : ℕ → Field → ℕ
length_of property (number v) = number_size property
length_of property (text units) = text_size units
length_of property absent = 0

-- "A 16-byte cell is type (2 bytes), 6 zero bytes, then 8": a number in the first of the eight
abbrev pub variant : ℕ → ℕ → ℕ → List ℕ
variant type width v = le 2 type ++ (replicate 6 0 ++ (le width v ++ replicate (8 - width) 0))

-- "0x001F with _ulClientBase plus the block's place from the reply's start in the first 4"
abbrev pub text_type : ℕ
text_type = 0x001F

abbrev pub offset_width : ℕ
offset_width = 4

-- a cell of 16 bytes, given the offset of the text's block; "absent text, 16 zeros"
abbrev pub variant_of : ℕ → ℕ → Field → List ℕ
variant_of property offset (number v) = variant (number_type property) (number_size property) v
variant_of property offset (text units) = variant text_type offset_width offset
variant_of property offset absent = replicate variant_size 0

-- the type of a field's cell, and the number in it
abbrev pub kind_of : ℕ → Field → ℕ
kind_of property (number v) = number_type property
kind_of property (text units) = text_type
kind_of property absent = 0

abbrev pub content_of : ℕ → Field → ℕ
content_of offset (number v) = v
content_of offset (text units) = offset
content_of offset absent = 0

-- "A 4-byte cell is the number"; fit bindings have such a cell on numbers only
abbrev pub cell_of : ℕ → ℕ → ℕ → Field → List ℕ
cell_of property type offset f =
    pick (eqb type variant_type) (variant_of property offset f) (le (number_size property) (content_of offset f))

-- "Each label or note that is present and bound with its value used has a block: its units and one zero unit"
abbrev pub block_of : List ℕ → List ℕ
block_of units = unit_bytes units ++ (0 ∷ 0 ∷ [])

abbrev pub block_size : Field → ℕ
block_size (number v) = 0
block_size (text units) = text_size units
block_size absent = 0

abbrev pub block_span : ℕ → Field → List Laid
block_span place (number v) = []
block_span place (text units) = record { place = place; bytes = block_of units } ∷ []
block_span place absent = []

-- what is laid for a column where its flag says used
abbrev pub laid_if : ℕ → ℕ → List ℕ → List Laid
laid_if flag place bytes = pick (is_used flag) (record { place = place; bytes = bytes } ∷ []) []

-- the bytes of a column's block in a row, 0 where it has none
abbrev pub block_room : Column → Row → ℕ
block_room c r = pick (is_used c.value.used) (block_size (field_of c.property r)) 0

-- the spans of a column whose field is given, in the row at `row`, with its block at `place`
abbrev pub field_spans : ℕ → ℕ → ℕ → Column → Field → List Laid
field_spans base row place c f =
    pick (is_used c.value.used) (block_span place f) []
    ++ (laid_if c.value.used (row + c.value.offset) (cell_of c.property c.vtype (base + place) f)
    ++ (laid_if c.status.used (row + c.status.offset) (status_of f ∷ [])
    ++ laid_if c.length.used (row + c.length.offset) (le length_size (length_of c.property f))))

-- the spans of a column in a row of the catalogue
unfoldable pub column_spans : ℕ → ℕ → ℕ → Column → Row → List Laid
column_spans base row place c r = field_spans base row place c (field_of c.property r)
