-- What a client reads of a column in a row of a reply: each status, length, number and text at its bound place.
use Rattle.std.specs.Prelude.{◌≡◌, List, ℕ, suc, ◌+◌, ◌-◌, ◌*◌, ◌^◌, ◌<◌, eqb, length, get_or, take}
use Rattle.lists.specs.Below.{pick}
use Rattle.wire.specs.Word.{number_at}
use Rattle.catalogue.specs.Plain.{Row, row_in}
use Rattle.wire.specs.Property.{variant_type, variant_size, number_size, length_size}
use Rattle.bindings.specs.declared.Column.{Column}
use Rattle.lists.specs.Parts.{part, zeros}
use Rattle.page.specs.Field.{Field, number, text, absent}
use Rattle.page.specs.Cell.{offset_width, text_size, status_of, length_of, kind_of, block_of}
use Rattle.page.specs.Rows.{blocks, all_blocks}
use Rattle.wire.specs.Header.{get_rows_msg}

-- "rows from R .., each W .. wide"
abbrev pub row_place : ℕ → ℕ → ℕ → ℕ
row_place from width j = from + j * width

-- "Blocks go downward from byte B, rows in order, columns in binding order": where that of the k-th column in the j-th row begins
abbrev pub block_place : ℕ → List Column → List Row → ℕ → ℕ → ℕ
block_place size columns rows j k = size - all_blocks columns (take j rows) - blocks (take (suc k) columns) (row_in rows j)

-- a field that a cell and a length have room for
abbrev pub Held : Field → Type 0
Held (number v) = v < 256 ^ 4
Held (text units) = text_size units < 256 ^ 4
Held absent = Unit

-- where a number stands in its cell: after the type and six zeros, or at the start
abbrev pub number_place : Column → ℕ
number_place c = pick (eqb c.vtype variant_type) 8 0

-- a reply's bytes for a field, bound by a column in the row at `row`, with its block, if it has one, at `place`
pub record Reads (reply : List ℕ) (base row place : ℕ) (c : Column) (f : Field) : Type 0 where
  pub status : c.status.used ≡ 1 → get_or reply (row + c.status.offset) 0 ≡ status_of f
  pub length : c.length.used ≡ 1 → number_at length_size reply (row + c.length.offset) ≡ length_of c.property f
  pub type : c.value.used ≡ 1 → c.vtype ≡ variant_type → number_at 2 reply (row + c.value.offset) ≡ kind_of c.property f
  pub value : c.value.used ≡ 1 → (v : ℕ) → f ≡ number v
      → number_at (number_size c.property) reply (row + c.value.offset + number_place c) ≡ v
  pub offset : c.value.used ≡ 1 → c.vtype ≡ variant_type → (units : List ℕ) → f ≡ text units
      → number_at offset_width reply (row + c.value.offset + 8) ≡ base + place
  -- "6 zero bytes", the bytes after the number or offset, which stands "in the first 4" of 8, and "absent text, 16 zeros"
  pub blank : c.value.used ≡ 1 → c.vtype ≡ variant_type → part reply (row + c.value.offset + 2) 6 ≡ zeros 6
  pub rest : c.value.used ≡ 1 → c.vtype ≡ variant_type → part reply (row + c.value.offset + 12) 4 ≡ zeros 4
  pub nothing : c.value.used ≡ 1 → c.vtype ≡ variant_type → f ≡ absent → part reply (row + c.value.offset) variant_size ≡ zeros variant_size
  pub block : c.value.used ≡ 1 → (units : List ℕ) → f ≡ text units → part reply place (text_size units) ≡ block_of units

-- the eight words before the rows: the header, _cRowsReturned, eType, _chapt, skip
pub record HeadReads (reply : List ℕ) (status rows : ℕ) : Type 0 where
  pub message : number_at 4 reply 0 ≡ get_rows_msg
  pub result : number_at 4 reply 4 ≡ status
  pub checksum : number_at 4 reply 8 ≡ 0
  pub reserved : number_at 4 reply 12 ≡ 0
  pub count : number_at 4 reply 16 ≡ rows
  pub seek : number_at 4 reply 20 ≡ 1
  pub chapter : number_at 4 reply 24 ≡ 0
  pub skip : number_at 4 reply 28 ≡ 0

-- the units of a block, and the zero unit after them
pub record UnitsRead (reply : List ℕ) (place : ℕ) (units : List ℕ) : Type 0 where
  pub unit : (i : ℕ) → i < length units → get_or units i 0 < 256 ^ 2 → number_at 2 reply (place + 2 * i) ≡ get_or units i 0
  pub ended : number_at 2 reply (place + 2 * length units) ≡ 0
