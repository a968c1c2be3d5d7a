-- The writer of the option catalogue, the plain parser's other half: what parses is exactly what it writes.
use Rattle.std.specs.Prelude.{List, [], ◌∷◌, ◌++◌, ℕ, ◌+◌, ◌≤◌, ◌<◌, length, get_or, Option, None, Some}
use Rattle.wire.specs.Word.{le}
use Rattle.catalogue.specs.Groups.{written}
use Rattle.catalogue.specs.Limits.{rows_most, key_most, number_most, size_most, bytes_most}
use Rattle.catalogue.specs.Plain.{Row}

-- "the units, two bytes each, low byte first"
unfoldable pub unit_bytes : List ℕ → List ℕ
unit_bytes [] = []
unit_bytes (u ∷ units) = le 2 u ++ unit_bytes units

-- "0 for absent, else its count of UTF-16 units plus one .., then the units"
abbrev pub write_text : Option (List ℕ) → List ℕ
write_text None = written 0
write_text (Some units) = written (length units + 1) ++ unit_bytes units

-- a row, rows one after the other, and the whole: the row count, then the rows
abbrev pub write_row : Row → List ℕ
write_row r = written r.key ++ (written r.language ++ (written r.default ++ (write_text r.label ++ write_text r.note)))

unfoldable pub write_rows : List Row → List ℕ
write_rows [] = []
write_rows (r ∷ rs) = write_row r ++ write_rows rs

abbrev pub write : List Row → List ℕ
write rs = written (length rs) ++ write_rows rs

-- what a text, a row and a catalogue must be for the writer's bytes to be well formed
abbrev pub TextFits : Option (List ℕ) → Type 0
TextFits None = Unit {0}
TextFits (Some units) = (length units < size_most) × ((i : ℕ) → i < length units → (0 < get_or units i 0) × (get_or units i 0 < 65536))

pub record RowFits (r : Row) : Type 0 where
  pub key : r.key ≤ key_most
  pub language : r.language ≤ number_most
  pub default : r.default ≤ number_most
  pub label : TextFits r.label
  pub note : TextFits r.note

unfoldable pub RowsFit : List Row → Type 0
RowsFit [] = Unit {0}
RowsFit (r ∷ rs) = RowFits r × RowsFit rs

pub record Fits (rs : List Row) : Type 0 where
  pub count : length rs ≤ rows_most
  pub each : RowsFit rs
  pub size : length (write rs) ≤ bytes_most
