-- What is known of a catalogue that was checked: what its readers rely on.
use Rattle.std.specs.Prelude.{◌≡◌, List, ℕ, ◌+◌, ◌≤◌, ◌<◌, Some, length, get_or}
use Rattle.catalogue.specs.declared.Text.{Text}
use Rattle.catalogue.specs.declared.Fields.{Fields}
use Rattle.catalogue.specs.NumberPlaces.{reading_at}
use Rattle.catalogue.specs.CataloguePlaces.{text_at, row_at, unit_bytes_of, row_seen}
use Rattle.catalogue.specs.Limits.{key_most, number_most, size_most}
use Rattle.catalogue.specs.Plain.{catalogue, rows_of, row_in}

-- a number, a text and a row stand at a place
abbrev pub NumberAtReady : ℕ → List ℕ → ℕ → Type 0
NumberAtReady limit s at = (v : ℕ) × (next : ℕ) × (reading_at limit s at ≡ Some (v, next))

abbrev pub TextAtReady : List ℕ → ℕ → Type 0
TextAtReady s at = (t : Text) × (next : ℕ) × (text_at s at ≡ Some (t, next))

abbrev pub RowAtReady : List ℕ → ℕ → Type 0
RowAtReady s at = (f : Fields) × (next : ℕ) × (row_at s at ≡ Some (f, next))

-- a text's units lie in the catalogue's bytes
pub record UnitsReady (s : List ℕ) (t : Text) : Type 0 where
  pub small : t.size ≤ size_most
  pub inside : t.start + unit_bytes_of t.size ≤ length s

-- the fields of a row in the catalogue's bytes
pub record FieldsReady (s : List ℕ) (f : Fields) : Type 0 where
  pub key : f.key ≤ key_most
  pub language : f.language ≤ number_most
  pub default : f.default ≤ number_most
  pub label : UnitsReady s f.label
  pub note : UnitsReady s f.note

-- each row stands at its place
abbrev pub PlacesReady : List ℕ → List ℕ → Type 0
PlacesReady s places =
    (k : ℕ) → k < length (rows_of (catalogue s))
    → RowAtReady s (get_or places k 0) × (row_seen s (get_or places k 0) ≡ row_in (rows_of (catalogue s)) k)
