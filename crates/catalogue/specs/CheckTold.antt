-- What the check of a catalogue answers, and what it leaves of the array that it was lent.
use Rattle.std.specs.Prelude.{◌≡◌, Bool, Option, List, ℕ}
use Rattle.std.proofs.lemmas.List.Edits.{sets}
use Rattle.catalogue.specs.CataloguePlaces.{rows_end, places_from, checked, noted}

-- so many rows from a place on: whether they end the bytes, and their places
pub record ChecksRows (count : ℕ) (s : List ℕ) (first : ℕ) (held : List ℕ) (well : Bool) (left : List ℕ) : Type 0 where
  pub ended : well ≡ rows_end count s first
  pub placed : left ≡ sets held 0 (places_from count s first)

-- the whole: its row count, or none where it is malformed, and the place of each row
pub record Checks (s held : List ℕ) (answer : Option ℕ) (left : List ℕ) : Type 0 where
  pub answered : answer ≡ checked s
  pub placed : left ≡ noted s held
