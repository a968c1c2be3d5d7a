-- The rows of a reply by their places in the catalogue.
use Rattle.std.specs.Prelude.{List, map, ℕ, get_or}
use Rattle.catalogue.specs.Plain.{Row}
use Rattle.catalogue.specs.CataloguePlaces.{row_seen}

-- the rows that have these numbers, in a catalogue whose rows stand at these places
abbrev pub rows_at : List ℕ → List ℕ → List ℕ → List Row
rows_at s places numbers = map (λ k. row_seen s (get_or places k 0)) numbers
