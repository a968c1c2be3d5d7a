-- A catalogue that was checked, with the places of its rows.
use Rattle.std.specs.Prelude.{List, ◌≡◌, Some, ℕ, take}
use Rattle.catalogue.specs.CataloguePlaces.{checked, places}

-- it is well formed and has so many rows, whose places a list begins with
pub record NotedReady (s : List ℕ) (rows : ℕ) (held : List ℕ) : Type 0 where
  pub well : checked s ≡ Some rows
  pub noted : take rows held ≡ places s
