-- What is known before rows are fetched.
use Rattle.std.specs.Prelude.{◌≡◌, true, List, ℕ, ◌≤◌, length, Some}
use Rattle.catalogue.specs.Plain.{catalogue, rows_of}
use Rattle.catalogue.specs.CatalogueReady.{PlacesReady}
use Rattle.table.specs.Seat.{cursor_words, cursor_held}
use Rattle.table.specs.Well.{cursor_below}
use Rattle.table.specs.Fits.{CursorFits}
use Rattle.fetch.specs.declared.Request.{Request}
use Rattle.fetch.specs.Request.{Sound}

-- the words of an open cursor that passes, whose row numbers the catalogue has, its rows at their places, a sound request, and
-- a buffer with room for the reply
pub record FetchReady (b s places : List ℕ) (q : Request) (buffer : ℕ) : Type 0 where
  pub held : b ≡ cursor_words (Some (cursor_held b))
  pub fits : CursorFits (cursor_held b)
  pub below : cursor_below (length (rows_of (catalogue s))) (Some (cursor_held b)) ≡ true
  pub placed : PlacesReady s places
  pub sound : Sound q
  pub room : q.size ≤ buffer
