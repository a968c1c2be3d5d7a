-- What the writer of a whole reply relies on.
use Rattle.std.specs.Prelude.{◌≡◌, true, List, ℕ, ◌+◌, ◌^◌, ◌≤◌, ◌<◌}
use Rattle.catalogue.specs.Limits.{rows_most}
use Rattle.bindings.specs.Column.{columns_of}
use Rattle.bindings.specs.Fit.{fit}
use Rattle.page.specs.Cell.{offset_width}
use Rattle.page.specs.declared.Sheet.{Sheet}

-- a whole reply in a buffer of n bytes: fit bindings, no more numbers than a catalogue has rows, and "_ulClientBase + B" not
-- "above 4,294,967,295"
pub record PageReady (n : ℕ) (records : List ℕ) (sheet : Sheet) (count : ℕ) : Type 0 where
  pub fits : fit sheet.width (columns_of sheet.bound records) ≡ true
  pub head : 32 ≤ sheet.from
  pub few : count ≤ rows_most
  pub inside : sheet.from ≤ sheet.size
  pub ends : sheet.size ≤ n
  pub offset : sheet.base + sheet.size < 256 ^ offset_width
