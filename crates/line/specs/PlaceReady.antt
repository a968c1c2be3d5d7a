-- Where the program stands in a file.
use Rattle.std.specs.Prelude.{ℕ, ◌≤◌}
use Rattle.line.specs.Line.{catalogue_most}
use Rattle.line.specs.declared.Place.{Place}
use Rattle.line.specs.Kept.{out_full}

-- with a line buffer of so many bytes: no more is kept, lent or waiting than may be
pub record PlaceReady (line : ℕ) (p : Place) : Type 0 where
  pub kept : p.kept ≤ line
  pub lent : p.catalogue ≤ catalogue_most
  pub waiting : p.used ≤ out_full
