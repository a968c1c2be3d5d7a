-- The catalogue of 01's whole case: its seventeen bytes, its two rows, and what the check says of it.
use mathlib.Core.Path.{◌≡◌, refl}
use mathlib.Core.List.{[], ◌∷◌}
use Rattle.std.specs.Prelude.{Some}
use Rattle.lists.specs.Below.{every_below}
use Rattle.wire.specs.Word.{halves}
use Rattle.catalogue.specs.Groups.{groups, number}
use Rattle.catalogue.specs.NumberPlaces.{reading_at}
use Rattle.catalogue.specs.Plain.{text, row, rows, catalogue}
use Rattle.catalogue.specs.CataloguePlaces.{text_at, row_at, rows_end, places_from, checked, places}
use Rattle.catalogue.specs.Examples.{case_bytes, case_rows}

pub case_parses : catalogue case_bytes ≡ Some case_rows
unfolding catalogue rows row text number groups halves every_below
case_parses = refl

pub case_checked : (checked case_bytes ≡ Some 2) × (places case_bytes ≡ 1 ∷ 12 ∷ [])
unfolding checked places rows_end places_from row_at text_at reading_at groups halves every_below
case_checked = (refl, refl)
