use Rattle.std.proofs.Common.{◌≡◌, ◌-◌, ◌≤◌, length}
use Rattle.std.proofs.lemmas.List.Edits.{sets}
use Rattle.catalogue.specs.CataloguePlaces.{rows_end, places_from}
use Rattle.catalogue_check.proofs.check_rows.Given as goal

abbrev pub invariant-loop-i : goal.invariant-loop-i
invariant-loop-i l = (l.at ≤ length l.catalogue) × (rows_end (l.i-end - l.i) l.catalogue l.at ≡ rows_end l.i-end l.catalogue l.first) × (sets l.places l.i (places_from (l.i-end - l.i) l.catalogue l.at) ≡ sets l.initial.places 0 (places_from l.i-end l.catalogue l.first))
