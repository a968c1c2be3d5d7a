use Rattle.std.proofs.Common.{◌≡◌, ◌-◌}
use Rattle.catalogue.specs.CataloguePlaces.{row_at, end_of, texts_end}
use Rattle.catalogue_end.proofs.row_end.Given as goal

abbrev pub invariant-loop : goal.invariant-loop
invariant-loop l = end_of (row_at l.catalogue l.at) ≡ texts_end (2 - l.counter) l.catalogue l.place
