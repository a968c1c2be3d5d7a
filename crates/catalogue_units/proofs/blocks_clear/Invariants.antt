use Rattle.std.proofs.Common.{◌≡◌}
use Rattle.lists.specs.Below.{both}
use Rattle.catalogue.specs.CataloguePlaces.{clear_from}
use Rattle.catalogue_units.proofs.blocks_clear.Given as goal

abbrev pub invariant-loop-i : goal.invariant-loop-i
invariant-loop-i l = l.clear ≡ both (clear_from l.units l.first l.i) (clear_from l.units l.second l.i)
