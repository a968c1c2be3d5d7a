use Rattle.std.proofs.Common.{◌≡◌, ◌*◌, true}
use Rattle.catalogue.proofs.TextLaws.{clear_below}
use Rattle.catalogue_units.proofs.many_clear.Given as goal

abbrev pub invariant-loop-block : goal.invariant-loop-block
invariant-loop-block l = clear_below l.units (32 * l.block) ≡ true
