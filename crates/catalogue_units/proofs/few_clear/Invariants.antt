use Rattle.std.proofs.Common.{◌≡◌, true}
use Rattle.catalogue.proofs.TextLaws.{clear_below}
use Rattle.catalogue_units.proofs.few_clear.Given as goal

abbrev pub invariant-loop-i : goal.invariant-loop-i
invariant-loop-i l = clear_below l.units l.i ≡ true
