-- `catalogue_units::blocks_clear` meets its contract. The loop's invariant: the flag says that none of the first i units of either
-- block is zero. Assumes nothing.
use Rattle.std.proofs.Common.{sym, ap₂}
use Rattle.lists.specs.Below.{both}
use Rattle.lists.proofs.Below.{every_start}
use Rattle.catalogue.proofs.TextLaws.{blocks_more}
use Rattle.catalogue_units.proofs.blocks_clear.Goals as goal

pub loop-i-init : goal.loop-i-init
loop-i-init c = sym (ap₂ both (every_start _) (every_start _))

pub loop-i-preserved : goal.loop-i-preserved
loop-i-preserved c =
    let a = c.args in
    blocks_more a.units.now a.first a.second c.loop-i.i _ _ _ c.loop-i.invariant c.unit_clear-in-loop-i.ensures c.unit_clear.ensures
