-- `catalogue_units::none_zero` meets its contract: two blocks have all units where they are as many as that. Assumes nothing.
use Rattle.std.proofs.Common.{arith, refl, ◌∙◌, ◌-◌, ◌/◌, length}
use Rattle.lists.proofs.Below.{every_start}
use Rattle.catalogue.proofs.TextLaws.{clear_all, clear_two}
use Rattle.catalogue_units.proofs.none_zero.Goals as goal

pub returns-in-8-to-16 : goal.returns-in-8-to-16
returns-in-8-to-16 c =
    let units = c.args.units.now in
    let count = length units / 2 in
    c.blocks_clear.ensures
    ∙ clear_two units 8 0 0 (count - 8) count (every_start _) (omega arith) (omega arith) (omega arith) (omega arith)
    ∙ clear_all units count refl

pub returns-in-17-to-32 : goal.returns-in-17-to-32
returns-in-17-to-32 c =
    let units = c.args.units.now in
    let count = length units / 2 in
    c.blocks_clear-in-17-to-32.ensures
    ∙ clear_two units 16 0 0 (count - 16) count (every_start _) (omega arith) (omega arith) (omega arith) (omega arith)
    ∙ clear_all units count refl
