-- `catalogue_units::few_clear` meets its contract. The loop's invariant: none of the first i units is zero. Assumes nothing.
use Rattle.std.proofs.Common.{rules, refl, sym, ◌∙◌, ◌/◌, length}
use Rattle.lists.proofs.Below.{every_start, every_next, every_broken}
use Rattle.catalogue.specs.CataloguePlaces.{unit_clear}
use Rattle.catalogue.proofs.TextLaws.{clear_all}
use Rattle.catalogue_units.proofs.few_clear.Goals as goal

pub loop-i-init : goal.loop-i-init
loop-i-init c = every_start _

pub returns-then-not-unit_clear : goal.returns-then-not-unit_clear
returns-then-not-unit_clear c =
    let l = c.loop-i in
    let units = c.args.units.now in
    sym (every_broken (length units / 2) (unit_clear units) l.i (search rules) (sym c.unit_clear.ensures ∙ c.if-not-unit_clear.true))
    ∙ clear_all units (length units / 2) refl

pub loop-i-preserved : goal.loop-i-preserved
loop-i-preserved c = every_next c.loop-i.i _ (sym c.unit_clear.ensures ∙ c.if-not-unit_clear.false) ∙ c.loop-i.invariant

pub returns : goal.returns
returns c = sym c.loop-i.invariant ∙ clear_all c.args.units.now c.loop-i.i (search rules)
