-- `catalogue_units::many_clear` meets its contract. The loop's invariant: none of the units passed is zero; the blocks at the end
-- begin within those. Assumes nothing.
use Rattle.std.proofs.Common.{arith, refl, sym, ◌∙◌, ◌+◌, ◌-◌, ◌*◌, ◌/◌, length}
use Rattle.lists.proofs.Below.{every_start}
use Rattle.catalogue.proofs.TextLaws.{clear_all, clear_two, clear_broken}
use Rattle.catalogue_units.proofs.many_clear.Goals as goal

pub loop-block-init : goal.loop-block-init
loop-block-init c = every_start _

pub returns-then-not-blocks_clear : goal.returns-then-not-blocks_clear
returns-then-not-blocks_clear c =
    let l = c.loop-block in
    let units = c.args.units.now in
    sym
    (clear_broken units (32 * (l.block + 1)) (length units / 2) (omega arith)
    (sym (clear_two units 16 (32 * l.block) (32 * l.block) (32 * l.block + 16) (32 * (l.block + 1)) l.invariant (omega arith) (omega arith) (omega arith) (omega arith))
    ∙ sym c.blocks_clear.ensures
    ∙ c.if-not-blocks_clear.true))
    ∙ clear_all units (length units / 2) refl

pub loop-block-preserved : goal.loop-block-preserved
loop-block-preserved c =
    let l = c.loop-block in
    let units = c.args.units.now in
    sym (clear_two units 16 (32 * l.block) (32 * l.block) (32 * l.block + 16) (32 * (l.block + 1)) l.invariant (omega arith) (omega arith) (omega arith) (omega arith))
    ∙ sym c.blocks_clear.ensures
    ∙ c.if-not-blocks_clear.false

pub returns : goal.returns
returns c =
    let l = c.loop-block in
    let units = c.args.units.now in
    let count = length units / 2 in
    c.blocks_clear-2.ensures
    ∙ clear_two units 16 (32 * l.block) (count - 32) (count - 16) count l.invariant (omega arith) (omega arith) (omega arith) (omega arith)
    ∙ clear_all units (length units / 2) refl
