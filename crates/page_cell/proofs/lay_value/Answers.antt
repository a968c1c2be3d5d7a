-- Nothing where the value is not used, else a cell of sixteen bytes or a number. Assumes nothing.
use Prim.Native.Nat.{◌+◌}
use borrow.Author.Tests.{eq-eqb, ne_eqb}
use Rattle.page.specs.CellPlaces.{cell_bytes}
use Rattle.page.proofs.Fields.{laid_unused, laid_used}
use Rattle.page_cell.proofs.lay_value.Goals as goal

pub returns-then-column-ne1 : goal.returns-then-column-ne1
returns-then-column-ne1 c =
    let a = c.args in
    laid_unused a.reply.now a.column.value.used _ c.if-column-ne1.true

pub returns-then-column-eq-VARIANT_TYPE : goal.returns-then-column-eq-VARIANT_TYPE
returns-then-column-eq-VARIANT_TYPE c =
    let a = c.args in
    let k = a.column in
    laid_used a.reply.now c.lay_variant.new.reply k.value.used (a.row + k.value.offset) (cell_bytes k.property k.vtype a.shown.kind a.shown.number) c.if-column-ne1.false
    (rw (eq-eqb k.vtype 0x000C c.if-column-eq-VARIANT_TYPE.true) c.lay_variant.ensures)

pub returns : goal.returns
returns c =
    let a = c.args in
    let k = a.column in
    laid_used a.reply.now c.lay_word.new.reply k.value.used (a.row + k.value.offset) (cell_bytes k.property k.vtype a.shown.kind a.shown.number) c.if-column-ne1.false
    (rw (ne_eqb k.vtype 0x000C c.if-column-eq-VARIANT_TYPE.false) c.lay_word.ensures)
