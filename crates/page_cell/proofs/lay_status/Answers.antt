-- One byte where the status is used. Assumes nothing.
use mathlib.Core.List.{◌∷◌, []}
use Prim.Native.Nat.{◌+◌}
use Rattle.page.proofs.Fields.{laid_unused, laid_used}
use Rattle.page_cell.proofs.lay_status.Goals as goal

pub returns-then-column-eq1 : goal.returns-then-column-eq1
returns-then-column-eq1 c =
    let a = c.args in
    laid_used a.reply.now _ a.column.status.used (a.row + a.column.status.offset) (a.shown.status ∷ []) c.if-column-eq1.true c.lay_byte.ensures

pub returns-else-column-eq1 : goal.returns-else-column-eq1
returns-else-column-eq1 c =
    let a = c.args in
    laid_unused a.reply.now a.column.status.used _ c.if-column-eq1.false
