-- Four bytes where the length is used. Assumes nothing.
use Prim.Native.Nat.{◌+◌}
use Rattle.wire.specs.Word.{le}
use Rattle.page.proofs.Fields.{laid_unused, laid_used}
use Rattle.page_cell.proofs.lay_length.Goals as goal

pub returns-then-column-eq1 : goal.returns-then-column-eq1
returns-then-column-eq1 c =
    let a = c.args in
    laid_used a.reply.now _ a.column.length.used (a.row + a.column.length.offset) (le 4 a.shown.size) c.if-column-eq1.true c.lay_word.ensures

pub returns-else-column-eq1 : goal.returns-else-column-eq1
returns-else-column-eq1 c =
    let a = c.args in
    laid_unused a.reply.now a.column.length.used _ c.if-column-eq1.false
