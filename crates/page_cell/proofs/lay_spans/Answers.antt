-- Cell, status and length, one after the other. Assumes nothing.
use Rattle.page.proofs.Column.{spans_laid}
use Rattle.page_cell.proofs.lay_spans.Goals as goal

pub returns : goal.returns
returns c =
    let a = c.args in
    spans_laid a.row a.column a.shown.kind a.shown.number a.shown.status a.shown.size a.reply.now _ _ _ c.lay_value.ensures c.lay_status.ensures c.lay_length.ensures
