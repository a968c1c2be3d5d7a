-- `table_judge::cursor_below` meets its contract: a closed cursor and one of no rows have none above; of another the last row decides. Assumes nothing.
use mathlib.Core.Path.{sym, ◌∙◌}
use native.Mathlib.Omega.{arith}
use borrow.Author.Tests.{eq-eqb}
use Rattle.table.proofs.Bounds.{below_none, below_last, count_most}
use Rattle.table_judge.proofs.cursor_below.Goals as goal

pub bounds-cursor-count : goal.bounds-cursor-count
bounds-cursor-count c =
    omega (arith, count_most c.args.cursor.now c.requires c.if-cursor-eq0.false)

pub returns-then-count-eq0 : goal.returns-then-count-eq0
returns-then-count-eq0 c =
    let a = c.args in
    eq-eqb _ _ c.if-count-eq0.true ∙ sym (below_none a.rows a.cursor.now c.if-cursor-eq0.false c.if-count-eq0.true)

pub returns-else-count-eq0 : goal.returns-else-count-eq0
returns-else-count-eq0 c =
    sym (below_last c.args.rows c.args.cursor.now c.told-cursor c.requires c.if-cursor-eq0.false c.if-count-eq0.false)
