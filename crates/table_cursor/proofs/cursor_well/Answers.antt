-- `table_cursor::cursor_well` meets its contract: the flag picks the case. Assumes nothing.
use mathlib.Core.Path.{sym, ◌∙◌}
use native.Mathlib.Omega.{arith}
use lib.ListN.{get_or}
use Rattle.table.specs.Layout.{open_at}
use Rattle.table.specs.Well.{cursor_well}
use Rattle.table.proofs.Judging.{flag_unset, flag_set, flag_bad}
use Rattle.table_cursor.proofs.cursor_well.Goals as goal

pub returns-in-0 : goal.returns-in-0
unfolding cursor_well
returns-in-0 c = c.all_zero.ensures ∙ sym (flag_unset _ _ _ c.in-0.is)

pub returns-in_default : goal.returns-in_default
unfolding cursor_well
returns-in_default c = sym (flag_bad (get_or c.args.cursor.now open_at 0) _ _ (omega arith) (omega arith))

pub returns-in-1 : goal.returns-in-1
unfolding cursor_well
returns-in-1 c = c.open_well.ensures ∙ sym (flag_set _ _ _ c.in-1.is)
