-- `table_judge::seat_well` meets its contract: the flag picks the case, and the cursors are tested one after the other. Assumes nothing.
use mathlib.Core.Path.{sym, ◌∙◌, ap}
use native.Mathlib.Omega.{arith}
use lib.ListN.{get_or}
use Rattle.lists.proofs.Below.{both_stop, both_go}
use Rattle.table.specs.Layout.{connected_at}
use Rattle.table.specs.Well.{cursor_well, seat_well}
use Rattle.table.proofs.Judging.{flag_unset, flag_set, flag_bad}
use Rattle.table_judge.proofs.seat_well.Goals as goal

pub returns-in-0 : goal.returns-in-0
unfolding seat_well
returns-in-0 c = c.all_zero.ensures ∙ sym (flag_unset _ _ _ c.in-0.is)

pub returns-in_default : goal.returns-in_default
unfolding seat_well
returns-in_default c = sym (flag_bad (get_or c.args.seat.now connected_at 0) _ _ (omega arith) (omega arith))

pub returns-else-cursor_well : goal.returns-else-cursor_well
unfolding seat_well
returns-else-cursor_well c =
    c.if-cursor_well.false
    ∙ sym (flag_set _ _ _ c.in-1.is ∙ both_stop _ (ap cursor_well (sym c.cursor.ensures) ∙ sym c.cursor_well.ensures ∙ c.if-cursor_well.false))

pub returns-then-cursor_well : goal.returns-then-cursor_well
unfolding seat_well
returns-then-cursor_well c =
    c.cursor_well-then-cursor_well.ensures ∙ ap cursor_well c.cursor-then-cursor_well.ensures
    ∙ sym (flag_set _ _ _ c.in-1.is ∙ both_go _ (ap cursor_well (sym c.cursor.ensures) ∙ sym c.cursor_well.ensures ∙ c.if-cursor_well.true))
