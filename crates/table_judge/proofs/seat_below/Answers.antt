-- `table_judge::seat_below` meets its contract: an unconnected seat has no rows; the cursors of another are tested one after the other. Assumes nothing.
use mathlib.Core.Path.{◌∙◌, ap}
use Rattle.table.specs.Well.{cursor_well}
use Rattle.table.proofs.Bounds.{seat_parts}
use Rattle.table_judge.proofs.seat_below.Goals as goal

pub cursor_below-requires : goal.cursor_below-requires
cursor_below-requires c = ap cursor_well c.cursor.ensures ∙ (seat_parts c.args.seat.now c.requires c.if-seat-eq0.false).0

pub cursor_below-requires-then-cursor_below : goal.cursor_below-requires-then-cursor_below
cursor_below-requires-then-cursor_below c =
    ap cursor_well c.cursor-then-cursor_below.ensures ∙ (seat_parts c.args.seat.now c.requires c.if-seat-eq0.false).1
