-- `query_open::judge` meets its contract: each answer is the first cause that applies, by the tests that led to it. Assumes nothing.
use mathlib.Core.Path.{sym}
use Rattle.query.proofs.OpenLaws.{open_gone, open_full, open_bad, open_free}
use Rattle.query_open.proofs.judge.Goals as goal

pub returns-then-seat-eq0 : goal.returns-then-seat-eq0
returns-then-seat-eq0 c = open_gone c.args.seat.now c.args.tree.now c.if-seat-eq0.true

pub returns-in_default : goal.returns-in_default
returns-in_default c = open_full c.args.seat.now c.args.tree.now c.if-seat-eq0.false c.in_default.ensures

pub returns-then-well_formed : goal.returns-then-well_formed
returns-then-well_formed c =
    open_free c.args.seat.now c.args.tree.now c.if-seat-eq0.false _ c.in-Some.ensures.0 c.in-Some.ensures.1 (sym c.if-well_formed.ensures)

pub returns-else-well_formed : goal.returns-else-well_formed
returns-else-well_formed c =
    open_bad c.args.seat.now c.args.tree.now c.if-seat-eq0.false c.in-Some.ensures.1 (sym c.if-well_formed.ensures)
