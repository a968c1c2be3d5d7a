-- `catalogue_end::row_end` meets its contract. The loop's invariant: the row ends where the texts that are left end. Assumes nothing.
use Rattle.std.proofs.Common.{arith, sym, ◌∙◌, ◌+◌, ◌-◌}
use Rattle.catalogue.proofs.EndLaws.{row_ends, texts_more, texts_none}
use Rattle.catalogue_end.proofs.row_end.Goals as goal

pub returns-in_err-place : goal.returns-in_err-place
returns-in_err-place c = rw (c.from_residual.ensures, row_ends c.args.catalogue.now c.args.at, sym c.in_err-place.ensures)

pub loop-init : goal.loop-init
loop-init c = rw (row_ends c.args.catalogue.now c.args.at, sym c.in_ok-place.ensures)

pub returns-in_err-place-2 : goal.returns-in_err-place-2
returns-in_err-place-2 c =
    let l = c.loop in
    rw c.from_residual-in_err-place-2.ensures
    (sym
    (l.invariant
    ∙ texts_more (2 - l.counter) (2 - (l.counter + 1)) c.args.catalogue.now l.place (omega arith)
    ∙ rw (sym c.in_err-place-2.ensures)))

pub loop-preserved : goal.loop-preserved
loop-preserved c =
    let l = c.loop in
    l.invariant
    ∙ texts_more (2 - l.counter) (2 - (l.counter + 1)) c.args.catalogue.now l.place (omega arith)
    ∙ rw (sym c.in_ok-place-2.ensures)

pub returns : goal.returns
returns c =
    let l = c.loop in
    sym (l.invariant ∙ texts_none (2 - l.counter) c.args.catalogue.now l.place (omega arith))
