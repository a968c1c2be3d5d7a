-- `catalogue_check::check_rows` meets its contract. The loop's invariant says what is left: the rows from the present place on, and their places over the array. Assumes nothing.
use Rattle.std.proofs.Common.{arith, sym, ◌∙◌, ◌+◌, ◌-◌}
use Rattle.catalogue.proofs.Found.{gone, there}
use Rattle.catalogue.specs.CataloguePlaces.{row_at}
use Rattle.catalogue.proofs.RowLaws.{row_inside}
use Rattle.catalogue.proofs.RowsLaws.{rows_more, rows_bad, places_more, places_bad, rows_none, places_none}
use Rattle.catalogue_check.proofs.check_rows.Goals as goal

pub returns-in_default : goal.returns-in_default
returns-in_default c =
    let l = c.loop-i in
    let s = c.args.catalogue.now in
    let count = c.args.count in
    let e = gone (row_at s l.at) c.in_default.ensures in
    record {
      ended = sym (rows_bad (count - l.i) (count - (l.i + 1)) s l.at l.places l.i (omega arith) e) ∙ l.invariant.1;
      placed = sym (places_bad (count - l.i) (count - (l.i + 1)) s l.at l.places l.i (omega arith) e) ∙ l.invariant.2;
    }

pub loop-i-preserved : goal.loop-i-preserved
loop-i-preserved c =
    let l = c.loop-i in
    let s = c.args.catalogue.now in
    let count = c.args.count in
    let next = c.in-Some.next in
    let row = there (row_at s l.at) next c.in-Some.ensures in (
      row_inside s l.at row.0 next row.1,
      rows_more (count - l.i) (count - (l.i + 1)) s l.at l.places l.i (omega arith) row.0 next row.1 ∙ l.invariant.1,
      places_more (count - l.i) (count - (l.i + 1)) s l.at l.places l.i (omega arith) row.0 next row.1 ∙ l.invariant.2,
    )

pub returns : goal.returns
returns c =
    let l = c.loop-i in
    let s = c.args.catalogue.now in
    let count = c.args.count in
    record {
      ended = sym (rows_none (count - l.i) s l.at (omega arith)) ∙ l.invariant.1;
      placed = sym (places_none (count - l.i) s l.at l.places l.i (omega arith)) ∙ l.invariant.2;
    }
