-- `catalogue_check::check` meets its contract: the size, the row count and the rows decide, each by a law. Assumes nothing.
use Rattle.std.proofs.Common.{arith, sym, ◌∙◌, true, false}
use Rattle.catalogue.proofs.Inside.{reading_read}
use Rattle.catalogue.proofs.CheckLaws.{too_long, no_count, by_rows}
use Rattle.catalogue_check.proofs.check.Goals as goal

pub returns-then-catalogue-gt-BYTES_MOST : goal.returns-then-catalogue-gt-BYTES_MOST
returns-then-catalogue-gt-BYTES_MOST c = let a = c.args in too_long a.catalogue.now a.places.now c.if-catalogue-gt-BYTES_MOST.true

pub returns-in_err-count : goal.returns-in_err-count
returns-in_err-count c =
    let a = c.args in
    rw c.from_residual.ensures (no_count a.catalogue.now a.places.now c.if-catalogue-gt-BYTES_MOST.false (sym c.in_err-count.ensures))

pub check_rows-requires : goal.check_rows-requires
check_rows-requires c =
    let a = c.args in
    let r = reading_read 1024 a.catalogue.now 0 c.in_ok-count.count c.in_ok-count.first (sym c.in_ok-count.ensures) in
    (c.if-catalogue-gt-BYTES_MOST.false, r.inside, r.small)

pub overflow_cast-result : goal.overflow_cast-result
overflow_cast-result c =
    let r = reading_read 1024 c.args.catalogue.now 0 c.in_ok-count.count c.in_ok-count.first (sym c.in_ok-count.ensures) in
    omega (arith, r.small)

pub returns-then-check_rows : goal.returns-then-check_rows
returns-then-check_rows c =
    let a = c.args in
    let rows = c.check_rows in
    by_rows a.catalogue.now a.places.now c.in_ok-count.count c.in_ok-count.first true _ c.if-catalogue-gt-BYTES_MOST.false (sym c.in_ok-count.ensures)
    (record { ended = sym (c.if-check_rows.true) ∙ rows.ensures.ended; placed = rows.ensures.placed })

pub returns-else-check_rows : goal.returns-else-check_rows
returns-else-check_rows c =
    let a = c.args in
    let rows = c.check_rows in
    by_rows a.catalogue.now a.places.now c.in_ok-count.count c.in_ok-count.first false _ c.if-catalogue-gt-BYTES_MOST.false (sym c.in_ok-count.ensures)
    (record { ended = sym (c.if-check_rows.false) ∙ rows.ensures.ended; placed = rows.ensures.placed })
