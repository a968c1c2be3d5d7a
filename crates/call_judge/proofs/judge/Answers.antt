-- `call_judge::judge` meets its contract: each answer is the first cause that applies, by the tests that led to it. Assumes nothing.
use Rattle.std.proofs.Common.{arith, ◌≡◌, refl, sym, ap, ◌∙◌, ℕ}
use Rattle.catalogue.specs.Plain.{refusal_of}
use Rattle.catalogue.specs.CataloguePlaces.{row_count}
use Rattle.refusal.specs.declared.Refusal.TheVariants.{SeatAbove, TableMalformed, CatalogueMalformed}
use Rattle.table.specs.Well.{table_below}
use Rattle.call.proofs.Causes.{seat_refused, table_refused, rows_refused, none_refused, rows_hold_lem, no_rows, judged_refused, judged_passed}
use Rattle.call_judge.proofs.judge.Goals as goal

pub returns-then-seat-gt-SEAT_MOST : goal.returns-then-seat-gt-SEAT_MOST
returns-then-seat-gt-SEAT_MOST c =
    let a = c.args in
    judged_refused a.table.now a.bytes.now a.seat.0 SeatAbove _ _ (seat_refused a.bytes.now a.table.now a.seat.0 c.if-seat-gt-SEAT_MOST.true) refl

pub returns-then-not-well : goal.returns-then-not-well
returns-then-not-well c =
    let a = c.args in
    judged_refused a.table.now a.bytes.now a.seat.0 TableMalformed _ _
    (table_refused a.bytes.now a.table.now a.seat.0 c.if-seat-gt-SEAT_MOST.false (sym c.well.ensures ∙ c.if-not-well.true))
    refl

pub returns-in_default : goal.returns-in_default
returns-in_default c =
    let a = c.args in
    judged_refused a.table.now a.bytes.now a.seat.0 CatalogueMalformed _ _
    (rows_refused a.bytes.now a.table.now a.seat.0 c.if-seat-gt-SEAT_MOST.false (sym c.well.ensures ∙ c.if-not-well.false)
    (no_rows a.bytes.now a.table.now (λ e. let z : 3 ≡ 0 = ap refusal_of c.in_default.ensures.answered ∙ e in omega arith)))
    c.in_default.ensures.placed

pub returns-else-below : goal.returns-else-below
returns-else-below c =
    let a = c.args in
    judged_refused a.table.now a.bytes.now a.seat.0 CatalogueMalformed _ _
    (rows_refused a.bytes.now a.table.now a.seat.0 c.if-seat-gt-SEAT_MOST.false (sym c.well.ensures ∙ c.if-not-well.false)
    (rows_hold_lem a.bytes.now a.table.now (sym (ap refusal_of c.in-Some.ensures.answered))
    ∙ ap (λ (n : ℕ). table_below n a.table.now) (sym (ap row_count c.in-Some.ensures.answered))
    ∙ sym c.if-below.ensures))
    c.in-Some.ensures.placed

pub returns-then-below : goal.returns-then-below
returns-then-below c =
    let a = c.args in
    judged_passed a.table.now a.bytes.now a.seat.0 _ _ _
    (none_refused a.bytes.now a.table.now a.seat.0 c.if-seat-gt-SEAT_MOST.false (sym c.well.ensures ∙ c.if-not-well.false)
    (rows_hold_lem a.bytes.now a.table.now (sym (ap refusal_of c.in-Some.ensures.answered))
    ∙ ap (λ (n : ℕ). table_below n a.table.now) (sym (ap row_count c.in-Some.ensures.answered))
    ∙ sym c.if-below.ensures))
    (ap row_count c.in-Some.ensures.answered)
    c.in-Some.ensures.placed
