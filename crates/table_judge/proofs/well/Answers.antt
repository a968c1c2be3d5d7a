-- `table_judge::well` meets its contract. The loop's invariant: the seats passed are well. Assumes nothing.
use mathlib.Core.Path.{sym, ap, ◌∙◌}
use native.Mathlib.Omega.{arith}
use Prim.Native.Nat.{◌<◌}
use lib.ListN.{length}
use borrow.Author.Count.{below_more}
use borrow.Author.Tests.{eq-eqb, ne_eqb}
use Rattle.lists.proofs.Below.{both_stop, both_go, every_shown, every_broken}
use Rattle.table.specs.Layout.{seats, table_size}
use Rattle.table.specs.Well.{seat_well, table_well}
use Rattle.table.proofs.Chunks.{seats_count, seat_chunk}
use Rattle.table_judge.proofs.well.Goals as goal

pub returns-then-table-ne-TABLE_SIZE : goal.returns-then-table-ne-TABLE_SIZE
unfolding table_well
returns-then-table-ne-TABLE_SIZE c = sym (both_stop _ (ne_eqb (length c.args.table.now) table_size c.if-table-ne-TABLE_SIZE.true))

pub returns-then-not-seat_well : goal.returns-then-not-seat_well
unfolding table_well
returns-then-not-seat_well c =
    let t = c.args.table.now in
    let l = c.if-table-ne-TABLE_SIZE.false in
    let k = c.loop-seat.seat-index in
    let front = c.as_chunks.ensures.front in
    let h : k < seats = omega (arith, seats_count t l _ front) in
    sym
    (both_go _ (eq-eqb (length t) table_size l)
    ∙ every_broken 8 _ k h (ap seat_well (sym (seat_chunk t l _ front k h)) ∙ sym c.seat_well.ensures ∙ c.if-not-seat_well.true))

pub loop-seat-preserved : goal.loop-seat-preserved
loop-seat-preserved c =
    let t = c.args.table.now in
    let l = c.if-table-ne-TABLE_SIZE.false in
    let k = c.loop-seat.seat-index in
    let front = c.as_chunks.ensures.front in
    let h : k < seats = omega (arith, seats_count t l _ front) in
    below_more _ _ c.loop-seat.invariant
    (ap seat_well (sym (seat_chunk t l _ front k h)) ∙ sym c.seat_well.ensures ∙ c.if-not-seat_well.false)

pub returns : goal.returns
unfolding table_well
returns c =
    let t = c.args.table.now in
    let l = c.if-table-ne-TABLE_SIZE.false in
    let n = seats_count t l _ c.as_chunks.ensures.front in
    sym (both_go _ (eq-eqb (length t) table_size l) ∙ every_shown 8 _ (λ k h. c.loop-seat.invariant k (omega (arith, h, n))))
