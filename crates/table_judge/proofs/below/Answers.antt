-- `table_judge::below` meets its contract. The loop's invariant: the rows of the seats passed are below the bound. Assumes nothing.
use mathlib.Core.Path.{sym, ap, ◌∙◌}
use mathlib.Core.List.{List}
use native.Mathlib.Omega.{arith}
use Prim.Native.Nat.{ℕ, ◌<◌}
use borrow.Author.Count.{below_more}
use Rattle.lists.proofs.Below.{every_shown, every_broken}
use Rattle.table.specs.Layout.{seats}
use Rattle.table.specs.Seat.{seat_of}
use Rattle.table.specs.Well.{seat_well, seat_below, table_below}
use Rattle.table.proofs.Chunks.{seats_count, seat_chunk}
use Rattle.table.proofs.Tables.{table_length, table_seat}
use Rattle.table_judge.proofs.below.Goals as goal

pub seat_below-requires : goal.seat_below-requires
seat_below-requires c =
    let t = c.args.table.now in
    let l = table_length t c.requires in
    let k = c.loop-seat.seat-index in
    let front = c.as_chunks.ensures.front in
    let h : k < seats = omega (arith, seats_count t l _ front) in
    ap seat_well (seat_chunk t l _ front k h) ∙ table_seat t c.requires k h

pub returns-then-not-seat_below : goal.returns-then-not-seat_below
unfolding table_below
returns-then-not-seat_below c =
    let t = c.args.table.now in
    let l = table_length t c.requires in
    let k = c.loop-seat.seat-index in
    let front = c.as_chunks.ensures.front in
    let h : k < seats = omega (arith, seats_count t l _ front) in
    sym
    (every_broken 8 _ k h
    (ap (λ (b : List ℕ). seat_below c.args.rows (seat_of b)) (sym (seat_chunk t l _ front k h)) ∙ sym c.seat_below.ensures ∙ c.if-not-seat_below.true))

pub loop-seat-preserved : goal.loop-seat-preserved
loop-seat-preserved c =
    let t = c.args.table.now in
    let l = table_length t c.requires in
    let k = c.loop-seat.seat-index in
    let front = c.as_chunks.ensures.front in
    let h : k < seats = omega (arith, seats_count t l _ front) in
    below_more _ _ c.loop-seat.invariant
    (ap (λ (b : List ℕ). seat_below c.args.rows (seat_of b)) (sym (seat_chunk t l _ front k h)) ∙ sym c.seat_below.ensures ∙ c.if-not-seat_below.false)

pub returns : goal.returns
unfolding table_below
returns c =
    let t = c.args.table.now in
    let n = seats_count t (table_length t c.requires) _ c.as_chunks.ensures.front in
    sym (every_shown 8 _ (λ k h. c.loop-seat.invariant k (omega (arith, h, n))))
