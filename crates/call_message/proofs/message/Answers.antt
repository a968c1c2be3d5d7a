-- `call_message::message` meets its contract: the judgement and the sizes pick the way, and the seat's words are lent to be answered. Assumes nothing.
use Rattle.std.proofs.lemmas.Result.{err_from_is_err_and}
use Rattle.call.proofs.Sourcing.{sourced}
use lib.ListN.{length-replicate, length}
use Rattle.call.proofs.Opening.{places_noted}
use Rattle.call.proofs.Messaging.{message_judged, room_refused, size_refused, short_unsized, long_unsized, message_answered}
use Rattle.call.proofs.Causes.{passes, refused_by_lem, passed_by}
use Rattle.call.specs.Step.{sources_of}
use Rattle.table.proofs.Tables.{table_length, table_seat, part_size}
use Rattle.lists.proofs.Parts.{part_is}
use Rattle.table.specs.Well.{seat_well}
use Rattle.table.specs.Layout.{seat_size}
use Prim.Native.Nat.{ℕ, ◌*◌}
use native.Mathlib.Omega.{arith}
use mathlib.Core.Path.{ap, ◌∙◌}
use Rattle.call_message.proofs.message.Goals as goal
use Rattle.call_message.proofs.message.Goals.{then-message-lt-HEADER_SIZE-via-then-message-lt-HEADER_SIZE, then-message-lt-HEADER_SIZE-via-else-message-lt-HEADER_SIZE+then-message-gt-MESSAGE_MOST}

pub returns-in_err-judge : goal.returns-in_err-judge
returns-in_err-judge c =
    let a = c.args in
    let p = err_from_is_err_and c.from_residual.result c.from_residual.ensures.1 in
    rw (p.1, p.2) (message_judged (sources_of a.catalogue.now) a.table.now a.seat.0 a.message.now a.reply.now _ (refused_by_lem c.in_err-judge.ensures))

pub returns-then-reply-lt-MESSAGE_MOST : goal.returns-then-reply-lt-MESSAGE_MOST
returns-then-reply-lt-MESSAGE_MOST c =
    let a = c.args in
    room_refused (sources_of a.catalogue.now) a.table.now a.seat.0 a.message.now a.reply.now (passed_by c.in_ok-judge.ensures) c.if-reply-lt-MESSAGE_MOST.true

pub returns-then-message-lt-HEADER_SIZE : goal.returns-then-message-lt-HEADER_SIZE
returns-then-message-lt-HEADER_SIZE c =
    let a = c.args in
    let z = passed_by c.in_ok-judge.ensures in
    size_refused (sources_of a.catalogue.now) a.table.now a.seat.0 a.message.now a.reply.now z c.if-reply-lt-MESSAGE_MOST.false
    (elim c.then-message-lt-HEADER_SIZE.branch [
      | then-message-lt-HEADER_SIZE-via-then-message-lt-HEADER_SIZE w ↦ short_unsized (sources_of a.catalogue.now) a.table.now a.seat.0 a.message.now a.reply.now z w.if-message-lt-HEADER_SIZE.true
      | then-message-lt-HEADER_SIZE-via-else-message-lt-HEADER_SIZE+then-message-gt-MESSAGE_MOST w ↦
          long_unsized (sources_of a.catalogue.now) a.table.now a.seat.0 a.message.now a.reply.now z w.if-message-lt-HEADER_SIZE.false w.if-message-gt-MESSAGE_MOST.true
    ])

pub slice_bounds-answer-end : goal.slice_bounds-answer-end
slice_bounds-answer-end c =
    let a = c.args in
    let p = passes (sources_of a.catalogue.now) a.table.now a.seat.0 (passed_by c.in_ok-judge.ensures) in
    omega (arith, p.seat_in_lem, table_length a.table.now p.table_in)

pub answer-requires : goal.answer-requires
answer-requires c =
    let a = c.args in
    let j = c.in_ok-judge.ensures in
    let t = a.table.now in
    let s = a.catalogue.now in
    let p = passes (sources_of s) t a.seat.0 (passed_by j) in (
      record {
        size = ap length (part_is t (seat_size * a.seat.0) seat_size) ∙ part_size t (table_length t p.table_in) a.seat.0 p.seat_in_lem;
        well = ap seat_well (part_is t (seat_size * a.seat.0) seat_size) ∙ table_seat t p.table_in a.seat.0 p.seat_in_lem;
        least = c.if-message-lt-HEADER_SIZE.false;
        most = c.if-message-gt-MESSAGE_MOST.false;
        room = c.if-reply-lt-MESSAGE_MOST.false;
      },
      sourced s t a.seat.0 _ _ p.seat_in_lem p.rows_in
          (places_noted s t _ _ a.seat.0 _ j p.rows_in (omega (arith, length-replicate {A = ℕ} 1024 0))),
    )

pub returns : goal.returns
returns c =
    let a = c.args in
    message_answered (sources_of a.catalogue.now) a.table.now a.seat.0 a.message.now a.reply.now (passed_by c.in_ok-judge.ensures) c.if-reply-lt-MESSAGE_MOST.false c.if-message-lt-HEADER_SIZE.false c.if-message-gt-MESSAGE_MOST.false _ _ _
    (rw (part_is a.table.now (seat_size * a.seat.0) seat_size) at c.answer.ensures)
