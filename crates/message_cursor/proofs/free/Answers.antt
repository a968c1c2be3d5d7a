-- `message_cursor::free` meets its contract: the body's size and the handle are judged, then the cursor's part is cleared. Assumes nothing.
use mathlib.Core.Path.{sym, ap, ◌∙◌}
use Prim.Native.Nat.{ℕ}
use Rattle.refusal.specs.declared.Refusal.TheVariants.{BodyMalformed, HandleClosed}
use Rattle.table.specs.Layout.{cursor_size, cursor_place}
use Rattle.lists.specs.Parts.{put}
use Rattle.table.specs.Seat.{cursor_words, seat_in, cursor_in}
use Rattle.table.specs.Open.{is_open}
use Rattle.message.proofs.Answering.{refused_by_lem}
use Rattle.message.proofs.Bodies.{not_four, not_open_lem, freed_answers}
use Rattle.std.specs.Prelude.{None}
use mathlib.Core.List.{List}
use Rattle.wire.specs.Word.{le}
use Rattle.wire.specs.Laid.{lay}
use Rattle.message_cursor.proofs.free.Goals as goal

pub returns-then-message-ne-FREE_SIZE : goal.returns-then-message-ne-FREE_SIZE
returns-then-message-ne-FREE_SIZE c = λ rows.
    let b = c.args.seat.now in
    let m = c.args.message.now in
    refused_by_lem b m c.args.reply.now c.args.msg 1 c.requires rows BodyMalformed
    (not_four b m c.args.reply.now c.args.msg c.requires rows c.if-message-ne-FREE_SIZE.true)
    _ _ _ c.refuse_for.ensures

pub returns-then-not-is_open : goal.returns-then-not-is_open
returns-then-not-is_open c = λ rows.
    let b = c.args.seat.now in
    let m = c.args.message.now in
    refused_by_lem b m c.args.reply.now c.args.msg 1 c.requires rows HandleClosed
    (not_open_lem b m c.args.reply.now c.args.msg c.requires rows c.if-message-ne-FREE_SIZE.false
    (ap (λ (h : ℕ). is_open (cursor_in (seat_in b) h)) (sym c.word.ensures) ∙ sym c.is_open.ensures ∙ c.if-not-is_open.true))
    _ _ _ c.refuse_for-then-not-is_open.ensures

pub returns : goal.returns
returns c = λ rows.
    let b = c.args.seat.now in
    freed_answers b c.args.message.now c.args.reply.now c.args.msg c.requires rows c.if-message-ne-FREE_SIZE.false
    (ap (λ (h : ℕ). is_open (cursor_in (seat_in b) h)) (sym c.word.ensures) ∙ sym c.is_open.ensures ∙ c.if-not-is_open.false)
    _
    _
    c.open_count-left.result
    (c.close.ensures ∙ ap (λ (h : ℕ). put b (cursor_place h) cursor_size (cursor_words None)) c.word.ensures)
    c.open_count-left.ensures
    (c.lay_word.ensures ∙ ap (λ (x : List ℕ). lay x 16 (le 4 c.open_count-left.result)) c.lay_header.ensures)
