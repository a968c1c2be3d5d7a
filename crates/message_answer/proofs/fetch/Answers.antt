-- `message_answer::fetch` meets its contract: the request is read, the handle is judged, and the cursor's part is lent to be fetched from. Assumes nothing.
use Rattle.refusal.specs.declared.Refusal.TheVariants.{HandleClosed}
use Rattle.refusal.specs.Numbers.{refusal_number}
use Rattle.message.proofs.Rows.{not_asked, rows_closed, ready_at, refused_at, answered_at}
use Rattle.message.proofs.Answering.{refused_by_lem}
use Rattle.table.specs.Open.{is_open}
use Rattle.catalogue.specs.Plain.{rows_of, catalogue}
use Rattle.fetch.proofs.Ranges.{request_handle, asked_is, malformed_is}
use Rattle.fetch.specs.Request.{request}
use Rattle.table.specs.Seat.{seat_in, cursor_in}
use Prim.Native.Nat.{ℕ}
use mathlib.Core.Path.{sym, ap, ◌∙◌}
use Rattle.message_answer.proofs.fetch.Goals as goal

pub returns-in-Err : goal.returns-in-Err
returns-in-Err c =
    let b = c.args.seat.now in
    let m = c.args.message.now in
    let s = c.args.catalogue.now in
    let reply = c.args.reply.now in
    let msg = c.args.msg in
    let n = malformed_is (request m) (sym c.in-Err.ensures) in
    refused_by_lem b m reply msg 2 c.requires.0 (rows_of (catalogue s)) _
    (not_asked b m reply msg c.requires.0 s c.args.places.now c.requires.1 n.0 ∙ sym (ap refusal_number n.1))
    _ _ _ c.refuse_for.ensures

pub returns-then-not-is_open : goal.returns-then-not-is_open
returns-then-not-is_open c =
    let b = c.args.seat.now in
    let m = c.args.message.now in
    let s = c.args.catalogue.now in
    let reply = c.args.reply.now in
    let msg = c.args.msg in
    let e = asked_is (request m) (sym c.in-Ok.ensures) in
    refused_by_lem b m reply msg 2 c.requires.0 (rows_of (catalogue s)) HandleClosed
    (rows_closed b m reply msg c.requires.0 s c.args.places.now c.requires.1 _ e
    (ap (λ (h : ℕ). is_open (cursor_in (seat_in b) h)) (sym (request_handle m _ e)) ∙ sym c.is_open.ensures ∙ c.if-not-is_open.true))
    _ _ _ c.refuse_for-then-not-is_open.ensures

pub fetch-requires : goal.fetch-requires
fetch-requires c =
    let m = c.args.message.now in
    let e = asked_is (request m) (sym c.in-Ok.ensures) in
    ready_at c.args.seat.now m c.args.reply.now c.args.msg c.requires.0 c.args.catalogue.now c.args.places.now c.requires.1 _ e
    (sym c.is_open.ensures ∙ c.if-not-is_open.false) _ c.cursor_at-at.ensures

pub returns-in-Ok-fetch : goal.returns-in-Ok-fetch
returns-in-Ok-fetch c =
    let m = c.args.message.now in
    let e = asked_is (request m) (sym c.in-Ok.ensures) in
    answered_at c.args.seat.now m c.args.reply.now c.args.msg c.requires.0 c.args.catalogue.now c.args.places.now c.requires.1 _ e
    (sym c.is_open.ensures ∙ c.if-not-is_open.false) _ c.cursor_at-at.ensures _ _ c.in-Ok-fetch.ensures

pub returns-in-Err-fetch : goal.returns-in-Err-fetch
returns-in-Err-fetch c =
    let m = c.args.message.now in
    let e = asked_is (request m) (sym c.in-Ok.ensures) in
    refused_at c.args.seat.now m c.args.reply.now c.args.msg c.requires.0 c.args.catalogue.now c.args.places.now c.requires.1 _ e
    (sym c.is_open.ensures ∙ c.if-not-is_open.false) _ c.cursor_at-at.ensures _ _ c.in-Err-fetch.refusal c.in-Err-fetch.ensures _ _ c.refuse_for-in-Err-fetch.ensures
