-- `message_cursor::disconnect` meets its contract: a body is refused; without one all words of the seat are cleared. Assumes nothing.
use Rattle.refusal.specs.declared.Refusal.TheVariants.{BodyMalformed}
use Rattle.message.proofs.Answering.{refused_by_lem}
use Rattle.message.proofs.Bodies.{body_there, disconnected}
use Rattle.message_cursor.proofs.disconnect.Goals as goal

pub returns-then-message-ne-HEADER_SIZE : goal.returns-then-message-ne-HEADER_SIZE
returns-then-message-ne-HEADER_SIZE c = λ rows.
    let b = c.args.seat.now in
    let m = c.args.message.now in
    refused_by_lem b m c.args.reply.now c.args.msg 0 c.requires rows BodyMalformed
    (body_there b m c.args.reply.now c.args.msg c.requires rows c.if-message-ne-HEADER_SIZE.true)
    _ _ _ c.refuse_for.ensures

pub returns : goal.returns
returns c = λ rows.
    disconnected c.args.seat.now c.args.message.now c.args.reply.now c.args.msg c.requires rows c.if-message-ne-HEADER_SIZE.false _ c.clear.ensures
