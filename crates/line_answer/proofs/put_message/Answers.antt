-- The words of the answer, one after the other. Assumes nothing.
use native.Mathlib.Omega.{arith}
use mathlib.Core.List.{◌++◌}
use Prim.Native.Nat.{◌+◌, ◌*◌}
use lib.ListN.{length, take}
use lib.Seq.{length-take-le}
use Rattle.line.specs.Line.{message_name}
use Rattle.line.specs.Answer.{space, message_text}
use Rattle.line.proofs.Short.{room_after}
use Rattle.line.proofs.TextLaws.{hex_short, written_room, written_then}
use Rattle.line_answer.proofs.put_message.Goals as goal

pub put_number-requires-2 : goal.put_number-requires-2
put_number-requires-2 c =
    let first = room_after c.args.refusal (2 * length c.args.reply.now + 32) (message_name ++ space) c.put_number.ensures (omega (arith, c.requires.0)) in
    omega (arith, first)

pub put-requires : goal.put-requires
put-requires c =
    let first = room_after c.args.refusal (2 * length c.args.reply.now + 32) (message_name ++ space) c.put_number.ensures (omega (arith, c.requires.0)) in
    let second = room_after c.args.count (2 * length c.args.reply.now + 11) space c.put_number-2.ensures (omega (arith, first)) in
    omega (arith, second)

pub put_first-requires : goal.put_first-requires
put_first-requires c =
    let first = room_after c.args.refusal (2 * length c.args.reply.now + 32) (message_name ++ space) c.put_number.ensures (omega (arith, c.requires.0)) in
    let second = room_after c.args.count (2 * length c.args.reply.now + 11) space c.put_number-2.ensures (omega (arith, first)) in
    let third = written_room (2 * length c.args.reply.now + 10) c.put.ensures (omega (arith, second)) in
    (omega (arith, third), c.requires.1)

pub put_end-requires : goal.put_end-requires
put_end-requires c =
    let first = room_after c.args.refusal (2 * length c.args.reply.now + 32) (message_name ++ space) c.put_number.ensures (omega (arith, c.requires.0)) in
    let second = room_after c.args.count (2 * length c.args.reply.now + 11) space c.put_number-2.ensures (omega (arith, first)) in
    let third = written_room (2 * length c.args.reply.now + 10) c.put.ensures (omega (arith, second)) in
    written_room 9 c.put_first.ensures (omega (arith, third, hex_short (take c.args.count c.args.reply.now), length-take-le c.args.count c.args.reply.now c.requires.1))

pub returns : goal.returns
unfolding message_text
returns c =
    let first = room_after c.args.refusal (2 * length c.args.reply.now + 32) (message_name ++ space) c.put_number.ensures (omega (arith, c.requires.0)) in
    let second = room_after c.args.count (2 * length c.args.reply.now + 11) space c.put_number-2.ensures (omega (arith, first)) in
    let third = written_room (2 * length c.args.reply.now + 10) c.put.ensures (omega (arith, second)) in
    let fourth = written_room 9 c.put_first.ensures (omega (arith, third, hex_short (take c.args.count c.args.reply.now), length-take-le c.args.count c.args.reply.now c.requires.1)) in
    written_then c.put_number.ensures
    (written_then c.put_number-2.ensures
    (written_then c.put.ensures
    (written_then c.put_first.ensures c.put_end.ensures (omega (arith, fourth)))
    (omega (arith, third)))
    (omega (arith, second)))
    (omega (arith, first))
