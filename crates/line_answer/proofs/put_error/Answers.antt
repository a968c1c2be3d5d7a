-- The words of the answer, one after the other. Assumes nothing.
use native.Mathlib.Omega.{arith}
use mathlib.Core.List.{◌++◌}
use Rattle.line.specs.Answer.{space, error_name, error_text}
use Rattle.line.proofs.Short.{room_after}
use Rattle.line.proofs.TextLaws.{written_room, written_then}
use Rattle.line_answer.proofs.put_error.Goals as goal

pub put-requires : goal.put-requires
put-requires c =
    let first = room_after c.args.line 14 (error_name ++ space) c.put_number.ensures (omega (arith, c.requires)) in
    omega (arith, first)

pub put-requires-2 : goal.put-requires-2
put-requires-2 c =
    let first = room_after c.args.line 14 (error_name ++ space) c.put_number.ensures (omega (arith, c.requires)) in
    let second = written_room 13 c.put.ensures (omega (arith, first)) in
    omega (arith, second, c.words.ensures.1)

pub put-requires-3 : goal.put-requires-3
put-requires-3 c =
    let first = room_after c.args.line 14 (error_name ++ space) c.put_number.ensures (omega (arith, c.requires)) in
    let second = written_room 13 c.put.ensures (omega (arith, first)) in
    written_room 1 c.put-2.ensures (omega (arith, second, c.words.ensures.1))

pub returns : goal.returns
unfolding error_text
returns c =
    let first = room_after c.args.line 14 (error_name ++ space) c.put_number.ensures (omega (arith, c.requires)) in
    let second = written_room 13 c.put.ensures (omega (arith, first)) in
    let third = written_room 1 c.put-2.ensures (omega (arith, second, c.words.ensures.1)) in
    written_then c.put_number.ensures
    (written_then c.put.ensures
    (written_then (rw c.words.ensures.0 at c.put-2.ensures) c.put-3.ensures (omega (arith, third)))
    (omega (arith, second)))
    (omega (arith, first))
