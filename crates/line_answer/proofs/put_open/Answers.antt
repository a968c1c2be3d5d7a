-- The words of the answer, one after the other. Assumes nothing.
use native.Mathlib.Omega.{arith}
use mathlib.Core.List.{◌++◌}
use Rattle.line.specs.Line.{open_name}
use Rattle.line.specs.Answer.{space, open_text}
use Rattle.line.proofs.Short.{room_after}
use Rattle.line.proofs.TextLaws.{written_then}
use Rattle.line_answer.proofs.put_open.Goals as goal

pub put_number-requires-2 : goal.put_number-requires-2
put_number-requires-2 c =
    let first = room_after c.args.refusal 22 (open_name ++ space) c.put_number.ensures (omega (arith, c.requires)) in
    omega (arith, first)

pub put-requires : goal.put-requires
put-requires c =
    let first = room_after c.args.refusal 22 (open_name ++ space) c.put_number.ensures (omega (arith, c.requires)) in
    room_after c.args.handle.0 1 space c.put_number-2.ensures (omega (arith, first))

pub returns : goal.returns
unfolding open_text
returns c =
    let first = room_after c.args.refusal 22 (open_name ++ space) c.put_number.ensures (omega (arith, c.requires)) in
    let second = room_after c.args.handle.0 1 space c.put_number-2.ensures (omega (arith, first)) in
    written_then c.put_number.ensures (written_then c.put_number-2.ensures c.put.ensures (omega (arith, second))) (omega (arith, first))
