-- The words of the answer, one after the other. Assumes nothing.
use native.Mathlib.Omega.{arith}
use mathlib.Core.List.{◌++◌}
use Rattle.line.specs.Line.{connect_name}
use Rattle.line.specs.Answer.{space, connect_text}
use Rattle.line.proofs.Short.{room_after}
use Rattle.line.proofs.TextLaws.{written_then}
use Rattle.line_answer.proofs.put_connect.Goals as goal

pub put-requires : goal.put-requires
put-requires c = room_after c.args.refusal 1 (connect_name ++ space) c.put_number.ensures (omega (arith, c.requires))

pub returns : goal.returns
unfolding connect_text
returns c =
    let room = room_after c.args.refusal 1 (connect_name ++ space) c.put_number.ensures (omega (arith, c.requires)) in
    written_then c.put_number.ensures c.put.ensures (omega (arith, room))
