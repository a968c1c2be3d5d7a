-- The number stands after the word. Assumes nothing.
use native.Mathlib.Omega.{arith}
use Rattle.line.proofs.TextLaws.{written_room, written_then}
use Rattle.line_answer.proofs.put_number.Goals as goal

pub returns : goal.returns
returns c = written_then c.put.ensures c.put_decimal.ensures (omega (arith, written_room 20 c.put.ensures (omega (arith, c.requires))))
