-- `wire_word::half` meets its contract: the number of two bytes is the first and 256 times the second. Assumes nothing.
use native.Mathlib.Omega.{arith}
use Rattle.wire.proofs.Words.{half_at}
use Rattle.wire_word.proofs.half.Goals as goal

pub returns : goal.returns
returns c = omega (arith, half_at c.args.bytes.now c.args.at)
