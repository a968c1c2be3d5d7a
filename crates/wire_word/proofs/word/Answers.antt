-- `wire_word::word` meets its contract: the number of four bytes, each at its weight. Assumes nothing.
use native.Mathlib.Omega.{arith}
use Rattle.wire.proofs.Words.{word_at}
use Rattle.wire_word.proofs.word.Goals as goal

pub returns : goal.returns
returns c = let a = c.args in omega (arith, word_at a.bytes.now a.at)
