-- `wire_word::last_word` meets its contract as `word` does, with zero for each byte past the end. Assumes nothing.
use native.Mathlib.Omega.{arith}
use Rattle.wire.proofs.Words.{word_at}
use Rattle.wire_word.proofs.last_word.Goals as goal

pub returns : goal.returns
returns c = let a = c.args in omega (arith, word_at a.bytes.now a.at)
