-- Four words, each laid right after the one before. Assumes nothing.
use native.Mathlib.Omega.{arith}
use Rattle.wire.proofs.Little.{lay_fours}
use Rattle.wire_lay_word.proofs.lay_four.Goals as goal

pub returns : goal.returns
returns c =
    let a = c.args in
    lay_fours a.reply.now a.at a.a a.b a.c a.d (omega (arith, c.requires)) c.lay_word.ensures c.lay_word-2.ensures
    c.lay_word-3.ensures c.lay_word-4.ensures
