-- After i turns the first i bytes are copied; in the end all are. Assumes nothing.
use mathlib.Core.Path.{◌∙◌}
use native.Mathlib.Numerals.{add-one}
use native.Mathlib.Omega.{arith}
use lib.ListN.{length-set}
use lib.Seq.{paste-suc}
use Rattle.wire.proofs.Lay.{copied}
use Rattle.wire_copy.proofs.lay_few.Goals as goal

pub loop-i-preserved : goal.loop-i-preserved
loop-i-preserved c = let l = c.loop-i in let a = c.args in
    (simp length-set l.invariant.0, rw (l.invariant.1, add-one) (paste-suc a.reply.now a.at a.bytes.now l.i 0 (omega arith) (omega arith)))

pub returns : goal.returns
returns c = let l = c.loop-i in let a = c.args in
    l.invariant.1 ∙ copied a.reply.now a.at a.bytes.now l.i (omega arith)
