-- What `==` on slices says. Assumes nothing.
use Rattle.line.proofs.RunLaws.{same_is}
use Rattle.line_word.proofs.same.Goals as goal

pub returns : goal.returns
returns c = cc (same_is c.args.a.now c.args.b.now)
