-- What the closure says of a byte. Assumes nothing.
use Rattle.std.proofs.Common.{rules, tests}
use Rattle.line.specs.Runs.{in_word}
use Rattle.line_word.proofs.after_word.Goals as goal

pub returns : goal.returns
returns c = c.after_run.ensures in_word (λ byte answer k. search (rules, tests))
