-- What the closure says of a byte. Assumes nothing.
use Rattle.std.proofs.Common.{rules, tests}
use Rattle.line.specs.Runs.{in_line}
use Rattle.line_word.proofs.before_feed.Goals as goal

pub returns : goal.returns
returns c = c.after_run.ensures in_line (λ byte answer k. search (rules, tests))
