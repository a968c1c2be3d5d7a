-- What the closure says of a byte. Assumes nothing.
use Rattle.std.proofs.Common.{arith, rules, tests, ◌∙◌}
use Rattle.line.specs.Runs.{in_call}
use Rattle.line_word.proofs.before_comment.Goals as goal

pub returns : goal.returns
returns c = let p = c.after_run.ensures in_call (λ byte answer k. search (rules, tests)) in (p.place ∙ omega arith, p.inside)
