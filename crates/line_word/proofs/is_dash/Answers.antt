-- A word of one byte, and any other. Assumes nothing.
use mathlib.Core.Path.{sym, ◌∙◌}
use Rattle.line.proofs.DigitLaws.{dash_is}
use Rattle.line_word.proofs.is_dash.Goals as goal

pub returns : goal.returns
returns c = c.same.ensures ∙ sym (dash_is c.args.word.now)
