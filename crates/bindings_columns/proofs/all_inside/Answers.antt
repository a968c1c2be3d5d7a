-- The spans of columns are those of each. Assumes nothing.
use Rattle.std.proofs.Common.{rules, ◌∙◌, [], ◌∷◌}
use mathlib.Core.Path.{sym}
use Rattle.lists.specs.Every.{every}
use Rattle.bindings.specs.Fit.{spans_of, inside}
use Rattle.bindings.proofs.Spans.{spans_every}
use Rattle.bindings_columns.proofs.all_inside.Goals as goal

pub returns : goal.returns
returns c =
    c.every_column.ensures.told (λ d. every (inside c.args.width) (spans_of (d ∷ []))) (λ d answer e. search rules)
    ∙ sym (spans_every (inside c.args.width) _)
