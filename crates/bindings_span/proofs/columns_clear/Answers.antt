-- Each span of the one against all of the other. Assumes nothing.
use Rattle.std.proofs.Common.{rules, [], ◌∷◌}
use Rattle.lists.specs.Every.{every, across}
use Rattle.bindings.specs.Fit.{spans_of, apart}
use Rattle.bindings_span.proofs.columns_clear.Goals as goal

pub returns : goal.returns
unfolding across
returns c = c.every_span.ensures (λ a. every (apart a) (spans_of (c.args.other ∷ []))) (λ s answer e. search rules)
