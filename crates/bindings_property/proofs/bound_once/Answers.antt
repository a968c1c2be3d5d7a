-- The test of two columns is the definition's. Assumes nothing.
use Rattle.std.proofs.Common.{rules}
use Rattle.bindings.specs.Fit.{differ}
use Rattle.bindings_property.proofs.bound_once.Goals as goal

pub returns : goal.returns
returns c = c.every_pair.ensures.told differ (λ d other answer e. search rules)
