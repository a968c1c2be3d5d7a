-- The test of each column is the definition's. Assumes nothing.
use Rattle.std.proofs.Common.{rules}
use Rattle.bindings.specs.Fit.{column_fits}
use Rattle.bindings_property.proofs.columns_fit.Goals as goal

pub returns : goal.returns
returns c = c.every_column.ensures.told column_fits (λ d answer e. search rules)
