-- The test of each column is the definition's. Assumes nothing.
use Rattle.std.proofs.Common.{rules}
use Rattle.table.specs.Well.{tidy}
use Rattle.table_bindings.proofs.all_tidy.Goals as goal

pub returns : goal.returns
returns c = c.every_column.ensures.told tidy (λ d answer e. search rules)
