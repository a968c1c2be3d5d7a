-- A column more, or none. Assumes nothing.
use native.Mathlib.Omega.{arith}
use Rattle.std.proofs.lemmas.Grind.{common_steps}
use Rattle.bindings.proofs.Bindings.{columns_more, keeping_more, keeping_end, keeping_over}
use Rattle.bindings_read.proofs.read_columns.Goals as goal

pub returns-in_err-place : goal.returns-in_err-place
returns-in_err-place c = grind (arith, common_steps, columns_more)

pub returns-in_err-column : goal.returns-in_err-column
returns-in_err-column c = grind (arith, common_steps, columns_more)

pub loop-k-preserved : goal.loop-k-preserved
loop-k-preserved c = grind (arith, common_steps, columns_more, keeping_more)

pub returns-then-at-message : goal.returns-then-at-message
returns-then-at-message c = grind (arith, common_steps, keeping_end)

pub returns-else-at-message : goal.returns-else-at-message
returns-else-at-message c = grind (arith, common_steps, keeping_over)
