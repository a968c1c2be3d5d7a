-- `table_handle::records` meets its contract: the first words of a part are words of the whole. Assumes nothing.
use mathlib.Core.Path.{◌∙◌}
use native.Mathlib.Omega.{arith}
use lib.ListN.{drop}
use lib.Seq.{take-take}
use Rattle.table_handle.proofs.records.Goals as goal

pub returns : goal.returns
returns c = c.in-Some.ensures.cases.0 ∙ take-take 45 1069 (drop 5 c.args.cursor.now) (omega arith)
