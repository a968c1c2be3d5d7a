-- The root is read with all levels and nodes left, from place 0; each way out is a law of the definition. Assumes nothing.
use mathlib.Core.Path.{sym, ◌∙◌}
use Rattle.tree.proofs.WholeLaws.{whole_long, whole_none, whole_by}
use Rattle.tree_read.proofs.well_formed.Goals as goal

pub returns-then-bytes-gt-BYTES_MOST : goal.returns-then-bytes-gt-BYTES_MOST
returns-then-bytes-gt-BYTES_MOST c = whole_long c.args.bytes.now c.if-bytes-gt-BYTES_MOST.true

pub returns-in-Some : goal.returns-in-Some
returns-in-Some c = whole_by c.args.bytes.now c.if-bytes-gt-BYTES_MOST.false _ _ (sym c.in-Some.is ∙ c.node.ensures.value)

pub returns-in-None : goal.returns-in-None
returns-in-None c = whole_none c.args.bytes.now c.if-bytes-gt-BYTES_MOST.false (sym c.in-None.is ∙ c.node.ensures.value)
