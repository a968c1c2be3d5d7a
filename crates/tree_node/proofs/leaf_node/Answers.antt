-- A leaf that was read is a node, and its bytes lie inside. Assumes nothing.
use mathlib.Core.Path.{sym, ◌∙◌}
use Rattle.tree.proofs.LeafWords.{leaf_read_lem}
use Rattle.tree_node.proofs.leaf_node.Goals as goal

pub returns-clause-result_in_bounds : goal.returns-clause-result_in_bounds
returns-clause-result_in_bounds c =
    let a = c.args in
    (leaf_read_lem a.kind a.unread.now a.place _ _ (sym c.read_leaf.ensures ∙ c.in_ok-used.was)).inside
