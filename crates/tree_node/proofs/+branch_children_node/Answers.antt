-- The proof of the cycle of calls {branch, children, node}. A call from a node to what lies below it has one level less; among calls at
-- one level the measure falls from an and or an or to its children, with each child, and to a child. Each way out is a law of the
-- definitions (TreeLaws). Assumes nothing.
use Prim.Native.Nat.{◌-◌}
use mathlib.Core.Path.{sym, ap, ◌∙◌}
use Rattle.tree.specs.Reader.{read_tree}
use Rattle.tree.specs.NodeTold.{node_answer}
use Rattle.tree.proofs.TreeLaws.{no_levels, no_nodes, no_head, branch_any, node_branch, node_not, node_leaf, not_by, branch_empty, branch_by, list_none, list_short, list_unclear, list_bad, list_by}
use Rattle.tree_node.proofs.+branch_children_node.Goals as goal
use Rattle.tree_node.proofs.+branch_children_node.Goals.{children-then-unread-start-via-then-unread-start, children-then-unread-start-via-else-unread-start+then-not-zero_at}
use Rattle.tree_node.proofs.+branch_children_node.Goals.{node-then-levels-eq0-via-then-levels-eq0, node-then-levels-eq0-via-else-levels-eq0+then-nodes-eq0, node-then-levels-eq0-via-else-levels-eq0+else-nodes-eq0+then-unread-lt-HEAD_SIZE}

pub branch-returns-then-listed-eq0-clause-value : goal.branch-returns-then-listed-eq0-clause-value
branch-returns-then-listed-eq0-clause-value t c =
    let a = c.args in
    branch_empty (read_tree a.levels) 1 a.nodes a.place a.unread.now (sym c.word-listed.ensures ∙ c.if-listed-eq0.true)

pub branch-returns-clause-value : goal.branch-returns-clause-value
branch-returns-clause-value t c =
    let a = c.args in
    branch_by (read_tree a.levels) 1 a.nodes a.place a.unread.now c.word-listed.result _ c.if-unread-lt-LIST_HEAD.false c.word-listed.ensures
    c.if-listed-eq0.false
    (sym c.in_ok-used.was ∙ c.children.ensures.value)

pub children-returns-then-count-eq0-clause-value : goal.children-returns-then-count-eq0-clause-value
children-returns-then-count-eq0-clause-value t c =
    let a = c.args in list_none (read_tree a.levels) a.count a.nodes a.place a.unread.now c.if-count-eq0.true

pub children-returns-then-unread-start-clause-value : goal.children-returns-then-unread-start-clause-value
children-returns-then-unread-start-clause-value t c =
    let a = c.args in
    let p = c.padding-start in
    elim c.then-unread-start.branch [
      | children-then-unread-start-via-then-unread-start w ↦
          list_short (read_tree a.levels) a.count a.nodes a.place a.unread.now p.result p.ensures c.if-count-eq0.false w.if-unread-start.true
      | children-then-unread-start-via-else-unread-start+then-not-zero_at w ↦
          list_unclear (read_tree a.levels) a.count a.nodes a.place a.unread.now p.result p.ensures c.if-count-eq0.false w.if-unread-start.false
          (sym w.zero_at.ensures ∙ w.if-not-zero_at.true)
    ]

pub children-returns-in_err-used-clause-value : goal.children-returns-in_err-used-clause-value
children-returns-in_err-used-clause-value t c =
    let a = c.args in
    let p = c.padding-start in
    c.from_residual.ensures
    ∙ list_bad (read_tree a.levels) a.count a.nodes a.place a.unread.now p.result p.ensures c.if-count-eq0.false c.if-unread-start.false
    (sym c.zero_at.ensures ∙ c.if-not-zero_at.false)
    (sym c.in_err-used.was ∙ c.node.ensures.value)

pub children-returns-in_err-rest-clause-value : goal.children-returns-in_err-rest-clause-value
children-returns-in_err-rest-clause-value t c =
    let a = c.args in
    let p = c.padding-start in
    c.from_residual-in_err-rest.ensures
    ∙ list_by (read_tree a.levels) a.count a.nodes a.place a.unread.now p.result p.ensures c.if-count-eq0.false c.if-unread-start.false
    (sym c.zero_at.ensures ∙ c.if-not-zero_at.false) c.in_ok-used.used c.in_ok-used.others _
    (sym c.in_ok-used.was ∙ c.node.ensures.value)
    (sym c.in_err-rest.was ∙ c.children.ensures.value)

pub children-returns-clause-value : goal.children-returns-clause-value
children-returns-clause-value t c =
    let a = c.args in
    let p = c.padding-start in
    list_by (read_tree a.levels) a.count a.nodes a.place a.unread.now p.result p.ensures c.if-count-eq0.false c.if-unread-start.false
    (sym c.zero_at.ensures ∙ c.if-not-zero_at.false) c.in_ok-used.used c.in_ok-used.others _
    (sym c.in_ok-used.was ∙ c.node.ensures.value)
    (sym c.in_ok-rest.was ∙ c.children.ensures.value)

pub node-returns-then-levels-eq0-clause-value : goal.node-returns-then-levels-eq0-clause-value
node-returns-then-levels-eq0-clause-value t c =
    elim c.then-levels-eq0.branch [
      | node-then-levels-eq0-via-then-levels-eq0 w ↦ rw (no_levels _ _ _ _ w.if-levels-eq0.true)
      | node-then-levels-eq0-via-else-levels-eq0+then-nodes-eq0 w ↦ rw (no_nodes _ _ _ _ w.if-nodes-eq0.true)
      | node-then-levels-eq0-via-else-levels-eq0+else-nodes-eq0+then-unread-lt-HEAD_SIZE w ↦ rw (no_head _ _ _ _ w.if-unread-lt-HEAD_SIZE.true)
    ]

pub node-returns-then-is_branch-clause-value : goal.node-returns-then-is_branch-clause-value
node-returns-then-is_branch-clause-value t c =
    let a = c.args in
    c.branch-unread.ensures.value ∙ branch_any (read_tree (a.levels - 1)) c.word-kind.result (a.nodes - 1) a.place a.unread.now
    ∙ ap node_answer (sym (node_branch a.levels a.nodes a.place a.unread.now c.if-levels-eq0.false c.if-nodes-eq0.false c.if-unread-lt-HEAD_SIZE.false c.word-kind.result c.word-kind.ensures (sym c.is_branch.ensures ∙ c.if-is_branch.true)))

pub node-returns-in_err-used-clause-value : goal.node-returns-in_err-used-clause-value
node-returns-in_err-used-clause-value t c =
    let a = c.args in
    c.from_residual.ensures
    ∙ not_by (read_tree (a.levels - 1)) (a.nodes - 1) a.place a.unread.now _ (sym c.in_err-used.was ∙ c.node.ensures.value)
    ∙ ap node_answer (sym (node_not a.levels a.nodes a.place a.unread.now c.if-levels-eq0.false c.if-nodes-eq0.false c.if-unread-lt-HEAD_SIZE.false c.word-kind.result c.word-kind.ensures (sym c.is_branch.ensures ∙ c.if-is_branch.false) c.if-kind-eq-NOT.true))

pub node-returns-in_ok-used-clause-value : goal.node-returns-in_ok-used-clause-value
node-returns-in_ok-used-clause-value t c =
    let a = c.args in
    not_by (read_tree (a.levels - 1)) (a.nodes - 1) a.place a.unread.now _ (sym c.in_ok-used.was ∙ c.node.ensures.value)
    ∙ ap node_answer (sym (node_not a.levels a.nodes a.place a.unread.now c.if-levels-eq0.false c.if-nodes-eq0.false c.if-unread-lt-HEAD_SIZE.false c.word-kind.result c.word-kind.ensures (sym c.is_branch.ensures ∙ c.if-is_branch.false) c.if-kind-eq-NOT.true))

pub node-returns-else-kind-eq-NOT-clause-value : goal.node-returns-else-kind-eq-NOT-clause-value
node-returns-else-kind-eq-NOT-clause-value t c =
    let a = c.args in
    c.leaf_node.ensures.value ∙ ap node_answer (sym (node_leaf a.levels a.nodes a.place a.unread.now c.if-levels-eq0.false c.if-nodes-eq0.false c.if-unread-lt-HEAD_SIZE.false c.word-kind.result c.word-kind.ensures (sym c.is_branch.ensures ∙ c.if-is_branch.false) c.if-kind-eq-NOT.false))
