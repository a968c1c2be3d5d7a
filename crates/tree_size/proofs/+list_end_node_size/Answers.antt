-- The proof of the cycle of calls {list_end, node_size}. A call from a node to what lies below it has one level less, and a list measures its
-- children at its own. The rest of a list goes on where the measured child ends (the loop's invariant). Assumes nothing.
use Prim.Native.Nat.{◌+◌, ◌-◌, ◌<◌}
use mathlib.Core.Path.{◌≡◌, sym, ◌∙◌}
use native.Mathlib.Omega.{arith}
use Rattle.tree.specs.Reader.{read_tree}
use Rattle.tree.proofs.Nodes.{node_levels, node_inside, not_found, not_takes, takes_inside, leaf_found, leaf_takes, rest_ended, rest_found, rest_head, rest_property, rest_past, rest_room, branch_ready, branch_takes, branch_found, branch_head}
use Rattle.tree_size.proofs.+list_end_node_size.Goals as goal

pub list_end-loop-measured-init : goal.list_end-loop-measured-init
list_end-loop-measured-init t c = let all : c.args.count - 0 ≡ c.args.count = omega arith in rw all (λ place last l. l)

pub list_end-word-requires : goal.list_end-word-requires
list_end-word-requires t c =
    let a = c.args in
    let l = c.loop-measured in
    omega (arith, rest_head a.unread.now a.levels a.count a.from c.requires _ l.at l.invariant (omega (arith, c.loop-measured-test.true)))

pub list_end-slice_bounds-node_size-count : goal.list_end-slice_bounds-node_size-count
list_end-slice_bounds-node_size-count t c =
    let a = c.args in
    let l = c.loop-measured in
    omega (arith, rest_head a.unread.now a.levels a.count a.from c.requires _ l.at l.invariant (omega (arith, c.loop-measured-test.true)))

pub list_end-slice_bounds-node_size-start : goal.list_end-slice_bounds-node_size-start
list_end-slice_bounds-node_size-start t c = list_end-slice_bounds-node_size-count t c

pub list_end-node_size-size-requires : goal.list_end-node_size-size-requires
list_end-node_size-size-requires t c =
    let a = c.args in
    let l = c.loop-measured in
    (omega (arith, c.decreases), rest_found a.unread.now a.levels a.count a.from c.requires _ l.at l.invariant (omega (arith, c.loop-measured-test.true)))

pub list_end-overflow_add-at : goal.list_end-overflow_add-at
list_end-overflow_add-at t c =
    let a = c.args in
    let l = c.loop-measured in
    let more : 0 < a.count - l.measured = omega (arith, c.loop-measured-test.true) in
    let takes = rest_property a.unread.now a.levels a.count a.from c.requires _ l.at l.invariant more (sym c.if-word-eq-PROPERTY.true ∙ c.word.ensures) in
    omega (arith, rest_room a.unread.now a.levels a.count a.from c.requires _ l.at l.invariant more 44 takes)

pub list_end-loop-measured-preserved-then-word-eq-PROPERTY : goal.list_end-loop-measured-preserved-then-word-eq-PROPERTY
list_end-loop-measured-preserved-then-word-eq-PROPERTY t c =
    let a = c.args in
    let l = c.loop-measured in
    let more : 0 < a.count - l.measured = omega (arith, c.loop-measured-test.true) in
    let takes = rest_property a.unread.now a.levels a.count a.from c.requires _ l.at l.invariant more (sym c.if-word-eq-PROPERTY.true ∙ c.word.ensures) in
    let less : a.count - (l.measured + 1) ≡ a.count - l.measured - 1 = omega arith in
    rw less (rest_past a.unread.now a.levels a.count a.from c.requires _ l.at l.invariant more 44 takes)

pub list_end-overflow_add-at-in-loop-measured : goal.list_end-overflow_add-at-in-loop-measured
list_end-overflow_add-at-in-loop-measured t c =
    let a = c.args in
    let l = c.loop-measured in
    let more : 0 < a.count - l.measured = omega (arith, c.loop-measured-test.true) in
    omega (arith, rest_room a.unread.now a.levels a.count a.from c.requires _ l.at l.invariant more c.node_size-size.result c.node_size-size.ensures)

pub list_end-loop-measured-preserved : goal.list_end-loop-measured-preserved
list_end-loop-measured-preserved t c =
    let a = c.args in
    let l = c.loop-measured in
    let more : 0 < a.count - l.measured = omega (arith, c.loop-measured-test.true) in
    let less : a.count - (l.measured + 1) ≡ a.count - l.measured - 1 = omega arith in
    rw less (rest_past a.unread.now a.levels a.count a.from c.requires _ l.at l.invariant more c.node_size-size.result c.node_size-size.ensures)

pub list_end-returns : goal.list_end-returns
list_end-returns t c =
    let a = c.args in
    let l = c.loop-measured in
    rest_ended a.unread.now a.levels a.count a.from c.requires _ l.at l.invariant (omega (arith, c.loop-measured-test.false))

pub node_size-word-kind-requires : goal.node_size-word-kind-requires
node_size-word-kind-requires t c = let a = c.args in let f = c.requires in
    omega (arith, node_inside a.levels a.unread.now f)

pub node_size-overflow_sub-below : goal.node_size-overflow_sub-below
node_size-overflow_sub-below t c = let a = c.args in let f = c.requires in
    omega (arith, node_levels a.levels f.nodes f.place a.unread.now f.node f.is)

pub node_size-word-count-requires : goal.node_size-word-count-requires
node_size-word-count-requires t c = let a = c.args in let f = c.requires in
    omega (arith, branch_head (read_tree (a.levels - 1)) c.word-kind.result a.unread.now (branch_found a.levels a.unread.now f c.word-kind.result c.word-kind.ensures (sym c.is_branch.ensures ∙ c.if-is_branch.true)))

pub node_size-list_end-requires : goal.node_size-list_end-requires
node_size-list_end-requires t c = let a = c.args in let f = c.requires in
    (omega (arith, c.decreases, node_levels a.levels f.nodes f.place a.unread.now f.node f.is), rw c.word-count.ensures (branch_ready a.levels a.unread.now c.word-kind.result c.word-kind.ensures (sym c.is_branch.ensures ∙ c.if-is_branch.true) f))

pub node_size-returns-then-is_branch : goal.node_size-returns-then-is_branch
node_size-returns-then-is_branch t c = let a = c.args in let f = c.requires in
    branch_takes a.levels a.unread.now c.word-kind.result c.word-kind.ensures (sym c.is_branch.ensures ∙ c.if-is_branch.true) c.list_end.result (rw c.word-count.ensures at c.list_end.ensures)

pub node_size-slice_bounds-child-count : goal.node_size-slice_bounds-child-count
node_size-slice_bounds-child-count t c = let a = c.args in let f = c.requires in
    omega (arith, node_inside a.levels a.unread.now f)

pub node_size-slice_bounds-child-start : goal.node_size-slice_bounds-child-start
node_size-slice_bounds-child-start t c = node_size-slice_bounds-child-count t c

pub node_size-node_size-size-requires : goal.node_size-node_size-size-requires
node_size-node_size-size-requires t c = let a = c.args in let f = c.requires in
    (omega (arith, c.decreases, node_levels a.levels f.nodes f.place a.unread.now f.node f.is), not_found a.levels a.unread.now c.word-kind.result c.word-kind.ensures (sym c.is_branch.ensures ∙ c.if-is_branch.false) c.if-kind-eq-NOT.true f)

pub node_size-overflow_add-result : goal.node_size-overflow_add-result
node_size-overflow_add-result t c = let a = c.args in let f = c.requires in
    let g = not_found a.levels a.unread.now c.word-kind.result c.word-kind.ensures (sym c.is_branch.ensures ∙ c.if-is_branch.false) c.if-kind-eq-NOT.true f in omega (arith, g.short, takes_inside (a.levels - 1) _ c.node_size-size.result g c.node_size-size.ensures)

pub node_size-returns-then-kind-eq-NOT : goal.node_size-returns-then-kind-eq-NOT
node_size-returns-then-kind-eq-NOT t c = let a = c.args in let f = c.requires in
    not_takes a.levels a.unread.now c.word-kind.result c.word-kind.ensures (sym c.is_branch.ensures ∙ c.if-is_branch.false) c.if-kind-eq-NOT.true c.node_size-size.result c.node_size-size.ensures

pub node_size-leaf_size-requires : goal.node_size-leaf_size-requires
node_size-leaf_size-requires t c = let a = c.args in let f = c.requires in
    leaf_found a.levels a.unread.now c.word-kind.result c.word-kind.ensures (sym c.is_branch.ensures ∙ c.if-is_branch.false) c.if-kind-eq-NOT.false f

pub node_size-returns-else-kind-eq-NOT : goal.node_size-returns-else-kind-eq-NOT
node_size-returns-else-kind-eq-NOT t c = let a = c.args in let f = c.requires in
    leaf_takes a.levels a.unread.now c.word-kind.result c.word-kind.ensures (sym c.is_branch.ensures ∙ c.if-is_branch.false) c.if-kind-eq-NOT.false c.leaf_size.result c.leaf_size.ensures
