-- The proof of the cycle of calls {child_told, list_holds, list_told, near_told, node_told}. A call from a node to what lies below it has one level less, and a
-- list calls its children at its own. As long as no child decides, those that are left say all that the list says (the loops' invariant).
-- Assumes nothing.
use Prim.Native.Nat.{◌-◌}
use mathlib.Core.Path.{ap, refl, sym, ◌∙◌}
use native.Mathlib.Omega.{arith}
use Rattle.catalogue.specs.CataloguePlaces.{row_of}
use Rattle.tree.specs.declared.Verdict.{Verdict}
use Rattle.tree.specs.Reader.{read_tree}
use Rattle.tree.proofs.Nodes.{node_levels, node_inside, branch_found, branch_told, branch_tells, not_found, not_told, told_inside, leaf_kind, leaf_found, leaf_answer, property_inside, property_told, left_first, next_found, next_inside, next_ends, next_open, next_ready, next_told, next_decides, none_holds, none_told}
use Rattle.tree_hold.proofs.+child_told_list_holds_list_told_near_told_node_told.Goals as goal
use Rattle.tree_hold.proofs.+child_told_list_holds_list_told_near_told_node_told.Goals.{list_told-then-word-eq-PROPERTY, list_told-else-word-eq-PROPERTY}

pub child_told-word-kind-requires : goal.child_told-word-kind-requires
child_told-word-kind-requires t c = omega (arith, node_inside c.args.levels c.args.unread.now c.requires.0)

pub child_told-leaf_told-requires : goal.child_told-leaf_told-requires
child_told-leaf_told-requires t c =
    let a = c.args in
    let word = c.word-kind in
    (leaf_found a.levels a.unread.now word.result word.ensures (leaf_kind word.result c.if-kind-ge-CONTENT.true) (λ q. omega (arith, c.if-kind-ge-CONTENT.true, q)) c.requires.0, c.requires.1)

pub child_told-returns-then-kind-ge-CONTENT : goal.child_told-returns-then-kind-ge-CONTENT
child_told-returns-then-kind-ge-CONTENT t c =
    let a = c.args in
    let word = c.word-kind in
    leaf_answer a.levels a.unread.now word.result word.ensures (leaf_kind word.result c.if-kind-ge-CONTENT.true) (λ q. omega (arith, c.if-kind-ge-CONTENT.true, q)) (row_of a.catalogue.now a.row.now) c.leaf_told.result c.leaf_told.ensures

pub near_told-word-kind-requires : goal.near_told-word-kind-requires
near_told-word-kind-requires t c = omega (arith, node_inside c.args.levels c.args.unread.now c.requires.0)

pub near_told-overflow_sub-below : goal.near_told-overflow_sub-below
near_told-overflow_sub-below t c = let a = c.args in let f = c.requires.0 in omega (arith, node_levels a.levels f.nodes f.place a.unread.now f.node f.is)

pub near_told-list_told-requires : goal.near_told-list_told-requires
near_told-list_told-requires t c =
    let a = c.args in
    let f = c.requires.0 in
    (omega (arith, c.decreases, node_levels a.levels f.nodes f.place a.unread.now f.node f.is), (branch_found a.levels a.unread.now f c.word-kind.result c.word-kind.ensures (sym c.is_branch.ensures ∙ c.if-is_branch.true), c.requires.1))

pub near_told-returns-then-is_branch : goal.near_told-returns-then-is_branch
near_told-returns-then-is_branch t c =
    let a = c.args in
    branch_told a.levels a.unread.now (row_of a.catalogue.now a.row.now) _ c.word-kind.result c.word-kind.ensures (sym c.is_branch.ensures ∙ c.if-is_branch.true) c.list_told.ensures

pub list_told-loop-left-init : goal.list_told-loop-left-init
list_told-loop-left-init t c =
    let a = c.args in
    rw c.word-left.ensures (left_first (read_tree a.levels) a.kind a.unread.now (row_of a.catalogue.now a.row.now))

pub list_told-slice_bounds-part-count : goal.list_told-slice_bounds-part-count
list_told-slice_bounds-part-count t c =
    let a = c.args in
    let l = c.loop-left in
    omega (arith, next_inside a.levels a.kind a.unread.now (row_of a.catalogue.now a.row.now) c.requires.0 _ l.at l.invariant (omega (arith, c.loop-left-test.true)))

pub list_told-slice_bounds-part-start : goal.list_told-slice_bounds-part-start
list_told-slice_bounds-part-start t c = list_told-slice_bounds-part-count t c

pub list_told-word-requires : goal.list_told-word-requires
list_told-word-requires t c =
    let a = c.args in
    let l = c.loop-left in
    omega (arith, node_inside a.levels _ (next_found a.levels a.kind a.unread.now (row_of a.catalogue.now a.row.now) c.requires.0 _ l.at l.invariant (omega (arith, c.loop-left-test.true))))

pub list_told-relation_told-requires : goal.list_told-relation_told-requires
list_told-relation_told-requires t c =
    let a = c.args in
    let l = c.loop-left in
    property_inside a.levels _ (next_found a.levels a.kind a.unread.now (row_of a.catalogue.now a.row.now) c.requires.0 _ l.at l.invariant (omega (arith, c.loop-left-test.true))) (sym c.if-word-eq-PROPERTY.true ∙ c.word.ensures)

pub list_told-overflow_add-at : goal.list_told-overflow_add-at
list_told-overflow_add-at t c =
    let a = c.args in
    let l = c.loop-left in
    let found = next_found a.levels a.kind a.unread.now (row_of a.catalogue.now a.row.now) c.requires.0 _ l.at l.invariant (omega (arith, c.loop-left-test.true)) in
    let tells = property_told a.levels _ found (sym c.if-word-eq-PROPERTY.true ∙ c.word.ensures) a.catalogue.now a.row.now _ refl in
    omega (arith, next_ends a.levels a.kind a.unread.now (row_of a.catalogue.now a.row.now) c.requires.0 _ l.at l.invariant (omega (arith, c.loop-left-test.true)) _ 44 tells)

pub list_told-child_told-child-requires : goal.list_told-child_told-child-requires
list_told-child_told-child-requires t c =
    let a = c.args in
    let l = c.loop-left in
    (omega (arith, c.decreases), (next_found a.levels a.kind a.unread.now (row_of a.catalogue.now a.row.now) c.requires.0 _ l.at l.invariant (omega (arith, c.loop-left-test.true)), c.requires.1))

pub list_told-overflow_add-at-else-word-eq-PROPERTY : goal.list_told-overflow_add-at-else-word-eq-PROPERTY
list_told-overflow_add-at-else-word-eq-PROPERTY t c =
    let a = c.args in
    let l = c.loop-left in
    let v = c.child_told-child.result in
    omega (arith, next_ends a.levels a.kind a.unread.now (row_of a.catalogue.now a.row.now) c.requires.0 _ l.at l.invariant (omega (arith, c.loop-left-test.true)) v.holds v.used c.child_told-child.ensures)

pub list_told-list_end-used-requires : goal.list_told-list_end-used-requires
list_told-list_end-used-requires t c =
    let a = c.args in
    let l = c.loop-left in
    let found = next_found a.levels a.kind a.unread.now (row_of a.catalogue.now a.row.now) c.requires.0 _ l.at l.invariant (omega (arith, c.loop-left-test.true)) in
    elim c.if-word-eq-PROPERTY.branch [
      | list_told-then-word-eq-PROPERTY w ↦
          let tells = property_told a.levels _ found (sym w.if-word-eq-PROPERTY.true ∙ c.word.ensures) a.catalogue.now a.row.now w.relation_told.result.holds (ap (λ (x : Verdict). x.holds) w.relation_told.ensures) in
          rw w.at-is (next_ready a.levels a.kind a.unread.now (row_of a.catalogue.now a.row.now) c.requires.0 _ l.at l.invariant (omega (arith, c.loop-left-test.true)) w.relation_told.result.holds 44 tells)
      | list_told-else-word-eq-PROPERTY w ↦
          let v = w.child_told-child.result in
          rw w.at-is (next_ready a.levels a.kind a.unread.now (row_of a.catalogue.now a.row.now) c.requires.0 _ l.at l.invariant (omega (arith, c.loop-left-test.true)) v.holds v.used w.child_told-child.ensures)
    ]

pub list_told-returns-then-decides : goal.list_told-returns-then-decides
list_told-returns-then-decides t c =
    let a = c.args in
    let l = c.loop-left in
    let found = next_found a.levels a.kind a.unread.now (row_of a.catalogue.now a.row.now) c.requires.0 _ l.at l.invariant (omega (arith, c.loop-left-test.true)) in
    elim c.if-word-eq-PROPERTY.branch [
      | list_told-then-word-eq-PROPERTY w ↦
          let tells = property_told a.levels _ found (sym w.if-word-eq-PROPERTY.true ∙ c.word.ensures) a.catalogue.now a.row.now w.relation_told.result.holds (ap (λ (x : Verdict). x.holds) w.relation_told.ensures) in
          rw w.holds-is (next_told a.levels a.kind a.unread.now (row_of a.catalogue.now a.row.now) c.requires.0 _ l.at l.invariant (omega (arith, c.loop-left-test.true)) w.relation_told.result.holds 44 tells (sym (rw w.holds-is at c.decides.ensures) ∙ c.if-decides.true) c.list_end-used.result (rw w.at-is at c.list_end-used.ensures))
      | list_told-else-word-eq-PROPERTY w ↦
          let v = w.child_told-child.result in
          rw w.holds-is (next_told a.levels a.kind a.unread.now (row_of a.catalogue.now a.row.now) c.requires.0 _ l.at l.invariant (omega (arith, c.loop-left-test.true)) v.holds v.used w.child_told-child.ensures (sym (rw w.holds-is at c.decides.ensures) ∙ c.if-decides.true) c.list_end-used.result (rw w.at-is at c.list_end-used.ensures))
    ]

pub list_told-loop-left-preserved : goal.list_told-loop-left-preserved
list_told-loop-left-preserved t c =
    let a = c.args in
    let l = c.loop-left in
    let found = next_found a.levels a.kind a.unread.now (row_of a.catalogue.now a.row.now) c.requires.0 _ l.at l.invariant (omega (arith, c.loop-left-test.true)) in
    elim c.if-word-eq-PROPERTY.branch [
      | list_told-then-word-eq-PROPERTY w ↦
          let tells = property_told a.levels _ found (sym w.if-word-eq-PROPERTY.true ∙ c.word.ensures) a.catalogue.now a.row.now w.relation_told.result.holds (ap (λ (x : Verdict). x.holds) w.relation_told.ensures) in
          rw w.at-is (next_open a.levels a.kind a.unread.now (row_of a.catalogue.now a.row.now) c.requires.0 _ l.at l.invariant (omega (arith, c.loop-left-test.true)) w.relation_told.result.holds 44 tells (sym (rw w.holds-is at c.decides.ensures) ∙ c.if-decides.false))
      | list_told-else-word-eq-PROPERTY w ↦
          let v = w.child_told-child.result in
          rw w.at-is (next_open a.levels a.kind a.unread.now (row_of a.catalogue.now a.row.now) c.requires.0 _ l.at l.invariant (omega (arith, c.loop-left-test.true)) v.holds v.used w.child_told-child.ensures (sym (rw w.holds-is at c.decides.ensures) ∙ c.if-decides.false))
    ]

pub list_told-returns : goal.list_told-returns
list_told-returns t c =
    let a = c.args in
    let l = c.loop-left in
    none_told a.levels a.kind a.unread.now (row_of a.catalogue.now a.row.now) c.requires.0 _ l.at l.invariant (omega (arith, c.loop-left-test.false))

pub list_holds-loop-more-init : goal.list_holds-loop-more-init
list_holds-loop-more-init t c =
    let a = c.args in
    rw c.word-more.ensures (left_first (read_tree a.levels) a.kind a.unread.now (row_of a.catalogue.now a.row.now))

pub list_holds-slice_bounds-part-count : goal.list_holds-slice_bounds-part-count
list_holds-slice_bounds-part-count t c =
    let a = c.args in
    let l = c.loop-more in
    omega (arith, next_inside a.levels a.kind a.unread.now (row_of a.catalogue.now a.row.now) c.requires.0 _ l.at l.invariant (omega (arith, c.loop-more-test.true)))

pub list_holds-slice_bounds-part-start : goal.list_holds-slice_bounds-part-start
list_holds-slice_bounds-part-start t c = list_holds-slice_bounds-part-count t c

pub list_holds-near_told-child-requires : goal.list_holds-near_told-child-requires
list_holds-near_told-child-requires t c =
    let a = c.args in
    let l = c.loop-more in (
      omega (arith, c.decreases),
      (next_found a.levels a.kind a.unread.now (row_of a.catalogue.now a.row.now) c.requires.0 _ l.at l.invariant (omega (arith, c.loop-more-test.true)), c.requires.1),
    )

pub list_holds-overflow_add-at-in-loop-more : goal.list_holds-overflow_add-at-in-loop-more
list_holds-overflow_add-at-in-loop-more t c =
    let a = c.args in
    let l = c.loop-more in
    let v = c.near_told-child.result in
    omega (arith, next_ends a.levels a.kind a.unread.now (row_of a.catalogue.now a.row.now) c.requires.0 _ l.at l.invariant (omega (arith, c.loop-more-test.true)) v.holds v.used c.near_told-child.ensures)

pub list_holds-returns-then-decides-2 : goal.list_holds-returns-then-decides-2
list_holds-returns-then-decides-2 t c =
    let a = c.args in
    let l = c.loop-more in
    let v = c.near_told-child.result in
    next_decides a.levels a.kind a.unread.now (row_of a.catalogue.now a.row.now) c.requires.0 _ l.at l.invariant (omega (arith, c.loop-more-test.true)) v.holds v.used c.near_told-child.ensures (sym c.decides-in-loop-more.ensures ∙ c.if-decides-2.true)

pub list_holds-loop-more-preserved : goal.list_holds-loop-more-preserved
list_holds-loop-more-preserved t c =
    let a = c.args in
    let l = c.loop-more in
    let v = c.near_told-child.result in
    (next_open a.levels a.kind a.unread.now (row_of a.catalogue.now a.row.now) c.requires.0 _ l.at l.invariant (omega (arith, c.loop-more-test.true)) v.holds v.used c.near_told-child.ensures (sym c.decides-in-loop-more.ensures ∙ c.if-decides-2.false))

pub list_holds-word-requires : goal.list_holds-word-requires
list_holds-word-requires t c =
    let a = c.args in
    let l = c.loop-more in
    let found = next_found a.levels a.kind a.unread.now (row_of a.catalogue.now a.row.now) c.requires.0 _ l.at l.invariant (omega (arith, c.loop-more-test.true)) in
    omega (arith, node_inside a.levels _ found)

pub list_holds-relation_told-leaf-requires : goal.list_holds-relation_told-leaf-requires
list_holds-relation_told-leaf-requires t c =
    let a = c.args in
    let l = c.loop-more in
    let found = next_found a.levels a.kind a.unread.now (row_of a.catalogue.now a.row.now) c.requires.0 _ l.at l.invariant (omega (arith, c.loop-more-test.true)) in
    let is = sym c.if-word-eq-PROPERTY.true ∙ c.word.ensures in
    property_inside a.levels _ found is

pub list_holds-overflow_add-at : goal.list_holds-overflow_add-at
list_holds-overflow_add-at t c =
    let a = c.args in
    let l = c.loop-more in
    let found = next_found a.levels a.kind a.unread.now (row_of a.catalogue.now a.row.now) c.requires.0 _ l.at l.invariant (omega (arith, c.loop-more-test.true)) in
    let is = sym c.if-word-eq-PROPERTY.true ∙ c.word.ensures in
    let tells = property_told a.levels _ found is a.catalogue.now a.row.now c.relation_told-leaf.result.holds (ap (λ (x : Verdict). x.holds) c.relation_told-leaf.ensures) in
    omega (arith, next_ends a.levels a.kind a.unread.now (row_of a.catalogue.now a.row.now) c.requires.0 _ l.at l.invariant (omega (arith, c.loop-more-test.true)) c.relation_told-leaf.result.holds 44 tells)

pub list_holds-returns-then-decides : goal.list_holds-returns-then-decides
list_holds-returns-then-decides t c =
    let a = c.args in
    let l = c.loop-more in
    let found = next_found a.levels a.kind a.unread.now (row_of a.catalogue.now a.row.now) c.requires.0 _ l.at l.invariant (omega (arith, c.loop-more-test.true)) in
    let is = sym c.if-word-eq-PROPERTY.true ∙ c.word.ensures in
    let tells = property_told a.levels _ found is a.catalogue.now a.row.now c.relation_told-leaf.result.holds (ap (λ (x : Verdict). x.holds) c.relation_told-leaf.ensures) in
    next_decides a.levels a.kind a.unread.now (row_of a.catalogue.now a.row.now) c.requires.0 _ l.at l.invariant (omega (arith, c.loop-more-test.true)) c.relation_told-leaf.result.holds 44 tells (sym c.decides.ensures ∙ c.if-decides.true)

pub list_holds-loop-more-preserved-then-word-eq-PROPERTY : goal.list_holds-loop-more-preserved-then-word-eq-PROPERTY
list_holds-loop-more-preserved-then-word-eq-PROPERTY t c =
    let a = c.args in
    let l = c.loop-more in
    let found = next_found a.levels a.kind a.unread.now (row_of a.catalogue.now a.row.now) c.requires.0 _ l.at l.invariant (omega (arith, c.loop-more-test.true)) in
    let is = sym c.if-word-eq-PROPERTY.true ∙ c.word.ensures in
    let tells = property_told a.levels _ found is a.catalogue.now a.row.now c.relation_told-leaf.result.holds (ap (λ (x : Verdict). x.holds) c.relation_told-leaf.ensures) in
    (next_open a.levels a.kind a.unread.now (row_of a.catalogue.now a.row.now) c.requires.0 _ l.at l.invariant (omega (arith, c.loop-more-test.true)) c.relation_told-leaf.result.holds 44 tells (sym c.decides.ensures ∙ c.if-decides.false))

pub list_holds-returns : goal.list_holds-returns
list_holds-returns t c =
    let a = c.args in
    let l = c.loop-more in
    none_holds a.levels a.kind a.unread.now (row_of a.catalogue.now a.row.now) c.requires.0 _ l.at l.invariant (omega (arith, c.loop-more-test.false))

pub node_told-word-kind-requires : goal.node_told-word-kind-requires
node_told-word-kind-requires t c = omega (arith, node_inside c.args.levels c.args.unread.now c.requires.0)

pub node_told-overflow_sub-below : goal.node_told-overflow_sub-below
node_told-overflow_sub-below t c = let a = c.args in let f = c.requires.0 in omega (arith, node_levels a.levels f.nodes f.place a.unread.now f.node f.is)

pub node_told-list_holds-holds-requires : goal.node_told-list_holds-holds-requires
node_told-list_holds-holds-requires t c = let a = c.args in let f = c.requires.0 in (omega (arith, c.decreases, node_levels a.levels f.nodes f.place a.unread.now f.node f.is), (branch_found a.levels a.unread.now f c.word-kind.result c.word-kind.ensures (sym c.is_branch.ensures ∙ c.if-is_branch.true), c.requires.1))

pub node_told-returns-then-is_branch : goal.node_told-returns-then-is_branch
node_told-returns-then-is_branch t c =
    let a = c.args in
    branch_tells a.levels a.unread.now (row_of a.catalogue.now a.row.now) c.list_holds-holds.result c.node_size-used.result c.word-kind.result c.word-kind.ensures (sym c.is_branch.ensures ∙ c.if-is_branch.true) c.list_holds-holds.ensures c.node_size-used.ensures

pub node_told-slice_bounds-child-count : goal.node_told-slice_bounds-child-count
node_told-slice_bounds-child-count t c = omega (arith, node_inside c.args.levels c.args.unread.now c.requires.0)

pub node_told-slice_bounds-child-start : goal.node_told-slice_bounds-child-start
node_told-slice_bounds-child-start t c = node_told-slice_bounds-child-count t c

pub node_told-node_told-requires : goal.node_told-node_told-requires
node_told-node_told-requires t c = let a = c.args in let f = c.requires.0 in (omega (arith, c.decreases, node_levels a.levels f.nodes f.place a.unread.now f.node f.is), (not_found a.levels a.unread.now c.word-kind.result c.word-kind.ensures (sym c.is_branch.ensures ∙ c.if-is_branch.false) c.if-kind-eq-NOT.true f, c.requires.1))

pub node_told-overflow_add-result : goal.node_told-overflow_add-result
node_told-overflow_add-result t c =
    let a = c.args in
    let g = not_found a.levels a.unread.now c.word-kind.result c.word-kind.ensures (sym c.is_branch.ensures ∙ c.if-is_branch.false) c.if-kind-eq-NOT.true c.requires.0 in
    let inside = told_inside (a.levels - 1) _ (row_of a.catalogue.now a.row.now) c.node_told.result g c.node_told.ensures in
    rw c.turned-turned.ensures (omega (arith, g.short, inside))

pub node_told-returns-then-kind-eq-NOT : goal.node_told-returns-then-kind-eq-NOT
node_told-returns-then-kind-eq-NOT t c =
    let a = c.args in
    rw c.turned-turned.ensures (not_told a.levels a.unread.now c.word-kind.result c.word-kind.ensures (sym c.is_branch.ensures ∙ c.if-is_branch.false) c.if-kind-eq-NOT.true (row_of a.catalogue.now a.row.now) c.node_told.result c.node_told.ensures)

pub node_told-leaf_told-requires : goal.node_told-leaf_told-requires
node_told-leaf_told-requires t c = let a = c.args in (leaf_found a.levels a.unread.now c.word-kind.result c.word-kind.ensures (sym c.is_branch.ensures ∙ c.if-is_branch.false) c.if-kind-eq-NOT.false c.requires.0, c.requires.1)

pub node_told-returns-else-kind-eq-NOT : goal.node_told-returns-else-kind-eq-NOT
node_told-returns-else-kind-eq-NOT t c =
    let a = c.args in
    leaf_answer a.levels a.unread.now c.word-kind.result c.word-kind.ensures (sym c.is_branch.ensures ∙ c.if-is_branch.false) c.if-kind-eq-NOT.false (row_of a.catalogue.now a.row.now) c.leaf_told.result c.leaf_told.ensures
