-- The root is a node at the first byte, read with all levels. Assumes nothing.
use mathlib.Core.Path.{sym, ◌∙◌}
use native.Mathlib.Omega.{arith}
use Rattle.catalogue.specs.CataloguePlaces.{row_of}
use Rattle.tree.specs.Limits.{levels_most}
use Rattle.tree.proofs.Nodes.{node_inside, branch_found, as_branch, leaf_found, leaf_answer, root, root_holds, root_answer}
use Rattle.tree_hold.proofs.holds.Goals as goal

pub word-kind-requires : goal.word-kind-requires
word-kind-requires c = let s = c.args.tree.now in omega (arith, node_inside levels_most s (root s c.requires.0).found)

pub list_holds-requires : goal.list_holds-requires
list_holds-requires c =
    let s = c.args.tree.now in
    let word = c.word-kind in
    (branch_found levels_most s (root s c.requires.0).found word.result word.ensures (sym c.is_branch.ensures ∙ c.if-is_branch.true), c.requires.1)

pub returns-then-is_branch : goal.returns-then-is_branch
returns-then-is_branch c =
    let a = c.args in
    let s = a.tree.now in
    let w = root s c.requires.0 in
    let f = w.found in
    let word = c.word-kind in
    root_holds s (row_of a.catalogue.now a.row.now) c.list_holds.result w
    (c.list_holds.ensures f.place _ f.node f.aligned (as_branch levels_most f.nodes f.place s f.node f.is word.result word.ensures (sym c.is_branch.ensures ∙ c.if-is_branch.true)))

pub node_told-requires : goal.node_told-requires
node_told-requires c = ((root c.args.tree.now c.requires.0).found, c.requires.1)

pub returns-then-kind-eq-NOT : goal.returns-then-kind-eq-NOT
returns-then-kind-eq-NOT c =
    let a = c.args in
    let s = a.tree.now in
    let w = root s c.requires.0 in
    let f = w.found in
    root_answer s (row_of a.catalogue.now a.row.now) c.node_told.result _ w (c.node_told.ensures f.place f.nodes f.node f.aligned f.is)

pub leaf_told-requires : goal.leaf_told-requires
leaf_told-requires c =
    let s = c.args.tree.now in
    let word = c.word-kind in
    (leaf_found levels_most s word.result word.ensures (sym c.is_branch.ensures ∙ c.if-is_branch.false) c.if-kind-eq-NOT.false (root s c.requires.0).found, c.requires.1)

pub returns-else-kind-eq-NOT : goal.returns-else-kind-eq-NOT
returns-else-kind-eq-NOT c =
    let a = c.args in
    let s = a.tree.now in
    let w = root s c.requires.0 in
    let f = w.found in
    let word = c.word-kind in
    root_answer s (row_of a.catalogue.now a.row.now) c.leaf_told.result _ w
    (leaf_answer levels_most s word.result word.ensures (sym c.is_branch.ensures ∙ c.if-is_branch.false) c.if-kind-eq-NOT.false (row_of a.catalogue.now a.row.now) c.leaf_told.result c.leaf_told.ensures f.place f.nodes f.node f.aligned f.is)
