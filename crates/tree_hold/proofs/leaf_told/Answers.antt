-- A leaf that is read has the words of its kind. Assumes nothing.
use mathlib.Core.Path.{◌∙◌}
use Rattle.tree.proofs.Leaves.{relation_inside, relation_is, content_inside, content_is}
use Rattle.tree_hold.proofs.leaf_told.Goals as goal

pub content_told-requires : goal.content_told-requires
content_told-requires c = let a = c.args in (content_inside a.kind a.unread.now c.requires.0 c.if-kind-eq-CONTENT.true, c.requires.1)

pub returns-then-kind-eq-CONTENT : goal.returns-then-kind-eq-CONTENT
returns-then-kind-eq-CONTENT c = let a = c.args in c.content_told.ensures ∙ content_is a.kind a.unread.now c.requires.0 c.if-kind-eq-CONTENT.true a.catalogue.now a.row.now

pub relation_told-requires : goal.relation_told-requires
relation_told-requires c = let a = c.args in relation_inside a.kind a.unread.now c.requires.0 c.if-kind-eq-CONTENT.false

pub returns-else-kind-eq-CONTENT : goal.returns-else-kind-eq-CONTENT
returns-else-kind-eq-CONTENT c = let a = c.args in
    c.relation_told.ensures ∙ (relation_is a.kind a.unread.now c.requires.0 c.if-kind-eq-CONTENT.false a.catalogue.now a.row.now)
