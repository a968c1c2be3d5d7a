-- A leaf that is read has the places of its kind. Assumes nothing.
use mathlib.Core.Path.{◌∙◌, ap}
use native.Mathlib.Omega.{arith}
use Prim.Native.Nat.{ℕ, ◌+◌}
use Rattle.tree.proofs.Leaves.{content_inside, content_size, locale_counted, relation_size_lem}
use Rattle.tree_size.proofs.leaf_size.Goals as goal

pub word-count-requires : goal.word-count-requires
word-count-requires c = omega (arith, content_inside c.args.kind c.args.unread.now c.requires c.if-kind-eq-CONTENT.true)

pub returns-then-kind-eq-CONTENT : goal.returns-then-kind-eq-CONTENT
returns-then-kind-eq-CONTENT c =
    let s = c.args.unread.now in
    ap (λ (n : ℕ). n + 8) (locale_counted s c.word-count.result c.padding.result c.word-count.ensures c.padding.ensures)
    ∙ content_size c.args.kind s c.requires c.if-kind-eq-CONTENT.true

pub returns-else-kind-eq-CONTENT : goal.returns-else-kind-eq-CONTENT
returns-else-kind-eq-CONTENT c = relation_size_lem c.args.kind c.args.unread.now c.requires c.if-kind-eq-CONTENT.false
