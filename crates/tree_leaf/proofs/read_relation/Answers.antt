-- The answer is by the relation, the property and the value's type. Assumes nothing.
use mathlib.Core.Path.{◌≡◌, refl, ap, ap₂, ◌∙◌}
use Prim.Native.Nat.{ℕ}
use borrow.Author.Tests.{le-leb, lt-leb}
use lib.Dec.{eqb, leb}
use Rattle.lists.specs.Below.{both, within}
use Rattle.wire.specs.Word.{number_at}
use Rattle.tree.proofs.LeafLaws.{holds_then, holds_not, relation_short, relation_by}
use Rattle.tree_leaf.proofs.read_relation.Goals as goal
use Rattle.tree_leaf.proofs.read_relation.Goals.{then-relop-le5, else-relop-le5, then-within, else-within, then-half-number_type, else-half-number_type}

pub returns-then-unread-lt-RELATION_SIZE : goal.returns-then-unread-lt-RELATION_SIZE
returns-then-unread-lt-RELATION_SIZE c = relation_short c.args.unread.now c.if-unread-lt-RELATION_SIZE.true

pub returns : goal.returns
returns c =
    let s = c.args.unread.now in
    let first : c.if-relop-le5.value ≡ both (leb c.word-relop.result 5) (within 2 4 c.property-property.result)
    = elim c.if-relop-le5.branch [
      | then-relop-le5 w ↦ holds_then (le-leb _ _ w.if-relop-le5.true) refl w.value-is w.within.ensures
      | else-relop-le5 w ↦ holds_not _ (lt-leb _ _ w.if-relop-le5.false) refl w.value-is
    ] in
    let second : c.if-within.value ≡ both _ (eqb (number_at 2 s 36) 0x0013)
    = elim c.if-within.branch [
      | then-within w ↦ holds_then w.if-within.true first w.value-is (ap₂ eqb w.half.ensures w.number_type.ensures)
      | else-within w ↦ holds_not _ w.if-within.false first w.value-is
    ] in
    let third : c.if-half-number_type.fits ≡ both _ (eqb (number_at 2 s 38) 0)
    = elim c.if-half-number_type.branch [
      | then-half-number_type w ↦ holds_then w.if-half-number_type.true second w.fits-is (ap (λ (n : ℕ). eqb n 0) w.half-then-half-number_type.ensures)
      | else-half-number_type w ↦ holds_not _ w.if-half-number_type.false second w.fits-is
    ] in
    c.then_some.ensures
    ∙ relation_by s c.if-unread-lt-RELATION_SIZE.false _ _ _ c.if-half-number_type.fits c.word-relop.ensures c.property-property.ensures c.word-value.ensures third
