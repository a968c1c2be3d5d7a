-- Where the phrase was read, the answer is by the property and the method. Assumes nothing.
use mathlib.Core.Path.{◌≡◌, refl, sym, ◌∙◌}
use native.Mathlib.Omega.{arith}
use lib.Dec.{leb}
use Rattle.lists.specs.Below.{both, within}
use Rattle.tree.specs.Parts.{content_at}
use Rattle.tree.proofs.LeafLaws.{holds_then, holds_not, phrase_read, content_short, content_by}
use Rattle.tree_leaf.proofs.read_content.Goals as goal
use Rattle.tree_leaf.proofs.read_content.Goals.{then-within, else-within}

pub returns-in_err-start : goal.returns-in_err-start
unfolding content_at
returns-in_err-start c = rw (c.from_residual.ensures, sym c.read_phrase.ensures ∙ c.in_err-start.was)

pub overflow_add-used : goal.overflow_add-used
overflow_add-used c =
    let a = c.args in
    let r = c.in_ok-start.field-0 in
    let f = phrase_read a.unread.now a.place 32 r.start r.count r.next (sym c.read_phrase.ensures ∙ c.in_ok-start.was) in
    omega (arith, f.inside, c.well_formed)

pub returns-then-unread-used : goal.returns-then-unread-used
returns-then-unread-used c =
    let a = c.args in
    let r = c.in_ok-start.field-0 in
    content_short a.unread.now a.place r.start r.count r.next (sym c.read_phrase.ensures ∙ c.in_ok-start.was) c.if-unread-used.true

pub property-property-requires : goal.property-property-requires
property-property-requires c =
    let a = c.args in
    let r = c.in_ok-start.field-0 in
    let f = phrase_read a.unread.now a.place 32 r.start r.count r.next (sym c.read_phrase.ensures ∙ c.in_ok-start.was) in
    omega (arith, f.after, f.ends, f.inside)

pub returns : goal.returns
returns c =
    let a = c.args in
    let r = c.in_ok-start.field-0 in
    let fits : c.if-within.fits ≡ both (within 5 6 c.property-property.result) (leb c.word-method.result 1)
    = elim c.if-within.branch [
      | then-within w ↦ holds_then w.if-within.true c.within.ensures w.fits-is refl
      | else-within w ↦ holds_not _ w.if-within.false c.within.ensures w.fits-is
    ] in
    c.then_some.ensures
    ∙ content_by a.unread.now a.place r.start r.count r.next (sym c.read_phrase.ensures ∙ c.in_ok-start.was)
    c.if-unread-used.false _ _ c.if-within.fits c.property-property.ensures c.word-method.ensures fits
