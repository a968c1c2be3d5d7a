-- Each way that the reading can go is a law of the definition. Assumes nothing.
use mathlib.Core.Path.{◌≡◌, refl, sym, ap, ap₂, ◌∙◌}
use Prim.Native.Nat.{◌+◌, ◌*◌}
use Rattle.lists.specs.Below.{both, within}
use Rattle.wire.specs.Padding.{zero_at}
use Rattle.lists.proofs.Below.{both_assoc}
use Rattle.tree.proofs.LeafLaws.{holds_then, holds_not, phrase_short, phrase_cut, phrase_by}
use Rattle.tree_leaf.proofs.read_phrase.Goals as goal
use Rattle.tree_leaf.proofs.read_phrase.Goals.{then-within, else-within}

pub returns-then-unread-start : goal.returns-then-unread-start
returns-then-unread-start c = let a = c.args in phrase_short a.unread.now a.place a.at c.padding-before.result c.padding-before.ensures c.if-unread-start.true

pub returns-then-unread-next : goal.returns-then-unread-next
returns-then-unread-next c = let a = c.args in phrase_cut a.unread.now a.place a.at _ c.padding-before.ensures _ _ c.word-units.ensures c.padding-after.ensures c.if-unread-next.true

pub returns : goal.returns
returns c =
    let a = c.args in
    let first : c.if-within.fits ≡ both (within 1 64 c.word-units.result) c.both-padded.result
    = elim c.if-within.branch [
      | then-within w ↦ holds_then w.if-within.true c.within.ensures w.fits-is refl
      | else-within w ↦ holds_not _ w.if-within.false c.within.ensures w.fits-is
    ] in
    let w = within 1 64 c.word-units.result in
    let before = zero_at a.unread.now a.at c.padding-before.result in
    let after = zero_at a.unread.now (a.at + c.padding-before.result + 4 + 2 * c.word-units.result) c.padding-after.result in
    let padded : c.both-padded.result ≡ both before after = c.both-padded.ensures ∙ ap₂ both c.zero_at.ensures c.zero_at-2.ensures in
    let fits : c.if-within.fits ≡ both (both w before) after = first ∙ ap (both w) padded ∙ sym (both_assoc w before after) in
    c.then_some.ensures
    ∙ phrase_by a.unread.now a.place a.at _ c.padding-before.ensures _ _ c.word-units.ensures c.padding-after.ensures c.if-unread-next.false c.if-within.fits fits
