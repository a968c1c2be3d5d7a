-- The code's two cases are the definition's: the text's start, else the unit before the place. Assumes nothing.
use borrow.Author.Tests.{eq-eqb, ne_eqb}
use Rattle.tree.specs.Phrase.{starts_word}
use Rattle.tree_phrase.proofs.starts_word.Goals as goal

pub returns-then-place-eq0 : goal.returns-then-place-eq0
unfolding starts_word
returns-then-place-eq0 c = simp (eq-eqb _ _ c.if-place-eq0.true)

pub returns-else-place-eq0 : goal.returns-else-place-eq0
unfolding starts_word
returns-else-place-eq0 c = simp (ne_eqb _ _ c.if-place-eq0.false, c.unit.ensures)
