-- The code's two cases are the definition's: the text's end, else the unit at the place. Assumes nothing.
use mathlib.Core.Path.{sym, ◌∙◌}
use borrow.Author.Tests.{eq-eqb, ne_eqb}
use Rattle.tree.specs.Phrase.{ends_word}
use Rattle.tree_phrase.proofs.ends_word.Goals as goal

pub returns-then-place-count : goal.returns-then-place-count
unfolding ends_word
returns-then-place-count c = simp (eq-eqb _ _ c.if-place-count.true, eq-eqb _ _ (c.if-place-count.true ∙ c.count.ensures.0))

pub returns-else-place-count : goal.returns-else-place-count
unfolding ends_word
returns-else-place-count c =
    simp (ne_eqb _ _ (λ e. c.if-place-count.false (e ∙ sym c.count.ensures.0)), c.unit.ensures)
