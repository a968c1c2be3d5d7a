-- The property is answered exactly where it is a numbered one. Assumes nothing.
use mathlib.Core.Path.{sym, ◌∙◌}
use borrow.Author.Tests.{eq-eqb, ne_eqb}
use Rattle.wire.specs.PropertySpec.{property_at}
use Rattle.wire_named.proofs.property.Goals as goal

pub returns-then-word-eq-NUMBERED : goal.returns-then-word-eq-NUMBERED
unfolding property_at
returns-then-word-eq-NUMBERED c = rw (eq-eqb _ _ (sym c.word.ensures ∙ c.if-word-eq-NUMBERED.true)) c.named.ensures

pub returns-else-word-eq-NUMBERED : goal.returns-else-word-eq-NUMBERED
unfolding property_at
returns-else-word-eq-NUMBERED c = rw (ne_eqb _ _ (λ e. c.if-word-eq-NUMBERED.false (c.word.ensures ∙ e)))
