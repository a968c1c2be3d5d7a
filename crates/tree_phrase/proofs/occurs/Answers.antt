-- The phrase occurs at no place below the next (the outer invariant): each way on, a left edge that fails, a unit that differs, a right
-- edge that fails, shows it of one place more. Where a place is accepted, the inner invariant has all its units equal; where the search
-- ends, no place is left with room for the phrase. Assumes nothing.
use mathlib.Core.Path.{◌≡◌, sym, ◌∙◌}
use mathlib.Core.Bool.{true}
use Prim.Native.Nat.{◌+◌}
use native.Mathlib.Omega.{arith}
use borrow.Author.Count.{below_more}
use Rattle.wire.specs.Word.{halves}
use Rattle.tree.specs.Phrase.{exact, ends_word, occurs}
use Rattle.tree.proofs.Phrase.{no_left, no_right, found, nowhere}
use Rattle.tree_phrase.proofs.occurs.Goals as goal
use Rattle.tree_phrase.proofs.occurs.Goals.{then-method-ne-EXACT-via-then-method-ne-EXACT, then-method-ne-EXACT-via-else-method-ne-EXACT+then-ends_word}

pub returns-then-units-size : goal.returns-then-units-size
returns-then-units-size c =
    let a = c.args in
    nowhere a.method (halves a.phrase.now) (halves a.text.now) c.count-size.result c.count-size.ensures.0 0
    (omega (arith, c.if-units-size.true, c.count-units.ensures.0))
    (λ k h. absurd (omega (arith, h)))

pub places-preserved-then-not-starts_word : goal.places-preserved-then-not-starts_word
places-preserved-then-not-starts_word c =
    below_more _ _ c.places.invariant (no_left (sym c.starts_word.ensures ∙ c.if-not-starts_word.true))

-- after the last unit only the right edge is left to show
pub returns-then-method-ne-EXACT : goal.returns-then-method-ne-EXACT
returns-then-method-ne-EXACT c =
    let a = c.args in
    let all : (c.args.method ≡ exact → ends_word (halves a.text.now) (c.places.place + c.count-size.result) ≡ true) → true ≡ occurs a.method (halves a.phrase.now) (halves a.text.now)
    = found a.method (halves a.phrase.now) (halves a.text.now) c.count-size.result c.count-size.ensures.0 c.places.place
    (sym c.starts_word.ensures ∙ c.if-not-starts_word.false)
    (omega (arith, c.places-test.true, c.if-units-size.false, c.count-units.ensures.0))
    (λ i h. c.loop-i.invariant i (omega (arith, h, c.loop-i-test.false))) in
    elim c.then-method-ne-EXACT.branch [
      | then-method-ne-EXACT-via-then-method-ne-EXACT w ↦ all (λ asked. absurd (w.if-method-ne-EXACT.true asked))
      | then-method-ne-EXACT-via-else-method-ne-EXACT+then-ends_word w ↦ all (λ asked. sym w.ends_word.ensures ∙ w.if-ends_word.true)
    ]

pub places-preserved : goal.places-preserved
places-preserved c =
    below_more _ _ c.places.invariant
    (no_right c.count-size.result c.count-size.ensures.0 c.if-method-ne-EXACT.false (sym c.ends_word.ensures ∙ c.if-ends_word.false))

pub returns : goal.returns
returns c =
    let a = c.args in
    nowhere a.method (halves a.phrase.now) (halves a.text.now) c.count-size.result c.count-size.ensures.0 c.places.place
    (omega (arith, c.places-test.false, c.if-units-size.false, c.count-units.ensures.0))
    c.places.invariant
