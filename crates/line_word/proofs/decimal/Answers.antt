-- The number is what the digits that are left spell after the value so far. Assumes nothing.
use mathlib.Core.Path.{refl, sym, ap, ◌∙◌}
use native.Mathlib.Omega.{arith}
use Rattle.line.specs.Digits.{decimal, within}
use Rattle.line.proofs.DigitLaws.{stays_past, no_digit, digit_more, digits_end}
use Rattle.line_word.proofs.decimal.Goals as goal

pub loop-digit-init : goal.loop-digit-init
unfolding decimal
loop-digit-init c = (omega arith, refl)

pub returns-then-not-is_ascii_digit : goal.returns-then-not-is_ascii_digit
returns-then-not-is_ascii_digit c =
    let l = c.loop-digit in
    sym (l.invariant.1 ∙ no_digit c.args.digits.now l.value l.digit-index (omega arith) c.if-not-is_ascii_digit.ensures.cases)

pub returns-then-value-gt-MOST : goal.returns-then-value-gt-MOST
returns-then-value-gt-MOST c =
    let l = c.loop-digit in
    let s = c.args.digits.now in
    let digit = c.if-not-is_ascii_digit.ensures.cases in
    sym (l.invariant.1 ∙ ap within (digit_more s l.value l.digit-index (omega arith) digit.0 digit.1) ∙ stays_past _ _ (omega arith))

pub loop-digit-preserved : goal.loop-digit-preserved
loop-digit-preserved c =
    let l = c.loop-digit in
    let s = c.args.digits.now in
    let digit = c.if-not-is_ascii_digit.ensures.cases in
    (omega arith, rw (c.from.ensures) (l.invariant.1 ∙ ap within (digit_more s l.value l.digit-index (omega arith) digit.0 digit.1)))

pub returns : goal.returns
returns c =
    let l = c.loop-digit in
    sym (l.invariant.1 ∙ digits_end c.args.digits.now l.value l.digit-index (omega arith) l.invariant.0)
