use Rattle.std.proofs.Common.{◌≡◌, ◌≤◌, drop}
use Rattle.line.specs.Digits.{decimal, spelled, within, number_most}
use Rattle.line_word.proofs.decimal.Given as goal

abbrev pub invariant-loop-digit : goal.invariant-loop-digit
invariant-loop-digit l = (l.value ≤ number_most) × (decimal l.digits ≡ within (spelled l.value (drop l.digit-index l.digits)))
