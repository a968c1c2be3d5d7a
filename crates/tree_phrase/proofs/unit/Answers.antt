-- The unit at an index is the number that two bytes hold at twice the index (halves-at). Assumes nothing.
use mathlib.Core.Path.{sym, ◌∙◌}
use native.Mathlib.Omega.{arith}
use Rattle.wire.proofs.Halves.{halves_length, halves_at}
use Rattle.tree_phrase.proofs.unit.Goals as goal

pub overflow_mul-index : goal.overflow_mul-index
overflow_mul-index c = omega (arith, halves_length c.args.units.now)

pub half-requires : goal.half-requires
half-requires c = omega (arith, halves_length c.args.units.now)

pub returns : goal.returns
returns c =
    let a = c.args in
    c.half.ensures ∙ sym (halves_at a.units.now a.index (omega (arith, halves_length a.units.now)))
