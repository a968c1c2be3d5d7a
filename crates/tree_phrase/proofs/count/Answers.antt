-- Two bytes make a unit, so the units are half as many as the bytes (halves-length). Assumes nothing.
use native.Mathlib.Omega.{arith}
use Rattle.wire.proofs.Halves.{halves_length}
use Rattle.tree_phrase.proofs.count.Goals as goal

pub returns : goal.returns
returns c = omega (arith, halves_length c.args.units.now)
