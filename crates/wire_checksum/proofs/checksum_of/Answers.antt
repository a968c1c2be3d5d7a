-- `wire_checksum::checksum_of` meets its contract: the part after the header is the list without its first sixteen bytes. Assumes nothing.
use mathlib.Core.Path.{ap}
use Prim.Native.Nat.{ℕ, ◌%◌}
use native.Mathlib.Omega.{arith}
use Rattle.wire.proofs.Words.{rest}
use Rattle.wire.specs.Checksum.{checksum}
use Rattle.wire_checksum.proofs.checksum_of.Goals as goal

pub returns : goal.returns
unfolding checksum
returns c =
    rw (c.body_sum-sum.ensures, rest 16 c.args.message.now, c.word-number.ensures)
    (ap (λ (k : ℕ). k % 0x1_0000_0000) (omega (arith, c.word-number.ensures, c.word-number.type_inv)))
