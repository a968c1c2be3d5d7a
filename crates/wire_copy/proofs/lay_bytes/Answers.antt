-- Of two sixteens the second, the last of the bytes, is laid over what it has of the first. Assumes nothing.
use mathlib.Core.Path.{ap, ◌∙◌}
use mathlib.Core.List.{List}
use Prim.Native.Nat.{ℕ, ◌+◌, ◌-◌}
use native.Mathlib.Omega.{arith}
use lib.ListN.{length}
use Rattle.lists.specs.Parts.{part}
use Rattle.wire.specs.Laid.{lay}
use Rattle.wire.proofs.Lay.{lay_last}
use Rattle.wire_copy.proofs.lay_bytes.Goals as goal

pub returns-then-bytes-le32 : goal.returns-then-bytes-le32
returns-then-bytes-le32 c =
    let a = c.args in
    let bytes = a.bytes.now in
    let last = length bytes - 16 in
    c.lay_sixteen-then-bytes-le32.ensures
    ∙ ap (λ (t : List ℕ). lay t (a.at + last) (part bytes last 16)) c.lay_sixteen.ensures
    ∙ lay_last a.reply.now a.at bytes 16 16 (omega arith) (omega arith) (omega arith) (omega arith)
