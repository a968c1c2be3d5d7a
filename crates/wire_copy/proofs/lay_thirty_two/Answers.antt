-- The second sixteen bytes follow the first, in the bytes and in the reply. Assumes nothing.
use mathlib.Core.Path.{ap, ◌∙◌}
use mathlib.Core.List.{List}
use Prim.Native.Nat.{ℕ, ◌+◌}
use native.Mathlib.Omega.{arith}
use Rattle.lists.specs.Parts.{part}
use Rattle.wire.specs.Laid.{lay}
use Rattle.wire.proofs.Lay.{lay_parts}
use Rattle.wire_copy.proofs.lay_thirty_two.Goals as goal

pub returns : goal.returns
returns c =
    let a = c.args in
    let bytes = a.bytes.now in
    c.lay_sixteen-2.ensures
    ∙ ap (λ (t : List ℕ). lay t (a.at + 16) (part bytes (a.from + 16) 16)) c.lay_sixteen.ensures
    ∙ lay_parts a.reply.now a.at bytes a.from 16 16 (omega arith) (omega arith)
