-- The sixteen bytes are all of the block, and the block is laid. Assumes nothing.
use mathlib.Core.Path.{◌≡◌, ap, ◌∙◌}
use Prim.Native.Nat.{ℕ, ◌+◌, ◌-◌}
use native.Mathlib.Omega.{arith}
use lib.ListN.{length, length-drop, drop, replicate}
use lib.Seq.{length-take-le}
use Rattle.lists.specs.Parts.{part}
use Rattle.wire.specs.Laid.{lay}
use Rattle.wire.proofs.Lay.{lay_whole}
use Rattle.wire_copy.proofs.lay_sixteen.Goals as goal

pub returns : goal.returns
returns c =
    let a = c.args in
    let bytes = a.bytes.now in
    let n : a.from + 16 - a.from ≡ 16 = omega arith in
    let long : length (part bytes a.from 16) ≡ 16 = length-take-le 16 (drop a.from bytes) (omega (arith, length-drop a.from bytes)) in
    let block = c.lay_few.ensures ∙ ap (λ (k : ℕ). lay (replicate 16 0) 0 (part bytes a.from k)) n ∙ lay_whole (replicate 16 0) (part bytes a.from 16) (omega (arith, long)) in
    c.lay_few-2.ensures ∙ ap (lay a.reply.now a.at) block
