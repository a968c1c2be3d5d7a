-- Two numbers of eight bytes side by side. Assumes nothing.
use mathlib.Core.Path.{◌∙◌}
use native.Mathlib.Omega.{arith}
use Rattle.wire.specs.Word.{le}
use Rattle.wire.proofs.Lay.{lay_next}
use Rattle.wire.proofs.Little.{le_length}
use Rattle.page_cell.proofs.lay_variant.Goals as goal

pub returns : goal.returns
returns c =
    let a = c.args in
    c.lay_long-2.ensures
    ∙ rw c.lay_long.ensures (lay_next a.reply.now a.at 8 (le 8 a.kind) (le 8 a.number) (le_length 8 a.kind) (omega (arith, c.requires)))
