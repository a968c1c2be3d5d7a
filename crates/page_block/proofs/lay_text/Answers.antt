-- The units copied and a zero unit after them are the block. Assumes nothing.
use native.Mathlib.Omega.{arith}
use Prim.Native.Nat.{◌-◌}
use Rattle.page.proofs.Units.{units_length, text_laid}
use Rattle.page_block.proofs.lay_text.Goals as goal

pub returns : goal.returns
returns c =
    let a = c.args in
    let inside = units_length a.catalogue.now a.text c.requires.0 in
    text_laid a.catalogue.now a.text c.requires.0 a.reply.now a.place (a.top - 2)
    (λ i. omega (arith, c.type_inv.catalogue i))
    (omega (arith, inside, c.requires.1, c.requires.2))
    (omega (arith, c.requires.1, c.requires.2, c.requires.3))
    c.units-units.ensures
    c.lay_bytes.ensures
    c.lay_half.ensures
