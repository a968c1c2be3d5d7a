-- The bytes begin with the identifier where each of its places is there. Assumes nothing.
use mathlib.Core.Path.{refl, ap, ◌∙◌}
use mathlib.Core.List.{List, [], ◌∷◌}
use Prim.Native.Nat.{ℕ}
use lib.Dec.{eqb}
use lib.ListN.{take}
use Rattle.std.specs.Cmp.Lexicographic.{pointwise}
use Rattle.lists.specs.Below.{every_below}
use Rattle.lists.proofs.Library.{part_same}
use Rattle.wire.proofs.Words.{rest}
use Rattle.wire.specs.PropertySpec.{set_ours}
use Rattle.wire_named.proofs.set_ours.Goals as goal

pub returns : goal.returns
unfolding set_ours every_below
returns c =
    let a = c.args in
    let set : List ℕ = 0x10 ∷ 0x11 ∷ 0x12 ∷ 0x13 ∷ 0x14 ∷ 0x15 ∷ 0x16 ∷ 0x17 ∷ 0x18 ∷ 0x19 ∷ 0x1a ∷ 0x1b ∷ 0x1c ∷ 0x1d ∷ 0x1e ∷ 0x1f ∷ [] in
    c.starts_with.ensures.value
    ∙ ap (λ (t : List ℕ). pointwise eqb set (take 16 t)) (rest a.at a.bytes.now)
    ∙ part_same a.bytes.now a.at 16 c.requires set refl
