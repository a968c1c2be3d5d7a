-- The numbers M1 to M4 of 01, as theorems of the definitions: the parser reads them and the writer writes them.
use mathlib.Core.Path.{◌≡◌, refl}
use mathlib.Core.List.{[], ◌∷◌}
use Rattle.std.specs.Prelude.{None, Some}
use Rattle.catalogue.specs.Groups.{groups, groups_of, number, written}

pub m1 : (number 0xffff_ffff (0x7f ∷ []) ≡ Some (127, [])) × (written 127 ≡ 0x7f ∷ [])
unfolding number groups groups_of
m1 = (refl, refl)

pub m2 : (number 0xffff_ffff (0x80 ∷ 0x01 ∷ []) ≡ Some (128, [])) × (written 128 ≡ 0x80 ∷ 0x01 ∷ [])
unfolding number groups groups_of
m2 = (refl, refl)

pub m3 : (number 0xffff_ffff (0xff ∷ 0xff ∷ 0xff ∷ 0xff ∷ 0x0f ∷ []) ≡ Some (0xffff_ffff, [])) × (written 0xffff_ffff ≡ 0xff ∷ 0xff ∷ 0xff ∷ 0xff ∷ 0x0f ∷ [])
unfolding number groups groups_of
m3 = (refl, refl)

pub m4 : number 0xffff_ffff (0x80 ∷ 0x00 ∷ []) ≡ None
unfolding number groups
m4 = refl
