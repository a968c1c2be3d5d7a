-- A property and the units of a phrase, as parts that stand in a list of bytes. Assumes nothing.
use mathlib.Core.Path.{◌≡◌, refl, sym, ap, ap₂, ◌∙◌}
use mathlib.Core.Bool.{Bool, true, false}
use mathlib.Core.List.{List, [], ◌∷◌, ◌++◌, map}
use Rattle.std.specs.Prelude.{Option, Some}
use Prim.Native.Nat.{ℕ, suc, ◌+◌, ◌*◌, ◌≤◌, ◌<◌}
use native.Mathlib.Omega.{arith}
use borrow.Author.Tests.{eq-eqb, eqb-true}
use lib.Dec.{eqb}
use lib.ListN.{length, get_or, take, length-map}
use Rattle.lists.specs.Below.{pick, every_below}
use Rattle.lists.specs.Parts.{part}
use Rattle.lists.proofs.Parts.{part_length}
use Rattle.lists.proofs.Below.{every_at, every_shown}
use Rattle.wire.specs.Word.{Bytes, number_at, le, halves}
use Rattle.wire.specs.PropertySpec.{set_size, set_first, set_ours, is_numbered, property_at, spec}
use Rattle.wire.proofs.Words.{half_at}
use Rattle.wire.proofs.Halves.{halves_length, halves_at}
use Rattle.catalogue.specs.Writer.{unit_bytes}
use Rattle.catalogue.proofs.RoundTrip.{written_halves}
use Rattle.tree.proofs.LeafWords.{property_is}
use Rattle.tree.proofs.FormLaws.{Stands, stands_both, stands_apart, bytes_part, given_by, given_byte, given_part, part_given, number_stands, number_there}

-- the sixteen bytes of the set
abbrev set : List ℕ
set = take set_size (spec 0)

set_byte : (i : ℕ) → i < 16 → get_or set i 0 ≡ set_first + i
unfolding every_below
set_byte i h = eqb-true (get_or set i 0) (set_first + i) (every_at 16 (λ j. eqb (get_or set j 0) (set_first + j)) refl i h)

set_stands : (s : List ℕ) (a b : ℕ) → a + 16 ≡ b → b ≤ length s → set_ours s a ≡ true → Stands (map Some set) s a b
unfolding set_ours
set_stands s a b e h z =
    given_by set s a b e h λ i l.
    eqb-true (get_or s (a + i) 0) (set_first + i) (every_at 16 (λ j. eqb (get_or s (a + j) 0) (set_first + j)) z i l) ∙ sym (set_byte i l)

set_there : (s : List ℕ) (a b : ℕ) → Stands (map Some set) s a b → set_ours s a ≡ true
unfolding set_ours
set_there s a b h =
    every_shown 16 (λ j. eqb (get_or s (a + j) 0) (set_first + j)) λ i l.
    eq-eqb (get_or s (a + i) 0) (set_first + i) (given_byte set s a b h i l ∙ set_byte i l)

-- a property
property_ours : (b c : Bool) (n : ℕ) → 0 < pick b (pick c n 0) 0 → (b ≡ true) × (c ≡ true)
property_ours true true n h = (refl, refl)
property_ours true false n h = absurd (omega (arith, h))
property_ours false c n h = absurd (omega (arith, h))

module _ (s : List ℕ) (a b : ℕ) where
  pub spec_stands : Bytes s → a + 24 ≡ b → b ≤ length s → 0 < property_at s a → Stands (map Some (spec (property_at s a))) s a b
  unfolding property_at le
  spec_stands bytes e h l =
      let ours = property_ours (is_numbered s a) (set_ours s a) (number_at 4 s (a + 20)) l in
      let kind : Stands (map Some (le 4 1)) s (a + 16) (a + 20) =
      rw (eqb-true (number_at 4 s (a + 16)) 1 ours.0) at (number_stands 4 s (a + 16) (a + 20) bytes (omega arith) (omega (arith, e, h))) in
      let last : Stands (map Some (le 4 (property_at s a))) s (a + 20) b =
      rw (property_is s a l) (number_stands 4 s (a + 20) b bytes (omega (arith, e)) h) in
      stands_both (map Some set) (map Some (le 4 1) ++ map Some (le 4 (property_at s a))) s a (a + 16) b
      (set_stands s a (a + 16) refl (omega (arith, e, h)) ours.1)
      (stands_both (map Some (le 4 1)) (map Some (le 4 (property_at s a))) s (a + 16) (a + 20) b kind last)

  pub spec_there : (property : ℕ) → property < 4294967296 → Stands (map Some (spec property)) s a b → property_at s a ≡ property
  unfolding property_at le
  spec_there property h w =
      let x = stands_apart (map Some set) (map Some (le 4 1) ++ map Some (le 4 property)) s a (a + 16) b refl w in
      let y = stands_apart (map Some (le 4 1)) (map Some (le 4 property)) s (a + 16) (a + 20) b (omega arith) x.1 in
      rw (
        eq-eqb (number_at 4 s (a + 16)) 1 (number_there 4 s (a + 16) (a + 20) 1 (omega arith) y.0),
        set_there s a (a + 16) x.0,
        number_there 4 s (a + 20) b property (omega (arith, h)) y.1,
      )

-- the units of a phrase
pub units_long : (units : List ℕ) → length (map {B = Option ℕ} Some (unit_bytes units)) ≡ 2 * length units
unfolding unit_bytes le
units_long [] = refl
units_long (u ∷ units) = omega (arith, units_long units)

abbrev pub Units : List ℕ → Type 0
Units units = (i : ℕ) → i < length units → get_or units i 0 < 65536

halves_written : (units : List ℕ) → Units units → halves (unit_bytes units) ≡ units
unfolding unit_bytes le halves
halves_written [] h = refl
halves_written (u ∷ units) h =
    ap₂ (λ (x : ℕ) (r : List ℕ). x ∷ r) (omega (arith, h 0 (omega arith))) (halves_written units (λ i l. h (suc i) (omega arith)))

module _ (s : List ℕ) (a b count : ℕ) where
  pub units_stand : Bytes s → a + 2 * count ≡ b → b ≤ length s
      → Stands (map Some (unit_bytes (halves (part s a (2 * count))))) s a b × (length (halves (part s a (2 * count))) ≡ count) × Units (halves (part s a (2 * count)))
  units_stand bytes e h =
      let found = part s a (2 * count) in
      let long : length found ≡ 2 * count = part_length s a (2 * count) (omega (arith, e, h)) in
      let same : unit_bytes (halves found) ≡ found = written_halves found count long (bytes_part s a (2 * count) bytes) in
      let many : length (halves found) ≡ count = omega (arith, halves_length found, long) in (
        rw same (given_part found s a b (omega (arith, long, e)) h (ap (part s a) long)),
        many,
        λ i l.
            let inside : 2 * i + 1 < length found = omega (arith, l, many, long) in
            let fb = bytes_part s a (2 * count) bytes in
            omega (arith, halves_at found i inside, half_at found (2 * i), fb (2 * i), fb (2 * i + 1)),
      )

pub units_there : (units s : List ℕ) (a b : ℕ) → Units units → Stands (map Some (unit_bytes units)) s a b → halves (part s a (2 * length units)) ≡ units
units_there units s a b u w =
    let long : 2 * length units ≡ length (unit_bytes units) = omega (arith, units_long units, length-map {B = Option ℕ} (unit_bytes units) Some) in
    ap (λ (n : ℕ). halves (part s a n)) long ∙ ap halves (part_given (unit_bytes units) s a b w) ∙ halves_written units u
