-- A leaf that was read is as it is written, and fits. Assumes nothing.
use mathlib.Core.Path.{◌≡◌, refl}
use mathlib.Core.Bool.{true}
use mathlib.Core.List.{List}
use Prim.Native.Nat.{ℕ, ◌+◌, ◌*◌, ◌≤◌}
use native.Mathlib.Omega.{arith}
use borrow.Author.Tests.{leb-true, eqb-true}
use lib.Dec.{leb, eqb}
use lib.ListN.{length}
use Rattle.lists.specs.Below.{pick, both}
use Rattle.lists.specs.Parts.{part}
use Rattle.lists.proofs.Below.{by_test, both_left, both_right}
use Rattle.wire.specs.Word.{Bytes, number_at, halves}
use Rattle.wire.specs.Property.{is_number, is_text}
use Rattle.wire.specs.Padding.{padding, zero_at}
use Rattle.wire.specs.PropertySpec.{property_at}
use Rattle.wire.proofs.Words.{word_at}
use Rattle.tree.specs.Leaf.{Leaf, content, relation}
use Rattle.tree.specs.Limits.{phrase_most}
use Rattle.tree.specs.Parts.{node_kind, phrase_at, content_from, content_at, relation_at, leaf_at, leaf_of}
use Rattle.tree.specs.LeafPlaces.{count_at, units_end, locale_at}
use Rattle.tree.specs.declared.Relation.{Relation}
use Rattle.tree.specs.declared.Parts.{Parts}
use Rattle.tree.specs.declared.Parts.TheVariants.{OfRelation}
use Rattle.std.specs.Prelude.{None, Some}
use Rattle.lists.proofs.Options.{none≢some, pair_is, then_inv}
use Rattle.tree.specs.Writer.{leaf_form, LeafFits}
use Rattle.tree.proofs.LeafLaws.{pick_inv}
use Rattle.tree.proofs.LeafWords.{property_is, phrase_words, content_words}
use Rattle.tree.proofs.FormLaws.{Stands, any_stand, zeros_stand, number_stands, forms_join, forms_end, forms_started}
use Rattle.tree.proofs.FieldForms.{spec_stands, units_stand}

-- a leaf that was read is as it is written, and fits
abbrev pub LeafBack : List ℕ → ℕ → Leaf → ℕ → Type 0
LeafBack s place l used = Stands (leaf_form l place) s 0 used × LeafFits l

relation_stands : (s : List ℕ) (place : ℕ) → Bytes s → 44 ≤ length s → node_kind s ≡ 5 → is_number (property_at s 12) ≡ true
    → number_at 2 s 36 ≡ 0x0013 → number_at 2 s 38 ≡ 0 → Stands (leaf_form (relation (number_at 4 s 8) (property_at s 12) (number_at 4 s 40)) place) s 0 44
relation_stands s place bytes room kind number type zero =
    let known = leb-true 2 (property_at s 12) (both_left (leb 2 (property_at s 12)) _ number) in
    forms_started (leaf_form (relation (number_at 4 s 8) (property_at s 12) (number_at 4 s 40))) place s 44
    (forms_join _ _ place s 0 4 44 (rw kind at (number_stands 4 s 0 4 bytes refl (omega (arith, room))))
    (forms_join _ _ place s 4 8 44 (any_stand 4 s 4 8 refl (omega (arith, room)))
    (forms_join _ _ place s 8 12 44 (number_stands 4 s 8 12 bytes refl (omega (arith, room)))
    (forms_join _ _ place s 12 36 44 (spec_stands s 12 36 bytes refl (omega (arith, room)) (omega (arith, known)))
    (forms_join _ _ place s 36 38 44 (rw type at (number_stands 2 s 36 38 bytes refl (omega (arith, room))))
    (forms_join _ _ place s 38 40 44 (rw zero at (number_stands 2 s 38 40 bytes refl (omega (arith, room))))
    (forms_join _ _ place s 40 44 44 (number_stands 4 s 40 44 bytes refl room) (forms_end _ s 44 room))))))))

relation_back : (s : List ℕ) (place : ℕ) (p : Parts) (used : ℕ) → Bytes s → node_kind s ≡ 5 → relation_at s ≡ Some (p, used) → LeafBack s place (leaf_of s p) used
unfolding relation_at
relation_back s place p used bytes k e =
    let x : Relation = record { relop = number_at 4 s 8; property = property_at s 12; value = number_at 4 s 40 } in
    let how = leb (number_at 4 s 8) 5 in
    let served = both how (is_number (property_at s 12)) in
    let type = eqb (number_at 2 s 36) 0x0013 in
    let zero = eqb (number_at 2 s 38) 0 in
    let i = pick_inv (both (leb 44 (length s)) (both served (both type zero))) (Some (OfRelation x, 44)) None (Some (p, used)) none≢some e in
    let a : OfRelation x ≡ p = (pair_is i.1).0 in
    let b : 44 ≡ used = (pair_is i.1).1 in
    let room = leb-true 44 (length s) (both_left _ (both served (both type zero)) i.0) in
    let tests = both_right (leb 44 (length s)) (both served (both type zero)) i.0 in
    let number = both_right how (is_number (property_at s 12)) (both_left served (both type zero) tests) in
    let typed = both_right served (both type zero) tests in
    rw (← a, ← b) (
      relation_stands s place bytes room k number (eqb-true (number_at 2 s 36) 0x0013 (both_left type zero typed)) (eqb-true (number_at 2 s 38) 0 (both_right type zero typed)),
      record {
        served = leb-true (number_at 4 s 8) 5 (both_left how (is_number (property_at s 12)) (both_left served (both type zero) tests));
        number = number;
        held = omega (arith, word_at s 40, bytes 40, bytes 41, bytes 42, bytes 43);
      },
    )

-- the tests that a content leaf passed
record PhraseTests (s : List ℕ) (place : ℕ) : Type 0 where
  least : 1 ≤ number_at 4 s (count_at place)
  most : number_at 4 s (count_at place) ≤ phrase_most
  first : zero_at s 32 (padding 4 (place + 32)) ≡ true
  second : zero_at s (units_end s place) (padding 4 (place + units_end s place)) ≡ true

phrase_tests : (s : List ℕ) (place start count next : ℕ) → phrase_at s place 32 ≡ Some (record { start = start; count = count; next = next }) → PhraseTests s place
unfolding phrase_at
phrase_tests s place start count next e =
    let n = number_at 4 s (count_at place) in
    let end = units_end s place in
    let after = padding 4 (place + end) in
    let sized = both (leb 1 n) (leb n phrase_most) in
    let clear = both (zero_at s 32 (padding 4 (place + 32))) (zero_at s end after) in
    let i = pick_inv (both (leb (end + after) (length s)) (both sized clear)) (Some (record { start = count_at place + 4; count = n; next = end + after })) None (Some (record { start = start; count = count; next = next })) none≢some e in
    let tests = both_right (leb (end + after) (length s)) (both sized clear) i.0 in
    let size = both_left sized clear tests in
    let zero = both_right sized clear tests in
    record {
      least = leb-true 1 n (both_left (leb 1 n) (leb n phrase_most) size);
      most = leb-true n phrase_most (both_right (leb 1 n) (leb n phrase_most) size);
      first = both_left (zero_at s 32 (padding 4 (place + 32))) (zero_at s end after) zero;
      second = both_right (zero_at s 32 (padding 4 (place + 32))) (zero_at s end after) zero;
    }

content_tests : (s : List ℕ) (place : ℕ) (p : Parts) (used : ℕ) → content_at s place ≡ Some (p, used)
    → PhraseTests s place × (is_text (property_at s 8) ≡ true) × (number_at 4 s (locale_at s place + 4) ≤ 1)
unfolding content_at
content_tests s place p used e =
    let j = then_inv (phrase_at s place 32) (content_from s) (p, used) e in
    let r = j.0 in
    let text = is_text (property_at s 8) in
    let method = leb (number_at 4 s (r.next + 4)) 1 in
    let i = pick_inv (both (leb (r.next + 8) (length s)) (both text method)) _ None (Some (p, used)) none≢some j.2 in
    let tests = both_right (leb (r.next + 8) (length s)) (both text method) i.0 in (
      phrase_tests s place r.start r.count r.next j.1,
      both_left text method tests,
      rw (← (phrase_words s place r.start r.count r.next j.1).2) (leb-true (number_at 4 s (r.next + 4)) 1 (both_right text method tests)),
    )

-- the leaf that is read there
abbrev content_there : List ℕ → ℕ → Leaf
content_there s place =
    content (property_at s 8) (halves (part s (count_at place + 4) (2 * number_at 4 s (count_at place)))) (number_at 4 s (locale_at s place + 4))

content_stands : (s : List ℕ) (place : ℕ) → Bytes s → locale_at s place + 8 ≤ length s → node_kind s ≡ 4 → PhraseTests s place
    → is_text (property_at s 8) ≡ true → Stands (leaf_form (content_there s place) place) s 0 (locale_at s place + 8)
content_stands s place bytes room kind tests text =
    let size = count_at place in
    let count = number_at 4 s size in
    let end = units_end s place in
    let next = locale_at s place in
    let last = next + 8 in
    let known = leb-true 5 (property_at s 8) (both_left (leb 5 (property_at s 8)) _ text) in
    let units = units_stand s (size + 4) end count bytes refl (omega (arith, room)) in
    forms_started (leaf_form (content_there s place)) place s last
    (forms_join _ _ place s 0 4 last (rw kind at (number_stands 4 s 0 4 bytes refl (omega (arith, room))))
    (forms_join _ _ place s 4 8 last (any_stand 4 s 4 8 refl (omega (arith, room)))
    (forms_join _ _ place s 8 32 last (spec_stands s 8 32 bytes refl (omega (arith, room)) (omega (arith, known)))
    (forms_join _ _ place s 32 size last (zeros_stand (padding 4 (place + 32)) s 32 size refl (omega (arith, room)) tests.first)
    (forms_join _ _ place s size (size + 4) last (rw units.1 (number_stands 4 s size (size + 4) bytes refl (omega (arith, room))))
    (forms_join _ _ place s (size + 4) end last units.0
    (forms_join _ _ place s end next last (zeros_stand (padding 4 (place + end)) s end next refl (omega (arith, room)) tests.second)
    (forms_join _ _ place s next (next + 4) last (any_stand 4 s next (next + 4) refl (omega (arith, room)))
    (forms_join _ _ place s (next + 4) last last (number_stands 4 s (next + 4) last bytes (omega arith) room) (forms_end _ s last room))))))))))

content_back : (s : List ℕ) (place : ℕ) (p : Parts) (used : ℕ) → Bytes s → node_kind s ≡ 4 → content_at s place ≡ Some (p, used) → LeafBack s place (leaf_of s p) used
content_back s place p used bytes kind e =
    let w = content_words s place p used e in
    let t = content_tests s place p used e in
    let known = leb-true 5 (property_at s 8) (both_left (leb 5 (property_at s 8)) _ t.1) in
    let units = units_stand s (count_at place + 4) (units_end s place) (number_at 4 s (count_at place)) bytes refl (omega (arith, w.0)) in
    let same : leaf_of s p ≡ content_there s place = rw (w.1, property_is s 8 (omega (arith, known))) in
    rw (same, w.2) (
      content_stands s place bytes w.0 kind t.0 t.1,
      record {
        text = t.1;
        least = omega (arith, units.1, t.0.least);
        most = omega (arith, units.1, t.0.most);
        units = units.2;
        served = t.2;
      },
    )

-- a leaf of either kind
pub leaf_back : (s : List ℕ) (place : ℕ) (p : Parts) (used : ℕ) → Bytes s → leaf_at (node_kind s) s place ≡ Some (p, used) → LeafBack s place (leaf_of s p) used
leaf_back s place p used bytes e =
    by_test (eqb (node_kind s) 4)
    (λ q. content_back s place p used bytes (eqb-true (node_kind s) 4 q) (rw q at e))
    (λ q.
    let f : pick (eqb (node_kind s) 5) (relation_at s) None ≡ Some (p, used) = rw q at e in
    let i = pick_inv (eqb (node_kind s) 5) (relation_at s) None (Some (p, used)) none≢some f in
    relation_back s place p used bytes (eqb-true (node_kind s) 5 i.0) i.1)
