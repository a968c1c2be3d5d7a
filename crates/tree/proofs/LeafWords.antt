-- What a leaf that was read has in words: they stand at fixed distances from its first byte, and no other byte decides what it says.
-- Assumes nothing.
use mathlib.Core.Path.{◌≡◌, refl, sym, ◌∙◌}
use mathlib.Core.Bool.{Bool, true, false}
use mathlib.Core.List.{List}
use Prim.Native.Nat.{ℕ, ◌+◌, ◌≤◌, ◌<◌}
use native.Mathlib.Omega.{arith}
use borrow.Author.Tests.{leb-true}
use lib.Dec.{leb, eqb}
use lib.ListN.{length}
use Rattle.lists.specs.Below.{pick, both}
use Rattle.wire.specs.Word.{number_at}
use Rattle.lists.proofs.Below.{by_test, both_left, both_right}
use Rattle.wire.specs.Property.{is_number, is_text}
use Rattle.tree.specs.Limits.{phrase_most}
use Rattle.wire.specs.Padding.{padding, zero_at}
use Rattle.wire.specs.PropertySpec.{set_ours, is_numbered, property_at}
use Rattle.tree.specs.Parts.{phrase_at, content_from, content_at, relation_at, leaf_at}
use Rattle.tree.specs.declared.Relation.{Relation}
use Rattle.tree.specs.declared.Parts.{Parts}
use Rattle.tree.specs.declared.Parts.TheVariants.{OfContent, OfRelation}
use Rattle.std.specs.Prelude.{None, Some}
use Rattle.lists.proofs.Options.{none≢some, pair_is, then_inv}
use Rattle.tree.proofs.LeafLaws.{pick_inv, phrase_is}
use Rattle.tree.specs.LeafPlaces.{relation_in, count_at, units_end, locale_at, content_in}

-- a property that is served is the number that stands there
pick_is : (b : Bool) (n : ℕ) → 0 < pick b n 0 → pick b n 0 ≡ n
pick_is true n h = refl
pick_is false n h = absurd (omega (arith, h))

pub property_is : (s : List ℕ) (at : ℕ) → 0 < property_at s at → property_at s at ≡ number_at 4 s (at + 20)
unfolding property_at
property_is s at h =
    let inner = pick (set_ours s at) (number_at 4 s (at + 20)) 0 in
    let outer : property_at s at ≡ inner = pick_is (is_numbered s at) inner h in
    outer ∙ pick_is (set_ours s at) (number_at 4 s (at + 20)) (rw outer at h)

-- a property leaf in words
pub relation_words : (s : List ℕ) (p : Parts) (used : ℕ) → relation_at s ≡ Some (p, used) → (44 ≤ length s) × (p ≡ OfRelation (relation_in s)) × (used ≡ 44)
unfolding relation_at
relation_words s p used e =
    let x : Relation = record { relop = number_at 4 s 8; property = property_at s 12; value = number_at 4 s 40 } in
    let served = both (leb (number_at 4 s 8) 5) (is_number (property_at s 12)) in
    let typed = both (eqb (number_at 2 s 36) 0x0013) (eqb (number_at 2 s 38) 0) in
    let i = pick_inv (both (leb 44 (length s)) (both served typed)) (Some (OfRelation x, 44)) None (Some (p, used)) none≢some e in
    let a : OfRelation x ≡ p = (pair_is i.1).0 in
    let b : 44 ≡ used = (pair_is i.1).1 in
    let n : is_number (property_at s 12) ≡ true = both_right (leb (number_at 4 s 8) 5) _ (both_left served typed (both_right (leb 44 (length s)) _ i.0)) in
    let l = leb-true 2 (property_at s 12) (both_left (leb 2 (property_at s 12)) _ n) in
    (leb-true 44 (length s) (both_left _ (both served typed) i.0), rw (← a, property_is s 12 (omega (arith, l))), sym b)

-- a content leaf in words: where its count stands, its units end, and its locale stands
pub phrase_words : (s : List ℕ) (place start count next : ℕ) → phrase_at s place 32 ≡ Some (record { start = start; count = count; next = next })
    → (start ≡ count_at place + 4) × (count ≡ number_at 4 s (count_at place)) × (next ≡ locale_at s place)
unfolding phrase_at
phrase_words s place start count next e =
    let n = number_at 4 s (count_at place) in
    let end = units_end s place in
    let pad = padding 4 (place + end) in
    let rest = both (both (leb 1 n) (leb n phrase_most)) (both (zero_at s 32 (padding 4 (place + 32))) (zero_at s end pad)) in
    let i = pick_inv (both (leb (end + pad) (length s)) rest) (Some (record { start = count_at place + 4; count = n; next = end + pad })) None (Some (record { start = start; count = count; next = next })) none≢some e in
    let e = phrase_is i.1 in
    (sym e.0, sym e.1, sym e.2)

pub content_words : (s : List ℕ) (place : ℕ) (p : Parts) (used : ℕ) → content_at s place ≡ Some (p, used)
    → (locale_at s place + 8 ≤ length s) × (p ≡ OfContent (content_in s place)) × (used ≡ locale_at s place + 8)
unfolding content_at
content_words s place p used e =
    let j = then_inv (phrase_at s place 32) (content_from s) (p, used) e in
    let r = j.0 in
    let w = phrase_words s place r.start r.count r.next j.1 in
    let fits = both (is_text (property_at s 8)) (leb (number_at 4 s (r.next + 4)) 1) in
    let i = pick_inv (both (leb (r.next + 8) (length s)) fits) _ None (Some (p, used)) none≢some j.2 in
    let a : OfContent (record { property = property_at s 8; start = r.start; count = r.count; method = number_at 4 s (r.next + 4) }) ≡ p = (pair_is i.1).0 in
    let b : r.next + 8 ≡ used = (pair_is i.1).1 in
    let t : is_text (property_at s 8) ≡ true = both_left _ _ (both_right (leb (r.next + 8) (length s)) fits i.0) in
    let l = leb-true 5 (property_at s 8) (both_left (leb 5 (property_at s 8)) _ t) in
    let inside = leb-true (r.next + 8) (length s) (both_left _ fits i.0) in
    (rw (← w.2) inside, rw (← a, property_is s 8 (omega (arith, l)), w.0, w.1, w.2), rw (← w.2) (sym b))

-- so a leaf takes bytes, and they lie inside
pub record LeafRead (s : List ℕ) (used : ℕ) : Type 0 where
  pub past : 0 < used
  pub inside : used ≤ length s

pub leaf_read_lem : (kind : ℕ) (s : List ℕ) (place : ℕ) (p : Parts) (used : ℕ) → leaf_at kind s place ≡ Some (p, used) → LeafRead s used
leaf_read_lem kind s place p used e =
    by_test (eqb kind 4)
    (λ q. let w = content_words s place p used (rw q at e) in record { past = omega (arith, w.2); inside = omega (arith, w.0, w.2) })
    (λ q. let f : pick (eqb kind 5) (relation_at s) None ≡ Some (p, used) = rw q at e in
    let w = relation_words s p used (pick_inv (eqb kind 5) (relation_at s) None (Some (p, used)) none≢some f).1 in
    record { past = omega (arith, w.2); inside = omega (arith, w.0, w.2) })
