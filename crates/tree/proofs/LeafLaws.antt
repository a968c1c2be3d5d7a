-- Laws of leaves: what a phrase that was read says of the bytes, and the ways that the reading of each kind can go. Assumes nothing.
use mathlib.Core.Path.{◌≡◌, refl, ap, ◌∙◌}
use mathlib.Core.Bool.{Bool, true, false}
use mathlib.Core.List.{List}
use Prim.Native.Nat.{ℕ, ◌+◌, ◌*◌, ◌≤◌, ◌<◌}
use native.Mathlib.Omega.{arith}
use borrow.Author.Tests.{leb-true, le-leb, lt-leb}
use lib.Dec.{leb, eqb}
use lib.ListN.{length}
use Rattle.std.specs.Bool.{then_some}
use Rattle.lists.specs.Below.{pick, both, within}
use Rattle.wire.specs.Word.{number_at}
use Rattle.lists.proofs.Below.{both_left, both_assoc}
use Rattle.wire.specs.Property.{is_number, is_text}
use Rattle.tree.specs.Limits.{phrase_most}
use Rattle.wire.specs.Padding.{padding, zero_at}
use Rattle.wire.specs.PropertySpec.{property_at}
use Rattle.tree.specs.Parts.{phrase_sized, phrase_at, content_at, relation_at}
use Rattle.std.specs.Prelude.{None, Some}
use Rattle.tree.specs.declared.PhraseAt.{PhraseAt}
use Rattle.lists.proofs.Options.{none≢some, some_is}
use Rattle.tree.specs.declared.Parts.TheVariants.{OfContent, OfRelation}

-- an answer that is not the bad one came by a test that held
pub pick_inv : {A : Type 0} (b : Bool) (x bad y : A) → (bad ≡ y → ⊥) → pick b x bad ≡ y → (b ≡ true) × (x ≡ y)
pick_inv true x bad y n e = (refl, e)
pick_inv false x bad y n e = absurd (n e)

-- a value where a test holds; tests that hold one after the other
some_if : {A : Type 0} (b : Bool) (x : A) → then_some b x ≡ pick b (Some x) None
some_if true x = refl
some_if false x = refl

pub holds_then : {a b p q v : Bool} → a ≡ true → a ≡ p → v ≡ b → b ≡ q → v ≡ both p q
holds_then t e f g = rw (← e, t) (f ∙ g)

pub holds_not : {a p v : Bool} (q : Bool) → a ≡ false → a ≡ p → v ≡ a → v ≡ both p q
holds_not q t e f = rw (← e, t) (f ∙ t)

-- phrases that are one have the same parts
pub phrase_is : {p q : PhraseAt} → Some p ≡ Some q → (p.start ≡ q.start) × (p.count ≡ q.count) × (p.next ≡ q.next)
phrase_is e =
    let f = some_is e in (ap (λ (r : PhraseAt). r.start) f, ap (λ (r : PhraseAt). r.count) f, ap (λ (r : PhraseAt). r.next) f)

-- what a phrase that was read says of the bytes
pub record PhraseRead (s : List ℕ) (at start count next : ℕ) : Type 0 where
  pub after : at + 4 ≤ start
  pub ends : start + 2 * count ≤ next
  pub inside : next ≤ length s

phrase_sized_lem : (s : List ℕ) (place at before n start count next : ℕ) → phrase_sized s place at before n ≡ Some (record { start = start; count = count; next = next }) → PhraseRead s at start count next
phrase_sized_lem s place at before n start count next e =
    let end = at + before + 4 + 2 * n in
    let pad = padding 4 (place + end) in
    let rest = both (both (leb 1 n) (leb n phrase_most)) (both (zero_at s at before) (zero_at s end pad)) in
    let i = pick_inv (both (leb (end + pad) (length s)) rest) (Some (record { start = at + before + 4; count = n; next = end + pad })) None (Some (record { start = start; count = count; next = next })) none≢some e in
    let e = phrase_is i.1 in
    let l = leb-true (end + pad) (length s) (both_left _ rest i.0) in
    record { after = omega arith; ends = omega arith; inside = omega arith }

pub phrase_read : (s : List ℕ) (place at start count next : ℕ) → phrase_at s place at ≡ Some (record { start = start; count = count; next = next }) → PhraseRead s at start count next
unfolding phrase_at
phrase_read s place at start count next e = phrase_sized_lem s place at (padding 4 (place + at)) _ start count next e

-- the ways that the reading of a phrase can go: the bytes end before its units or after them, or the answer is by the count and the padding
module _ (s : List ℕ) (place at before : ℕ) (b : before ≡ padding 4 (place + at)) where
  pub phrase_short : length s < at + before + 4 → None ≡ phrase_at s place at
  unfolding phrase_at
  phrase_short h = rw (← b, lt-leb (at + before + 4 + 2 * number_at 4 s (at + before) + padding 4 (place + (at + before + 4 + 2 * number_at 4 s (at + before)))) (length s) (omega arith))

  module _ (count after : ℕ) (n : count ≡ number_at 4 s (at + before)) (p : after ≡ padding 4 (place + (at + before + 4 + 2 * count))) where
    pub phrase_cut : length s < at + before + 4 + 2 * count + after → None ≡ phrase_at s place at
    unfolding phrase_at
    phrase_cut h = rw (← b, ← n, ← p, lt-leb _ _ h)

    pub phrase_by : at + before + 4 + 2 * count + after ≤ length s → (fits : Bool)
        → fits ≡ both (both (within 1 phrase_most count) (zero_at s at before)) (zero_at s (at + before + 4 + 2 * count) after)
        → then_some fits (record { start = at + before + 4; count = count; next = at + before + 4 + 2 * count + after }) ≡ phrase_at s place at
    unfolding phrase_at
    phrase_by h fits e =
        rw (← b, ← n, ← p, le-leb _ _ h, e, both_assoc (within 1 phrase_most count) (zero_at s at before) (zero_at s (at + before + 4 + 2 * count) after))
        (some_if _ _)

-- the ways that the reading of a content leaf can go, once its phrase was read
module _ (s : List ℕ) (place start count next : ℕ) (p : phrase_at s place 32 ≡ Some (record { start = start; count = count; next = next })) where
  pub content_short : length s < next + 8 → None ≡ content_at s place
  unfolding content_at
  content_short h = rw (p, lt-leb (next + 8) (length s) h)

  pub content_by : next + 8 ≤ length s → (property method : ℕ) (fits : Bool) → property ≡ property_at s 8 → method ≡ number_at 4 s (next + 4)
      → fits ≡ both (is_text property) (leb method 1)
      → then_some fits (OfContent (record { property = property; start = start; count = count; method = method }), next + 8) ≡ content_at s place
  unfolding content_at
  content_by h property method fits a b e = rw (p, le-leb (next + 8) (length s) h, ← a, ← b, e) (some_if _ _)

-- and that of a property leaf
pub relation_short : (s : List ℕ) → length s < 44 → None ≡ relation_at s
unfolding relation_at
relation_short s h = rw (lt-leb 44 (length s) h)

pub relation_by : (s : List ℕ) → 44 ≤ length s → (relop property value : ℕ) (fits : Bool)
    → relop ≡ number_at 4 s 8 → property ≡ property_at s 12 → value ≡ number_at 4 s 40
    → fits ≡ both (both (both (leb relop 5) (is_number property)) (eqb (number_at 2 s 36) 0x0013)) (eqb (number_at 2 s 38) 0)
    → then_some fits (OfRelation (record { relop = relop; property = property; value = value }), 44) ≡ relation_at s
unfolding relation_at
relation_by s h relop property value fits a b d e =
    rw (le-leb 44 (length s) h, ← a, ← b, ← d, e, both_assoc (both (leb relop 5) (is_number property)) (eqb (number_at 2 s 36) 0x0013) (eqb (number_at 2 s 38) 0))
    (some_if _ _)
