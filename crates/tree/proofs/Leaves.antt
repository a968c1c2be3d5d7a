-- A leaf that is read has its words at fixed distances from its first byte: no other byte decides what it says. Assumes nothing.
use mathlib.Core.Path.{◌≡◌}
use mathlib.Core.Bool.{Bool}
use mathlib.Core.List.{List}
use Prim.Native.Nat.{ℕ, ◌+◌, ◌-◌, ◌*◌, ◌%◌, ◌≤◌}
use native.Mathlib.Nat.{zero-add}
use native.Mathlib.Omega.{arith}
use borrow.Author.Tests.{eq-eqb, ne_eqb, eqb-true, eqb-false}
use lib.Dec.{eqb}
use lib.ListN.{length, take, drop}
use Rattle.wire.specs.Word.{number_at, halves}
use Rattle.lists.proofs.Below.{by_test}
use Rattle.catalogue.specs.CataloguePlaces.{text_of, row_of}
use Rattle.catalogue.specs.declared.Text.{Text}
use Rattle.catalogue.specs.declared.Fields.{Fields}
use Rattle.wire.specs.Padding.{padding}
use Rattle.wire.specs.Property.{of_texts}
use Rattle.tree.specs.LeafHolds.{phrase_holds}
use Rattle.tree.specs.Parts.{phrase_at, content_at, relation_at, leaf_at}
use Rattle.std.specs.Prelude.{None, Some}
use Rattle.lists.proofs.Options.{none≢some}
use Rattle.tree.proofs.LeafLaws.{pick_inv}
use Rattle.tree.proofs.LeafWords.{relation_words, content_words}
use Rattle.tree.specs.VerdictTold.{told}
use Rattle.tree.specs.LeafPlaces.{locale_at}
use Rattle.tree.specs.HoldTold.{relation_told, content_told, leaf_told}
use Rattle.tree.specs.SizeTold.{leaf_size}
use Rattle.tree.specs.HoldReady.{LeafReady}

-- nodes begin at multiples of 4: padding after such a place is that after the first byte, and so is a leaf
padding_anywhere : (place n : ℕ) → place % 4 ≡ 0 → padding 4 (place + n) ≡ padding 4 n
padding_anywhere place n a = omega (arith, a)

content_anywhere : (s : List ℕ) (place : ℕ) → place % 4 ≡ 0 → content_at s place ≡ content_at s 0
unfolding content_at phrase_at
content_anywhere s place a =
    let end = 36 + 2 * number_at 4 s 32 in
    rw (padding_anywhere place 32 a, padding_anywhere place end a, zero-add end)

pub leaf_anywhere : (kind : ℕ) (s : List ℕ) (place : ℕ) → place % 4 ≡ 0 → leaf_at kind s place ≡ leaf_at kind s 0
leaf_anywhere kind s place a = rw (content_anywhere s place a)

-- the row's text that a property names is that of the row as data
text_named : (held : List ℕ) (property : ℕ) (label note : Text)
    → text_of held (of_texts property label note) ≡ of_texts property (text_of held label) (text_of held note)
text_named held property label note = by_test (eqb property 5) (λ q. rw q) (λ q. rw q)

-- the places that the code counts, and what it finds there
module _ (s : List ℕ) (count after : ℕ) (n : count ≡ number_at 4 s 32) (a : after ≡ padding 4 (36 + 2 * count)) where
  pub locale_counted : 36 + 2 * count + after ≡ locale_at s 0
  locale_counted = rw (a, n, zero-add (36 + 2 * number_at 4 s 32))

  pub content_counted : (held : List ℕ) (f : Fields) (property method : ℕ) (text : Text) (h : Bool) → property ≡ number_at 4 s 28
      → method ≡ number_at 4 s (36 + 2 * count + after + 4) → text ≡ of_texts property f.label f.note
      → h ≡ phrase_holds method (halves (take (36 + 2 * count - 36) (drop 36 s))) (text_of held text)
      → told h (36 + 2 * count + after + 8) ≡ content_told s held f
  content_counted held f property method text h p m t e =
      let size : 36 + 2 * count - 36 ≡ 2 * number_at 4 s 32 = omega (arith, n) in
      rw (e, m, t, p, size, locale_counted)

module _ (kind : ℕ) (s : List ℕ) (w : LeafReady kind s) where
  module _ (k : (kind ≡ 4 → ⊥)) where
    relation_read : relation_at s ≡ Some (w.parts, w.used)
    relation_read = (pick_inv (eqb kind 5) (relation_at s) None (Some (w.parts, w.used)) none≢some (rw (ne_eqb kind 4 k) at w.read)).1

    pub relation_inside : 44 ≤ length s
    relation_inside = (relation_words s w.parts w.used relation_read).0

    pub relation_is : (held : List ℕ) (f : Fields) → relation_told s f ≡ leaf_told kind s (row_of held f)
    relation_is held f = let r = relation_words s w.parts w.used relation_read in rw (w.read, r.1, r.2)

    pub relation_size_lem : 44 ≡ leaf_size kind s
    relation_size_lem = let r = relation_words s w.parts w.used relation_read in rw (w.read, r.2)

  module _ (k : kind ≡ 4) where
    content_read : content_at s 0 ≡ Some (w.parts, w.used)
    content_read = rw (eq-eqb kind 4 k) at w.read

    pub content_inside : locale_at s 0 + 8 ≤ length s
    content_inside = (content_words s 0 w.parts w.used content_read).0

    pub content_is : (held : List ℕ) (f : Fields) → content_told s held f ≡ leaf_told kind s (row_of held f)
    content_is held f =
        let r = content_words s 0 w.parts w.used content_read in
        rw (text_named held (number_at 4 s 28) f.label f.note, w.read, r.1, r.2)

    pub content_size : locale_at s 0 + 8 ≡ leaf_size kind s
    content_size = let r = content_words s 0 w.parts w.used content_read in rw (w.read, r.2)

-- a leaf takes a multiple of 4
pub leaf_fours : (kind : ℕ) (s : List ℕ) (w : LeafReady kind s) → w.used % 4 ≡ 0
leaf_fours kind s w =
    by_test (eqb kind 4)
    (λ q. omega (arith, (content_words s 0 w.parts w.used (content_read kind s w (eqb-true kind 4 q))).2))
    (λ q. omega (arith, (relation_words s w.parts w.used (relation_read kind s w (eqb-false kind 4 q))).2))
