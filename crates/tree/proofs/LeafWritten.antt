-- A leaf that is written is read. Assumes nothing.
use mathlib.Core.Path.{◌≡◌, refl, sym, ap}
use mathlib.Core.Bool.{true}
use mathlib.Core.List.{List}
use Prim.Native.Nat.{ℕ, ◌+◌, ◌*◌, ◌≤◌}
use native.Mathlib.Omega.{arith}
use borrow.Author.Tests.{le-leb, leb-true, eq-eqb}
use lib.Dec.{leb, eqb}
use lib.ListN.{length}
use Rattle.lists.specs.Below.{both}
use Rattle.lists.proofs.Below.{both_right}
use Rattle.wire.specs.Word.{number_at, le}
use Rattle.wire.specs.Property.{is_number, is_text}
use Rattle.wire.specs.Padding.{padding, zero_at}
use Rattle.wire.specs.PropertySpec.{property_at}
use Rattle.tree.specs.Leaf.{Leaf, content, relation}
use Rattle.tree.specs.Limits.{phrase_most}
use Rattle.tree.specs.Parts.{node_kind, phrase_at, leaf_at, leaf_of}
use Rattle.tree.specs.declared.Parts.{Parts}
use Rattle.std.specs.Prelude.{Some}
use Rattle.tree.specs.declared.Parts.TheVariants.{OfContent, OfRelation}
use Rattle.tree.specs.Writer.{leaf_form, ContentFits, RelationFits, LeafFits}
use Rattle.tree.proofs.LeafLaws.{phrase_by, content_by, relation_by}
use Rattle.tree.proofs.FormLaws.{Stands, zeros_long, zeros_there, number_there, forms_apart, forms_ended, forms_start}
use Rattle.tree.proofs.FieldForms.{spec_there, units_long, units_there}

-- a leaf that is written is read
pub record LeafThere (l : Leaf) (s : List ℕ) (place used : ℕ) : Type 0 where
  pub parts : Parts
  pub same : leaf_of s parts ≡ l
  pub read : leaf_at (node_kind s) s place ≡ Some (parts, used)
  pub past : 8 ≤ length s
  pub low : 4 ≤ node_kind s

relation_there : (relop property value place used : ℕ) (s : List ℕ) → RelationFits relop property value
    → Stands (leaf_form (relation relop property value) place) s 0 used → LeafThere (relation relop property value) s place used
unfolding le
relation_there relop property value place used s fits w =
    let kind = forms_apart _ _ place s 0 4 used refl (forms_start (leaf_form (relation relop property value)) place s used w) in
    let weight = forms_apart _ _ place s 4 8 used refl kind.1 in
    let how = forms_apart _ _ place s 8 12 used refl weight.1 in
    let named = forms_apart _ _ place s 12 36 used refl how.1 in
    let type = forms_apart _ _ place s 36 38 used refl named.1 in
    let zero = forms_apart _ _ place s 38 40 used refl type.1 in
    let last = forms_apart _ _ place s 40 44 used refl zero.1 in
    let full : used ≡ 44 = forms_ended _ s 44 used last.1 in
    let room : 44 ≤ length s = last.0.room in
    let known : property ≤ 4 = leb-true property 4 (both_right (leb 2 property) _ fits.number) in
    let is_kind : node_kind s ≡ 5 = number_there 4 s 0 4 5 (omega arith) kind.0 in
    let is_how : number_at 4 s 8 ≡ relop = number_there 4 s 8 12 relop (omega (arith, fits.served)) how.0 in
    let is_named : property_at s 12 ≡ property = spec_there s 12 36 property (omega (arith, known)) named.0 in
    let is_type : number_at 2 s 36 ≡ 0x0013 = number_there 2 s 36 38 0x0013 (omega arith) type.0 in
    let is_zero : number_at 2 s 38 ≡ 0 = number_there 2 s 38 40 0 (omega arith) zero.0 in
    let is_value : number_at 4 s 40 ≡ value = number_there 4 s 40 44 value fits.held last.0 in
    let passes : true ≡ both (both (both (leb relop 5) (is_number property)) (eqb (number_at 2 s 36) 0x0013)) (eqb (number_at 2 s 38) 0) =
    rw (le-leb relop 5 fits.served, fits.number, eq-eqb (number_at 2 s 36) 0x0013 is_type, eq-eqb (number_at 2 s 38) 0 is_zero) in
    record {
      parts = OfRelation (record { relop = relop; property = property; value = value });
      same = refl;
      read = rw (is_kind, full) (sym (relation_by s room relop property value true (sym is_how) (sym is_named) (sym is_value) passes));
      past = omega (arith, room);
      low = omega (arith, is_kind);
    }

content_there_lem : (property : ℕ) (phrase : List ℕ) (method place used : ℕ) (s : List ℕ) → ContentFits property phrase method
    → Stands (leaf_form (content property phrase method) place) s 0 used → LeafThere (content property phrase method) s place used
unfolding le
content_there_lem property phrase method place used s fits w =
    let before = padding 4 (place + 32) in
    let count = length phrase in
    let start = 32 + before + 4 in
    let end = start + 2 * count in
    let after = padding 4 (place + end) in
    let next = end + after in
    let kind = forms_apart _ _ place s 0 4 used refl (forms_start (leaf_form (content property phrase method)) place s used w) in
    let weight = forms_apart _ _ place s 4 8 used refl kind.1 in
    let named = forms_apart _ _ place s 8 32 used refl weight.1 in
    let first = forms_apart _ _ place s 32 (32 + before) used (ap (λ (n : ℕ). 32 + n) (zeros_long before)) named.1 in
    let size = forms_apart _ _ place s (32 + before) start used refl first.1 in
    let units = forms_apart _ _ place s start end used (ap (λ (n : ℕ). start + n) (units_long phrase)) size.1 in
    let second = forms_apart _ _ place s end next used (ap (λ (n : ℕ). end + n) (zeros_long after)) units.1 in
    let locale = forms_apart _ _ place s next (next + 4) used refl second.1 in
    let last = forms_apart _ _ place s (next + 4) (next + 8) used (omega arith) locale.1 in
    let full : used ≡ next + 8 = forms_ended _ s (next + 8) used last.1 in
    let room : next + 8 ≤ length s = last.0.room in
    let known : property ≤ 6 = leb-true property 6 (both_right (leb 5 property) _ fits.text) in
    let is_kind : node_kind s ≡ 4 = number_there 4 s 0 4 4 (omega arith) kind.0 in
    let is_named : property_at s 8 ≡ property = spec_there s 8 32 property (omega (arith, known)) named.0 in
    let is_size : number_at 4 s (32 + before) ≡ count = number_there 4 s (32 + before) start count (omega (arith, fits.most)) size.0 in
    let is_method : number_at 4 s (next + 4) ≡ method = number_there 4 s (next + 4) (next + 8) method (omega (arith, fits.served)) last.0 in
    let clear : true ≡ both (both (both (leb 1 count) (leb count phrase_most)) (zero_at s 32 before)) (zero_at s end after) =
    rw (
      le-leb 1 count fits.least,
      le-leb count phrase_most fits.most,
      zeros_there before s 32 (32 + before) first.0,
      zeros_there after s end next second.0,
    ) in
    let phrase_read : phrase_at s place 32 ≡ Some (record { start = start; count = count; next = next }) =
    sym (phrase_by s place 32 before refl count after (sym is_size) refl second.0.room true clear) in
    let passes : true ≡ both (is_text property) (leb method 1) = rw (fits.text, le-leb method 1 fits.served) in
    record {
      parts = OfContent (record { property = property; start = start; count = count; method = method });
      same = ap (λ (u : List ℕ). content property u method) (units_there phrase s start end fits.units units.0);
      read = rw (is_kind, full) (sym (content_by s place start count next phrase_read room property method true (sym is_named) (sym is_method) passes));
      past = weight.0.room;
      low = omega (arith, is_kind);
    }

-- a leaf of either kind
pub leaf_there : (l : Leaf) (place used : ℕ) (s : List ℕ) → LeafFits l → Stands (leaf_form l place) s 0 used → LeafThere l s place used
leaf_there (content property phrase method) place used s fits w = content_there_lem property phrase method place used s fits w
leaf_there (relation relop property value) place used s fits w = relation_there relop property value place used s fits w
