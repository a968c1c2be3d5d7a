-- Laws of a row's fields: what a property names of a row, by its places and of the plain row, and the code's cell is the cell.
-- Assumes nothing.
use mathlib.Core.Path.{◌≡◌, refl, sym, ap, subst, ◌∙◌}
use mathlib.Core.Bool.{true, false}
use mathlib.Core.List.{List, [], ◌++◌, append_assoc}
use Prim.Native.Nat.{ℕ, ◌-◌, ◌*◌, ◌^◌, ◌≤◌, ◌<◌}
use native.Mathlib.Omega.{arith}
use borrow.Author.Tests.{eqb-true, eqb-false, leb-true, eq-eqb, ne_eqb}
use lib.Dec.{eqb, leb}
use lib.ListN.{replicate}
use Rattle.lists.specs.Below.{pick, both}
use Rattle.wire.specs.Word.{le, halves}
use Rattle.lists.proofs.Below.{by_test, true≢false, both_left, both_right}
use Rattle.catalogue.specs.Plain.{Row}
use Rattle.catalogue.specs.CataloguePlaces.{units_part, text_of, row_of}
use Rattle.catalogue.specs.declared.Text.{Text}
use Rattle.catalogue.specs.declared.Fields.{Fields}
use Rattle.wire.specs.Property.{is_number, of_numbers, of_texts, variant_type, variant_size, number_type, number_size, cell_size}
use Rattle.bindings.specs.Fit.{is_used}
use Rattle.bindings.specs.declared.Column.{Column}
use Rattle.wire.specs.Laid.{lay, lays, Laid}
use Rattle.page.specs.Field.{Field, number, text, absent, text_field, by_property, field_of}
use Rattle.page.specs.CellPlaces.{cell_bytes}
use Rattle.page.specs.Cell.{variant, variant_of, kind_of, content_of, cell_of, text_type, offset_width, laid_if, block_size}
use Rattle.page.specs.Reads.{Held}
use Rattle.page.specs.FieldReady.{SpansReady}
use Rattle.catalogue.specs.CatalogueReady.{FieldsReady, UnitsReady}
use Rattle.page.proofs.Little.{le_more}
use Rattle.page.proofs.Units.{units_double}

-- the same of each of five, so of the one that a property picks
by_property_lem : {A : Type 0} (P : A → Type 0) (property : ℕ) (k l d a n : A) → P k → P l → P d → P a → P n → P (by_property property k l d a n)
by_property_lem P property k l d a n pk pl pd pa pn =
    by_test (eqb property 2) (λ q. rw q pk) (λ q. rw q
    (by_test (eqb property 3) (λ r. rw r pl) (λ r. rw r
    (by_test (eqb property 4) (λ t. rw t pd) (λ t. rw t
    (by_test (eqb property 5) (λ u. rw u pa) (λ u. rw u pn)))))))

-- a property of numbers names one of the three
pub field_number : (property : ℕ) (r : Row) → is_number property ≡ true
    → field_of property r ≡ number (of_numbers property r.key r.language r.default)
field_number property r h =
    by_test (eqb property 2) (λ q. rw q) (λ q. rw q
    (by_test (eqb property 3) (λ u. rw u) (λ u. rw u
    (by_test (eqb property 4) (λ v. rw v) (λ v. absurd (none q u v))))))
  where
    none : eqb property 2 ≡ false → eqb property 3 ≡ false → eqb property 4 ≡ false → ⊥
    none q u v =
        omega (
          arith,
          eqb-false property 2 q,
          eqb-false property 3 u,
          eqb-false property 4 v,
          leb-true 2 property (both_left (leb 2 property) (leb property 4) h),
          leb-true property 4 (both_right (leb 2 property) (leb property 4) h),
        )

-- any other names one of the two texts
pub field_text : (s : List ℕ) (property : ℕ) (f : Fields) → is_number property ≡ false
    → field_of property (row_of s f) ≡ text_field (text_of s (of_texts property f.label f.note))
field_text s property f h =
    by_test (eqb property 2) (λ q. absurd (no 2 refl (eqb-true property 2 q))) (λ q. rw q
    (by_test (eqb property 3) (λ u. absurd (no 3 refl (eqb-true property 3 u))) (λ u. rw u
    (by_test (eqb property 4) (λ v. absurd (no 4 refl (eqb-true property 4 v))) (λ v. rw v
    (by_test (eqb property 5) (λ w. rw w) (λ w. rw w)))))))
  where
    no : (n : ℕ) → is_number n ≡ true → property ≡ n → ⊥
    no n k e = true≢false (sym k ∙ ap is_number (sym e) ∙ h)

pub text_stands : (s : List ℕ) (property : ℕ) (f : Fields) → FieldsReady s f → UnitsReady s (of_texts property f.label f.note)
text_stands s property f h = by_test (eqb property 5) (λ q. rw q h.label) (λ q. rw q h.note)

-- a text by the size that the catalogue has
pub text_absent : (s : List ℕ) (t : Text) → t.size ≡ 0 → text_field (text_of s t) ≡ absent
text_absent s t e = rw (eq-eqb t.size 0 e)

pub text_present : (s : List ℕ) (t : Text) → (t.size ≡ 0 → ⊥) → text_field (text_of s t) ≡ text (halves (units_part s t))
text_present s t n = rw (ne_eqb t.size 0 n)

pub text_size_lem : (s : List ℕ) (t : Text) → UnitsReady s t → block_size (text_field (text_of s t)) ≡ 2 * t.size
text_size_lem s t h =
    by_test (eqb t.size 0)
    (λ q. rw q (omega (arith, eqb-true t.size 0 q)))
    (λ q. rw q (units_double s t h (omega (arith, eqb-false t.size 0 q))))

-- cells and lengths have room for what a row has
text_held : (s : List ℕ) (t : Text) → UnitsReady s t → Held (text_field (text_of s t))
text_held s t h =
    by_test (eqb t.size 0)
    (λ q. rw q tt)
    (λ q. rw q (omega (arith, units_double s t h (omega (arith, eqb-false t.size 0 q)), h.small)))

pub field_held : (s : List ℕ) (property : ℕ) (f : Fields) → FieldsReady s f → Held (field_of property (row_of s f))
field_held s property f h =
    by_property_lem Held property (number f.key) (number f.language) (number f.default) (text_field (text_of s f.label)) (text_field (text_of s f.note))
    (omega (arith, h.key))
    (omega (arith, h.language))
    (omega (arith, h.default))
    (text_held s f.label h.label)
    (text_held s f.note h.note)

-- a cell by its type and number is a cell of two bytes of type and so many of number
variant_same : (type width v : ℕ) → type < 256 ^ 2 → v < 256 ^ width → width ≤ 8 → le 8 type ++ le 8 v ≡ variant type width v
variant_same type width v t h w =
    rw (le_more 2 6 type t, number)
    (append_assoc (le 2 type) (replicate 6 0) (le width v ++ replicate (8 - width) 0))
  where
    number : le 8 v ≡ le width v ++ replicate (8 - width) 0
    number = ap (λ (n : ℕ). le n v) (omega arith) ∙ le_more width (8 - width) v h

pub cell_same : (property type offset : ℕ) (f : Field) → Held f → offset < 256 ^ offset_width
    → cell_bytes property type (kind_of property f) (content_of offset f) ≡ cell_of property type offset f
unfolding le
cell_same property type offset f h o =
    by_test (eqb type variant_type) (λ q. rw q (go f h)) (λ q. rw q)
  where
    go : (f : Field) → Held f → le 8 (kind_of property f) ++ le 8 (content_of offset f) ≡ variant_of property offset f
    go (number v) h = variant_same (number_type property) 4 v (omega arith) (omega arith) (omega arith)
    go (text units) h = variant_same text_type offset_width offset (omega arith) o (omega arith)
    go absent h = refl

-- a column lies in a list of the same length too
pub still_in : (m n row : ℕ) (c : Column) → m ≡ n → SpansReady m row c → SpansReady n row c
still_in m n row c e h = subst (λ (k : ℕ). SpansReady k row c) e h

-- what is laid where a flag says used, and where not
pub laid_unused : (t : List ℕ) (flag : ℕ) (s : List Laid) → (flag ≡ 1 → ⊥) → t ≡ lays t (pick (is_used flag) s [])
unfolding lays
laid_unused t flag s n = rw (ne_eqb flag 1 n)

pub laid_used : (t u : List ℕ) (flag place : ℕ) (bytes : List ℕ) → flag ≡ 1 → u ≡ lay t place bytes → u ≡ lays t (laid_if flag place bytes)
unfolding lays
laid_used t u flag place bytes e h = rw (eq-eqb flag 1 e) h

-- the size of a cell that a column with a type has
pub variant_size_lem : (property type : ℕ) → type ≡ variant_type → cell_size property type ≡ variant_size
variant_size_lem property type e = rw (eq-eqb type variant_type e)

pub plain_size : (property type : ℕ) → (type ≡ variant_type → ⊥) → 0 < cell_size property type → cell_size property type ≡ number_size property
plain_size property type n h =
    by_test (both (is_number property) (eqb type (number_type property)))
    (λ q. rw (ne_eqb type variant_type n, q))
    (λ q. absurd (let z : 0 < 0 = rw (ne_eqb type variant_type n, q) at h in omega arith))
