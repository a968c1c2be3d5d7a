-- Laws of a column: what it wants of the reply, and its spans laid, by what the code found of its field. Assumes nothing.
use mathlib.Core.Path.{◌≡◌, sym, ap, subst, ◌∙◌}
use mathlib.Core.Bool.{true, false}
use mathlib.Core.List.{List, [], ◌∷◌, ◌++◌}
use Prim.Native.Nat.{ℕ, ◌+◌, ◌-◌, ◌*◌, ◌^◌, ◌<◌}
use native.Mathlib.Omega.{arith}
use borrow.Author.Tests.{eq-eqb, ne_eqb}
use Rattle.lists.specs.Below.{pick}
use Rattle.lists.proofs.Below.{by_test}
use Rattle.wire.specs.Word.{le, halves}
use Rattle.wire.specs.Property.{is_number, of_numbers, of_texts, number_type, number_size, length_size}
use Rattle.wire.specs.Laid.{lay, lays, Laid}
use Rattle.wire.proofs.Lays.{lays_join}
use Rattle.catalogue.specs.CataloguePlaces.{units_part, text_of, row_of}
use Rattle.catalogue.specs.CatalogueReady.{FieldsReady, UnitsReady}
use Rattle.catalogue.specs.declared.Text.{Text}
use Rattle.catalogue.specs.declared.Fields.{Fields}
use Rattle.bindings.specs.Fit.{is_used}
use Rattle.bindings.specs.declared.Column.{Column}
use Rattle.page.specs.Field.{Field, number, absent, text_field, field_of}
use Rattle.page.specs.CellPlaces.{cell_bytes, spans_sent, room_at}
use Rattle.page.specs.Cell.{status_of, length_of, kind_of, content_of, cell_of, text_type, offset_width, laid_if, block_of, block_span, block_room, field_spans, column_spans}
use Rattle.page.specs.PageTold.{ColumnLaid}
use Rattle.page.specs.Reads.{Held}
use Rattle.page.proofs.Fields.{field_number, field_text, text_stands, text_absent, text_present, text_size_lem, field_held, cell_same, laid_unused}

-- no block is laid, used or not, and none has room
lays_nothing : (t : List ℕ) (flag : ℕ) → t ≡ lays t (pick (is_used flag) [] [])
unfolding lays
lays_nothing t flag = by_test (is_used flag) (λ q. rw q) (λ q. rw q)

room_nothing : (top flag : ℕ) → top ≡ top - pick (is_used flag) 0 0
room_nothing top flag = by_test (is_used flag) (λ q. rw q (omega arith)) (λ q. rw q (omega arith))

-- a text's block: not laid where the value is not used, and laid where it is
pub block_unlaid : (t : List ℕ) (used top : ℕ) (x : Text) (g : Field) → (used ≡ 1 → ⊥)
    → (top ≡ top - room_at used x) × (t ≡ lays t (pick (is_used used) (block_span top g) []))
block_unlaid t used top x g n = (rw (ne_eqb used 1 n) (omega arith), laid_unused t used (block_span top g) n)

pub block_laid : (s t u : List ℕ) (used top : ℕ) (x : Text) → used ≡ 1 → 0 < x.size → u ≡ lay t (top - 2 * x.size) (block_of (halves (units_part s x)))
    → (top - 2 * x.size ≡ top - room_at used x)
    × (u ≡ lays t (pick (is_used used) (block_span (top - 2 * x.size) (text_field (text_of s x))) []))
unfolding lays
block_laid s t u used top x e h laid = (rw (eq-eqb used 1 e), rw (eq-eqb used 1 e, text_present s x (λ z. omega arith)) laid)

-- the three spans of a column in its row, one after the other
pub spans_laid : (row : ℕ) (c : Column) (kind v status size : ℕ) (t u₁ u₂ u₃ : List ℕ)
    → u₁ ≡ lays t (laid_if c.value.used (row + c.value.offset) (cell_bytes c.property c.vtype kind v))
    → u₂ ≡ lays u₁ (laid_if c.status.used (row + c.status.offset) (status ∷ []))
    → u₃ ≡ lays u₂ (laid_if c.length.used (row + c.length.offset) (le length_size size))
    → u₃ ≡ lays t (spans_sent row c kind v status size)
spans_laid row c kind v status size t u₁ u₂ u₃ e₁ e₂ e₃ =
    rw (e₃, e₂, e₁) (sym (lays_join t cell (flag ++ sized) ∙ lays_join (lays t cell) flag sized))
  where
    cell : List Laid
    cell = laid_if c.value.used (row + c.value.offset) (cell_bytes c.property c.vtype kind v)

    flag : List Laid
    flag = laid_if c.status.used (row + c.status.offset) (status ∷ [])

    sized : List Laid
    sized = laid_if c.length.used (row + c.length.offset) (le length_size size)

module _ (s : List ℕ) (f : Fields) (c : Column) (stand : FieldsReady s f) where
  -- the block and then the other spans, of the column's field
  field_laid : (g : Field) → field_of c.property (row_of s f) ≡ g → (base row place : ℕ) → base + place < 256 ^ offset_width
      → (t u w : List ℕ) → u ≡ lays t (pick (is_used c.value.used) (block_span place g) [])
      → w ≡ lays u (spans_sent row c (kind_of c.property g) (content_of (base + place) g) (status_of g) (length_of c.property g))
      → w ≡ lays t (column_spans base row place c (row_of s f))
  unfolding column_spans
  field_laid g is base row place o t u w block spans =
      spans
      ∙ rw (block, cell_same c.property c.vtype (base + place) g (subst Held is (field_held s c.property f stand)) o)
      (sym
      (lays_join t
      (pick (is_used c.value.used) (block_span place g) [])
      (laid_if c.value.used (row + c.value.offset) (cell_of c.property c.vtype (base + place) g)
      ++ (laid_if c.status.used (row + c.status.offset) (status_of g ∷ [])
      ++ laid_if c.length.used (row + c.length.offset) (le length_size (length_of c.property g)))))
      ∙ ap (λ h. lays t (field_spans base row place c h)) (sym is))

  -- a number
  pub number_laid : is_number c.property ≡ true → (base row top : ℕ) → base + top < 256 ^ offset_width
      → (kind v size : ℕ) → kind ≡ number_type c.property → v ≡ of_numbers c.property f.key f.language f.default
      → size ≡ number_size c.property → (t w : List ℕ) → w ≡ lays t (spans_sent row c kind v 0 size)
      → ColumnLaid base row top c (row_of s f) top t w
  number_laid n base row top o kind v size ek ev es t w e =
      record {
        placed = rw is (room_nothing top c.value.used);
        laid = field_laid (number value) is base row top o t t w (lays_nothing t c.value.used) (e ∙ rw (ek, ev, es));
      }
    where
      value : ℕ
      value = of_numbers c.property f.key f.language f.default

      is : field_of c.property (row_of s f) ≡ number value
      is = field_number c.property (row_of s f) n

  -- a text
  module _ (n : is_number c.property ≡ false) (x : Text) (found : x ≡ of_texts c.property f.label f.note) where
    text_is : field_of c.property (row_of s f) ≡ text_field (text_of s x)
    text_is = field_text s c.property f n ∙ ap (λ t. text_field (text_of s t)) (sym found)

    pub found_stands : UnitsReady s x
    found_stands = rw found (text_stands s c.property f stand)

    pub found_room : room_at c.value.used x ≡ block_room c (row_of s f)
    found_room = rw (text_is, text_size_lem s x found_stands)

    -- one that is absent
    pub absent_laid : x.size ≡ 0 → (base row top : ℕ) → base + top < 256 ^ offset_width → (t w : List ℕ) → w ≡ lays t (spans_sent row c 0 0 2 0)
        → ColumnLaid base row top c (row_of s f) top t w
    absent_laid z base row top o t w e =
        record {
          placed = rw is (room_nothing top c.value.used);
          laid = field_laid absent is base row top o t t w (lays_nothing t c.value.used) e;
        }
      where
        is : field_of c.property (row_of s f) ≡ absent
        is = text_is ∙ text_absent s x z

    -- one that is present, its block laid before
    pub present_laid : (x.size ≡ 0 → ⊥) → (base row top place size : ℕ) → base + place < 256 ^ offset_width
        → place ≡ top - room_at c.value.used x → size ≡ 2 * x.size
        → (t u w : List ℕ) → u ≡ lays t (pick (is_used c.value.used) (block_span place (text_field (text_of s x))) [])
        → w ≡ lays u (spans_sent row c text_type (base + place) 0 size) → ColumnLaid base row top c (row_of s f) place t w
    present_laid z base row top place size o ep es t u w block spans =
        record {
          placed = ep ∙ ap (λ (k : ℕ). top - k) found_room;
          laid = field_laid (text_field (text_of s x)) text_is base row place o t u w block (spans ∙ same);
        }
      where
        same : lays u (spans_sent row c text_type (base + place) 0 size)
            ≡ lays u
            (spans_sent row c (kind_of c.property (text_field (text_of s x))) (content_of (base + place) (text_field (text_of s x)))
            (status_of (text_field (text_of s x))) (length_of c.property (text_field (text_of s x))))
        same = rw (es, ← (text_size_lem s x found_stands), text_present s x z)
