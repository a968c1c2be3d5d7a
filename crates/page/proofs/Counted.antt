-- Laws of the columns that send texts: counted once, they say the blocks of every row. Assumes nothing.
use mathlib.Core.Path.{◌≡◌, sym, ap, ◌∙◌}
use mathlib.Core.List.{List, [], ◌∷◌}
use Prim.Native.Nat.{ℕ, ◌+◌, ◌-◌, ◌*◌, ◌≤◌, ◌<◌}
use native.Mathlib.Nat.{add-mul, mul-le-mul_left}
use native.Mathlib.Omega.{arith}
use borrow.Author.Tests.{eqb-true}
use lib.Dec.{eqb}
use lib.ListN.{length}
use Rattle.lists.proofs.Below.{by_test}
use Rattle.wire.specs.Property.{is_number, label_property}
use Rattle.catalogue.specs.CataloguePlaces.{row_of, row_seen, fields_seen}
use Rattle.catalogue.specs.CatalogueReady.{FieldsReady}
use Rattle.catalogue.specs.declared.Fields.{Fields}
use Rattle.bindings.specs.Column.{columns_most, column_at, columns_from, columns_of}
use Rattle.bindings.specs.Fit.{is_used}
use Rattle.bindings.specs.declared.Column.{Column}
use Rattle.bindings.proofs.Columns.{from_length, from_more, from_none}
use Rattle.page.specs.Cell.{block_room}
use Rattle.page.specs.CellPlaces.{label_sent, note_sent, texts_sent, blocks_by}
use Rattle.page.specs.FieldReady.{SizesReady}
use Rattle.page.specs.RowReady.{blocks_most}
use Rattle.page.specs.Rows.{blocks}
use Rattle.page.specs.declared.Texts.{Texts}
use Rattle.page.proofs.Fields.{field_number, field_text, text_size_lem}
use Rattle.page.proofs.Found.{fields_stand, fields_row}

-- a column sends no text, or one
one_sent : (c : Column) → label_sent c + note_sent c ≤ 1
one_sent c =
    by_test (is_used c.value.used)
    (λ q. rw q
    (by_test (eqb c.property label_property)
    (λ u. rw u (omega arith))
    (λ u. rw u (by_test (is_number c.property) (λ v. rw v (omega arith)) (λ v. rw v (omega arith))))))
    (λ q. rw q (omega arith))

-- the room of its block, by what it sends
room_by : (s : List ℕ) (f : Fields) (c : Column) → FieldsReady s f
    → block_room c (row_of s f) ≡ 2 * (label_sent c * f.label.size + note_sent c * f.note.size)
room_by s f c h =
    by_test (is_used c.value.used)
    (λ q. rw q
    (by_test (eqb c.property label_property)
    (λ u. rw (field_text s c.property f (ap is_number (eqb-true c.property label_property u)), u, text_size_lem s f.label h.label) (omega arith))
    (λ u.
    by_test (is_number c.property)
    (λ v. rw (field_number c.property (row_of s f) v, u, v) (omega arith))
    (λ v. rw (field_text s c.property f v, u, v, text_size_lem s f.note h.note) (omega arith)))))
    (λ q. rw q (omega arith))

-- a row's blocks, by how many columns send each of its texts
blocks_by_lem : (s : List ℕ) (f : Fields) (columns : List Column) → FieldsReady s f → blocks columns (row_of s f) ≡ blocks_by (texts_sent columns) f
unfolding blocks texts_sent
blocks_by_lem s f [] h = omega arith
blocks_by_lem s f (c ∷ columns) h =
    omega (
      arith,
      room_by s f c h,
      blocks_by_lem s f columns h,
      add-mul (label_sent c) (texts_sent columns).labels f.label.size,
      add-mul (note_sent c) (texts_sent columns).notes f.note.size,
    )

-- the same of the row at a place, by the fields and the counts that the code found
pub blocks_seen : (s : List ℕ) (at : ℕ) (f : Fields) (t : Texts) (columns : List Column) → f ≡ fields_seen s at → t ≡ texts_sent columns
    → blocks_by t f ≡ blocks columns (row_seen s at)
blocks_seen s at f t columns ef et =
    ap (λ (u : Texts). blocks_by u f) et
    ∙ sym (blocks_by_lem s f columns (fields_stand s at f ef))
    ∙ ap (blocks columns) (fields_row s at f ef)

-- few columns send few texts, and these take few bytes
texts_few : (columns : List Column) → (texts_sent columns).labels + (texts_sent columns).notes ≤ length columns
unfolding texts_sent
texts_few [] = omega arith
texts_few (c ∷ columns) = omega (arith, one_sent c, texts_few columns)

-- of at most five columns
pub sent_few : (bound : ℕ) (words : List ℕ) (t : Texts) → bound ≤ columns_most → t ≡ texts_sent (columns_of bound words)
    → t.labels + t.notes ≤ columns_most
sent_few bound words t few e = rw e (omega (arith, few, texts_few (columns_of bound words), from_length bound 0 words))

pub blocks_few : (t : Texts) (f : Fields) → t.labels + t.notes ≤ columns_most → SizesReady f → blocks_by t f ≤ blocks_most
blocks_few t f few small =
    omega (arith, few, mul-le-mul_left t.labels small.0, mul-le-mul_left t.notes small.1)

-- the columns from an index on: one and then the others, or none
module _ (left k : ℕ) (words : List ℕ) where
  pub sent_more : (c : Column) → c ≡ column_at words k → 0 < left
      → ((texts_sent (columns_from left k words)).labels ≡ label_sent c + (texts_sent (columns_from (left - 1) (k + 1) words)).labels)
      × ((texts_sent (columns_from left k words)).notes ≡ note_sent c + (texts_sent (columns_from (left - 1) (k + 1) words)).notes)
  unfolding texts_sent
  sent_more c e h = (rw (from_more left k words h, e), rw (from_more left k words h, e))

  -- all are counted
  pub sent_all : (t : Texts) (labels notes : ℕ) → left ≡ 0 → t.labels ≡ labels + (texts_sent (columns_from left k words)).labels
      → t.notes ≡ notes + (texts_sent (columns_from left k words)).notes → record { labels = labels; notes = notes } ≡ t
  unfolding texts_sent
  sent_all t labels notes z el en = rw (same_labels, same_notes)
    where
      none : texts_sent (columns_from left k words) ≡ record { labels = 0; notes = 0 }
      none = rw (from_none left k words z)

      same_labels : labels ≡ t.labels
      same_labels = omega (arith, el, ap (λ (u : Texts). u.labels) none)

      same_notes : notes ≡ t.notes
      same_notes = omega (arith, en, ap (λ (u : Texts). u.notes) none)
