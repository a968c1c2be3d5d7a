-- The row is read where it stands, and its blocks are counted. Assumes nothing.
use mathlib.Core.Path.{ap, ◌∙◌}
use Prim.Native.Nat.{ℕ, ◌+◌}
use native.Mathlib.Omega.{arith}
use Rattle.catalogue.specs.CataloguePlaces.{row_seen}
use Rattle.bindings.specs.Column.{columns_of}
use Rattle.page.specs.Rows.{blocks}
use Rattle.page.proofs.Found.{fields_small}
use Rattle.page.proofs.Counted.{blocks_seen, sent_few, blocks_few}
use Rattle.page_row.proofs.room_of.Goals as goal

pub row_blocks-requires : goal.row_blocks-requires
row_blocks-requires c =
    let a = c.args in (
      sent_few a.bound a.records.now c.texts_sent-texts.result c.requires.0 c.texts_sent-texts.ensures,
      fields_small a.catalogue.now c.place_of-at.result c.fields_at-fields.result c.fields_at-fields.ensures,
    )

pub overflow_add-result : goal.overflow_add-result
overflow_add-result c =
    let a = c.args in
    omega (
      arith,
      c.row_blocks.ensures,
      blocks_few c.texts_sent-texts.result c.fields_at-fields.result
          (sent_few a.bound a.records.now c.texts_sent-texts.result c.requires.0 c.texts_sent-texts.ensures)
          (fields_small a.catalogue.now c.place_of-at.result c.fields_at-fields.result c.fields_at-fields.ensures),
      c.requires.1,
    )

pub returns : goal.returns
returns c =
    let a = c.args in
    let columns = columns_of a.bound a.records.now in
    ap (λ (n : ℕ). a.width + n)
    (c.row_blocks.ensures
    ∙ blocks_seen a.catalogue.now c.place_of-at.result c.fields_at-fields.result c.texts_sent-texts.result columns c.fields_at-fields.ensures c.texts_sent-texts.ensures
    ∙ ap (λ (k : ℕ). blocks columns (row_seen a.catalogue.now k)) c.place_of-at.ensures)
