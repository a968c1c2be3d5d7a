-- What the rows passed have laid, with what those that the rest will give will lay, is all. Assumes nothing.
use Rattle.page.proofs.FillSteps.{rows_none, returned_asked, returned_left, count_full, count_step, counted_on, turned, lay_step, lay_done}
use Rattle.page.proofs.Found.{fields_small}
use Rattle.page.proofs.Counted.{blocks_seen, sent_few, blocks_few}
use Rattle.page.proofs.RowsBound.{column_in, there_at}
use Rattle.catalogue.specs.CataloguePlaces.{row_seen}
use Rattle.page.specs.Rows.{blocks}
use Rattle.page.specs.RowPlaces.{rows_at}
use Rattle.bindings.specs.Column.{column_at, columns_of}
use lib.Dec.{leb}
use lib.ListN.{length, drop}
use borrow.Author.Tests.{leb-true, leb-false}
use Rattle.lists.proofs.Below.{by_test}
use Rattle.page.specs.PageTold.{RowsLaid}
use native.Mathlib.Omega.{arith}
use Prim.Native.Nat.{ℕ, ◌+◌, ◌-◌, ◌<◌}
use mathlib.Core.Path.{◌≡◌, ap, ◌∙◌, subst}
use Rattle.page_write.proofs.lay_rows.Goals as goal
use Rattle.page_write.proofs.lay_rows.Invariants.{still_sent}

pub fields_at-fields-requires : goal.fields_at-fields-requires
fields_at-fields-requires c =
    let a = c.args in
    there_at a.catalogue.now a.places.now a.numbers.now c.loop-sent.sent _ c.requires.1 (omega (arith, c.loop-sent-test.true)) c.place_of-at.ensures

pub row_blocks-requires : goal.row_blocks-requires
row_blocks-requires c =
    let a = c.args in (
      sent_few a.sheet.bound a.records.now c.texts_sent-texts.result c.requires.0.few c.texts_sent-texts.ensures,
      fields_small a.catalogue.now c.place_of-at.result c.fields_at-fields.result c.fields_at-fields.ensures,
    )

pub overflow_add-need : goal.overflow_add-need
overflow_add-need c =
    let a = c.args in
    omega (
      arith,
      c.row_blocks.ensures,
      blocks_few c.texts_sent-texts.result c.fields_at-fields.result
          (sent_few a.sheet.bound a.records.now c.texts_sent-texts.result c.requires.0.few c.texts_sent-texts.ensures)
          (fields_small a.catalogue.now c.place_of-at.result c.fields_at-fields.result c.fields_at-fields.ensures),
      c.requires.0.narrow,
    )

pub returns-then-top-row : goal.returns-then-top-row
returns-then-top-row c =
    let a = c.args in
    let l = c.loop-sent in
    let p = c.requires.0 in
    let s = a.catalogue.now in
    let places = a.places.now in
    let numbers = a.numbers.now in
    let columns = columns_of a.sheet.bound a.records.now in
    let room = c.row_blocks.ensures ∙ blocks_seen s c.place_of-at.result c.fields_at-fields.result c.texts_sent-texts.result columns c.fields_at-fields.ensures c.texts_sent-texts.ensures in
    lay_done a.sheet a.records.now s places numbers l.reply a.reply.now l.row l.top _ l.sent (rows_at s places (drop l.sent numbers))
    (count_full s places numbers l.sent c.place_of-at.result (omega (arith, c.loop-sent-test.true)) c.place_of-at.ensures a.sheet.width columns (a.sheet.asked - l.sent) (l.top - l.row) (omega (arith, room, c.if-top-row.true)))
    l.invariant.3
    l.invariant.4

pub lay_row-top-requires : goal.lay_row-top-requires
lay_row-top-requires c =
    let a = c.args in
    let l = c.loop-sent in
    let p = c.requires.0 in
    let s = a.catalogue.now in
    let places = a.places.now in
    let numbers = a.numbers.now in
    let columns = columns_of a.sheet.bound a.records.now in
    let room = c.row_blocks.ensures ∙ blocks_seen s c.place_of-at.result c.fields_at-fields.result c.texts_sent-texts.result columns c.fields_at-fields.ensures c.texts_sent-texts.ensures in
    record {
      read = c.fields_at-fields.ensures;
      few = p.few;
      columns = λ k h. column_in a.sheet.width _ l.row (column_at a.records.now k) (omega (arith, l.invariant, c.if-top-row.false, p.ends)) (p.columns k h);
      room = omega (arith, l.invariant, c.if-top-row.false, room);
      ends = omega (arith, l.invariant, p.ends);
      offset = omega (arith, l.invariant, p.offset);
    }

pub loop-sent-preserved : goal.loop-sent-preserved
loop-sent-preserved c =
    let fits = c.if-top-row.false in
    let a = c.args in
    let l = c.loop-sent in
    let p = c.requires.0 in
    let s = a.catalogue.now in
    let places = a.places.now in
    let numbers = a.numbers.now in
    let inside : l.sent < length numbers = omega arith in
    let test : l.sent < a.sheet.asked = omega arith in
    let columns = columns_of a.sheet.bound a.records.now in
    let at = c.place_of-at.result in
    let is = c.place_of-at.ensures in
    let need = a.sheet.width + c.row_blocks.result in
    let room = ap (λ (n : ℕ). a.sheet.width + n) {y = blocks columns (row_seen s at)}
    (c.row_blocks.ensures ∙ blocks_seen s at c.fields_at-fields.result c.texts_sent-texts.result columns c.fields_at-fields.ensures c.texts_sent-texts.ensures) in
    let place = c.lay_row-top.ensures.placed in
    let rest = c.lay_row-top.result - (l.row + a.sheet.width) in
    let after = turned a.sheet.size l.row l.top a.sheet.width (blocks columns (row_seen s at)) need c.lay_row-top.result l.invariant.1 l.invariant.2 room fits place in (
      c.lay_row-top.auto.reply ∙ l.invariant.0,
      after.below,
      after.apart,
      counted_on l.sent (still_sent a.sheet a.records.now s places numbers (l.sent + 1) rest) l.invariant.3 (count_step s places numbers l.sent at inside is a.sheet.width columns a.sheet.asked (l.top - l.row) need rest test room fits after.left),
      lay_step s places numbers l.sent at inside is a.sheet.width columns a.sheet.asked (l.top - l.row) need test room fits l.reply c.lay_row-top.new.reply a.sheet.base l.row l.top c.lay_row-top.result rest place c.lay_row-top.ensures.laid after.left ∙ l.invariant.4,
    )

pub returns : goal.returns
returns c =
    let a = c.args in
    let l = c.loop-sent in
    let s = a.catalogue.now in
    let places = a.places.now in
    let numbers = a.numbers.now in
    let columns = columns_of a.sheet.bound a.records.now in
    let all : l.sent ≡ c.min-most.result = omega arith in
    subst (λ (n : ℕ). RowsLaid a.sheet a.records.now s places numbers n a.reply.now l.reply) all
    (lay_done a.sheet a.records.now s places numbers l.reply a.reply.now l.row l.top _ l.sent (rows_at s places (drop l.sent numbers))
    (by_test (leb a.sheet.asked (length numbers))
    (λ q. returned_asked a.sheet.width columns (a.sheet.asked - l.sent) (l.top - l.row) (rows_at s places (drop l.sent numbers)) (omega (arith, leb-true _ _ q)))
    (λ q. returned_left a.sheet.width columns (a.sheet.asked - l.sent) (l.top - l.row) (rows_at s places (drop l.sent numbers)) (rows_none s places numbers l.sent (omega (arith, leb-false _ _ q)))))
    l.invariant.3
    l.invariant.4)
