-- What the columns passed have laid, with what the others will lay, is the row. Assumes nothing.
use mathlib.Core.Path.{◌≡◌, sym, ◌∙◌}
use Prim.Native.Nat.{◌+◌, ◌-◌, ◌<◌}
use native.Mathlib.Omega.{arith}
use lib.ListN.{length}
use Rattle.catalogue.specs.CataloguePlaces.{row_of}
use Rattle.bindings.specs.Column.{column_at}
use Rattle.page.proofs.Fields.{still_in}
use Rattle.page.proofs.Found.{fields_stand, fields_row}
use Rattle.page.proofs.RowSteps.{blocks_more, blocks_none, spans_none, row_step}
use Rattle.page_row.proofs.lay_row.Goals as goal

pub lay_column-place-requires : goal.lay_column-place-requires
lay_column-place-requires c =
    let l = c.loop-k in
    let a = c.args in
    let p = c.requires in
    let f = a.fields.now in
    let more = blocks_more (a.sheet.bound - l.k) l.k a.records.now (row_of a.catalogue.now f) (omega arith) in
    rw c.column_at-column.ensures
    (record {
      stands = fields_stand a.catalogue.now a.at f p.read;
      column = still_in (length a.reply.now) _ a.row (column_at a.records.now l.k) (sym l.invariant.0) (p.columns l.k (omega arith));
      room = omega (arith, more, l.invariant.2);
      ends = omega (arith, l.invariant.0, l.invariant.1, p.ends);
      offset = omega (arith, l.invariant.1, p.offset);
    })

pub loop-k-preserved : goal.loop-k-preserved
loop-k-preserved c =
    let l = c.loop-k in
    let a = c.args in
    let r = row_of a.catalogue.now a.fields.now in
    let h : 0 < a.sheet.bound - l.k = omega arith in
    let left : a.sheet.bound - (l.k + 1) ≡ a.sheet.bound - l.k - 1 = omega arith in
    let more = blocks_more (a.sheet.bound - l.k) l.k a.records.now r h in
    let laid = rw c.column_at-column.ensures at c.lay_column-place.ensures in
    let place = laid.placed in
    rw left (
      c.lay_column-place.auto.reply ∙ l.invariant.0,
      omega (arith, place, l.invariant.1),
      omega (arith, place, more, l.invariant.2),
      omega (arith, place, more, l.invariant.2, l.invariant.3),
      row_step (a.sheet.bound - l.k) l.k a.records.now r l.reply c.lay_column-place.new.reply a.sheet.base a.row l.place c.lay_column-place.result h place laid.laid ∙ l.invariant.4,
    )

pub returns : goal.returns
returns c =
    let l = c.loop-k in
    let a = c.args in
    let f = a.fields.now in
    let r = row_of a.catalogue.now f in
    let none = blocks_none (a.sheet.bound - l.k) l.k a.records.now r (omega arith) in
    rw (← (fields_row a.catalogue.now a.at f c.requires.read))
    (record { placed = omega (arith, none, l.invariant.3); laid = sym (spans_none (a.sheet.bound - l.k) l.k a.records.now r l.reply a.sheet.base a.row l.place (omega arith)) ∙ l.invariant.4 })
