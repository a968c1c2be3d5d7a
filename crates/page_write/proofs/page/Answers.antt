-- Zeros, the rows, four words, and the header, each where the reply has it. Assumes nothing.
use Rattle.bindings.proofs.Sound.{fit_sound}
use Rattle.page.proofs.Whole.{page_whole}
use Rattle.page.proofs.Greatest.{returned_few}
use Rattle.page.proofs.ColumnsBound.{bound_few, bound_in}
use Rattle.page.specs.RowPlaces.{rows_at}
use Rattle.wire.specs.Header.{get_rows_msg}
use Rattle.bindings.specs.Column.{columns_of}
use native.Mathlib.Omega.{arith}
use Rattle.wire.specs.Laid.{lay, header}
use Prim.Native.Nat.{ℕ}
use mathlib.Core.Path.{ap, ◌∙◌}
use Rattle.page_write.proofs.page.Goals as goal

pub lay_rows-sent-requires : goal.lay_rows-sent-requires
lay_rows-sent-requires c =
    let sheet = c.args.sheet in
    let records = c.args.records.now in
    let p = c.requires.0 in (
      record {
        few = bound_few sheet.width sheet.bound records p.fits;
        narrow = (fit_sound sheet.width (columns_of sheet.bound records) p.fits).row.1;
        columns = bound_in sheet.width sheet.bound records p.fits;
        inside = p.inside;
        ends = omega (arith, p.ends, c.clear_first.auto.reply);
        offset = p.offset;
      },
      c.requires.1,
    )

pub overflow_cast-sent : goal.overflow_cast-sent
overflow_cast-sent c =
    let laid = c.lay_rows-sent in
    let a = c.args in
    omega (arith, c.requires.0.few, returned_few a.sheet.size a.sheet.from a.sheet.width (columns_of a.sheet.bound a.records.now) a.sheet.asked a.catalogue.now a.places.now a.numbers.now laid.result c.requires.0.inside laid.ensures.counted)

pub overflow_sub-left : goal.overflow_sub-left
overflow_sub-left c =
    let laid = c.lay_rows-sent in
    let a = c.args in
    returned_few a.sheet.size a.sheet.from a.sheet.width (columns_of a.sheet.bound a.records.now) a.sheet.asked a.catalogue.now a.places.now a.numbers.now laid.result c.requires.0.inside laid.ensures.counted

pub returns : goal.returns
returns c =
    let a = c.args in
    let p = c.requires.0 in
    let rows = rows_at a.catalogue.now a.places.now a.numbers.now in
    record {
      counted = c.lay_rows-sent.ensures.counted;
      written =
          page_whole a.sheet.size a.sheet.from a.sheet.width a.sheet.base a.sheet.asked (columns_of a.sheet.bound a.records.now) rows p.fits p.head p.inside a.reply.now p.ends
          c.lay_rows-sent.result _ c.lay_rows-sent.ensures.counted
          c.clear_first.new.reply c.lay_rows-sent.new.reply c.lay_four.new.reply c.lay_header.new.reply
          c.clear_first.ensures c.lay_rows-sent.ensures.laid c.lay_four.ensures
          (c.lay_header.ensures ∙ ap (λ (n : ℕ). lay c.lay_four.new.reply 0 (header get_rows_msg n).bytes) c.status_for-status.ensures);
    }
