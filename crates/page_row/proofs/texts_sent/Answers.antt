-- What the columns passed send and what the others will is all. Assumes nothing.
use mathlib.Core.Path.{◌≡◌, refl}
use Prim.Native.Nat.{◌+◌, ◌-◌}
use native.Mathlib.Omega.{arith}
use Rattle.bindings.specs.Column.{columns_of}
use Rattle.page.specs.CellPlaces.{texts_sent}
use Rattle.page.proofs.Counted.{sent_few, sent_more, sent_all}
use Rattle.page_row.proofs.texts_sent.Goals as goal

pub overflow_add-labels : goal.overflow_add-labels
overflow_add-labels c =
    let l = c.loop-k in
    let a = c.args in
    let more = sent_more (a.bound - l.k) l.k a.records.now c.column_at-column.result c.column_at-column.ensures (omega arith) in
    omega (arith, l.invariant.0, more.0, c.label_sent-labels.ensures, sent_few a.bound a.records.now (texts_sent (columns_of a.bound a.records.now)) c.requires refl)

pub overflow_add-notes : goal.overflow_add-notes
overflow_add-notes c =
    let l = c.loop-k in
    let a = c.args in
    let more = sent_more (a.bound - l.k) l.k a.records.now c.column_at-column.result c.column_at-column.ensures (omega arith) in
    omega (arith, l.invariant.1, more.1, c.note_sent-notes.ensures, sent_few a.bound a.records.now (texts_sent (columns_of a.bound a.records.now)) c.requires refl)

pub loop-k-preserved : goal.loop-k-preserved
loop-k-preserved c =
    let l = c.loop-k in
    let a = c.args in
    let left : a.bound - (l.k + 1) ≡ a.bound - l.k - 1 = omega arith in
    let more = sent_more (a.bound - l.k) l.k a.records.now c.column_at-column.result c.column_at-column.ensures (omega arith) in
    rw left
    (omega (arith, l.invariant.0, more.0, c.label_sent-labels.ensures), omega (arith, l.invariant.1, more.1, c.note_sent-notes.ensures))

pub returns : goal.returns
returns c =
    let l = c.loop-k in
    let a = c.args in
    sent_all (a.bound - l.k) l.k a.records.now (texts_sent (columns_of a.bound a.records.now)) l.labels l.notes (omega arith) l.invariant.0 l.invariant.1
