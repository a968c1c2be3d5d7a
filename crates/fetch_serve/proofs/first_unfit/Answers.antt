-- `fetch_serve::first_unfit` meets its contract: no row asked for, none left, or the room of the first one. Assumes nothing.
use Rattle.fetch.proofs.Sending.{inside}
use Rattle.fetch.proofs.Judging.{one_left, room_less}
use Rattle.fetch.proofs.Facts.{position_most, words_ready, width_most, first_there, first_row}
use Rattle.catalogue.specs.Plain.{rows_of, catalogue}
use Rattle.fetch.specs.Fetch.{remaining}
use Rattle.table.specs.Seat.{cursor_held}
use lib.Dec.{ltb}
use native.Mathlib.Omega.{arith}
use Prim.Native.Nat.{ℕ, ◌+◌}
use mathlib.Core.Path.{sym, ap, ◌∙◌}
use Rattle.fetch_serve.proofs.first_unfit.Goals as goal

pub room_of-need-requires : goal.room_of-need-requires
room_of-need-requires c = (words_ready _ _ _ _ _ c.requires.0 c.requires.1, width_most _ _ _ _ _ c.requires.0 c.requires.1, first_there _ _ _ _ _ c.requires.0 (omega (arith, c.if-position-selected.false, position_most _ _ _ _ _ c.requires.0)))

pub returns : goal.returns
returns c =
    let a = c.args in
    let r = c.requires.0 in
    let q = a.request in
    room_less q.size q.from c.room_of-need.result (inside _ _ _ _ _ r)
    ∙ ap (λ (n : ℕ). ltb q.size (q.from + n)) (rw c.records-records.ensures at c.room_of-need.ensures)
    ∙ sym (one_left (cursor_held a.cursor.now) q (remaining (rows_of (catalogue a.catalogue.now)) (cursor_held a.cursor.now)) _ _ (first_row a.cursor.now a.catalogue.now a.places.now q _ r (omega (arith, c.if-position-selected.false, position_most _ _ _ _ _ r))) c.if-request-eq0.false)
