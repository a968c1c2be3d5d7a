-- `call_connect::connect` meets its contract: the judgement and the seat's first word pick the way, and the seat's words are lent to be written. Assumes nothing.
use mathlib.Core.Path.{sym, ◌∙◌, subst}
use native.Mathlib.Omega.{arith}
use Prim.Native.Nat.{ℕ, ◌*◌}
use mathlib.Core.List.{List}
use Rattle.std.proofs.lemmas.Result.{err_from_is_err_and}
use Rattle.table.specs.Layout.{seat_size}
use Rattle.lists.proofs.Parts.{part_is}
use Rattle.table.proofs.Tables.{table_length}
use Rattle.call.specs.Step.{sources_of, ConnectKeeps, connect_step}
use Rattle.call.proofs.Causes.{passes, refused_by_lem, passed_by}
use Rattle.call.proofs.Seating.{part_none, is_connected_lem, not_connected, seated_is}
use Rattle.call.proofs.Connecting.{connect_judged, connect_taken, connect_done}
use Rattle.std.specs.Prelude.{Some, Ok}
use Rattle.table.specs.Seat.{fresh}
use Rattle.call_connect.proofs.connect.Goals as goal

pub returns-in_err-judge : goal.returns-in_err-judge
returns-in_err-judge c =
    let a = c.args in
    let p = err_from_is_err_and c.from_residual.result c.from_residual.ensures.1 in
    rw (p.1, p.2) (connect_judged (sources_of a.catalogue.now) a.table.now a.seat.0 a.version _ (refused_by_lem c.in_err-judge.ensures))

pub bounds-table-at : goal.bounds-table-at
bounds-table-at c =
    let a = c.args in
    let p = passes (sources_of a.catalogue.now) a.table.now a.seat.0 (passed_by c.in_ok-judge.ensures) in
    omega (arith, p.seat_in_lem, table_length a.table.now p.table_in)

pub returns-then-table-at-ne0 : goal.returns-then-table-at-ne0
returns-then-table-at-ne0 c =
    let a = c.args in
    let e = passed_by c.in_ok-judge.ensures in
    let p = passes (sources_of a.catalogue.now) a.table.now a.seat.0 e in
    connect_taken (sources_of a.catalogue.now) a.table.now a.seat.0 a.version e
    (is_connected_lem a.table.now p.table_in a.seat.0 p.seat_in_lem c.if-table-at-ne0.true)

pub slice_bounds-connect_words-end : goal.slice_bounds-connect_words-end
slice_bounds-connect_words-end c =
    let a = c.args in
    let p = passes (sources_of a.catalogue.now) a.table.now a.seat.0 (passed_by c.in_ok-judge.ensures) in
    omega (arith, p.seat_in_lem, table_length a.table.now p.table_in)

pub connect_words-requires : goal.connect_words-requires
connect_words-requires c =
    let a = c.args in
    let p = passes (sources_of a.catalogue.now) a.table.now a.seat.0 (passed_by c.in_ok-judge.ensures) in
    part_is a.table.now (seat_size * a.seat.0) seat_size
    ∙ part_none a.table.now p.table_in a.seat.0 p.seat_in_lem c.if-table-at-ne0.false

pub returns : goal.returns
returns c =
    let a = c.args in
    let e = passed_by c.in_ok-judge.ensures in
    let p = passes (sources_of a.catalogue.now) a.table.now a.seat.0 e in
    subst (λ (words : List ℕ). ConnectKeeps (connect_step (sources_of a.catalogue.now) a.table.now a.seat.0 a.version) (Ok tt) words)
    (sym (seated_is a.table.now a.seat.0 _ (Some (fresh a.version)) c.connect_words.ensures))
    (connect_done (sources_of a.catalogue.now) a.table.now a.seat.0 a.version e
    (not_connected a.table.now p.table_in a.seat.0 p.seat_in_lem c.if-table-at-ne0.false))
