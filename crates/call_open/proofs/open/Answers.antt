-- `call_open::open` meets its contract: the judgement and the seat pick the way, and the seat's words are lent to be opened. Assumes nothing.
use mathlib.Core.Path.{◌≡◌, refl, sym, ap, subst, ◌∙◌}
use native.Mathlib.Omega.{arith}
use Prim.Native.Nat.{ℕ, ◌*◌, ◌-◌, ◌<◌}
use lib.ListN.{length, take, drop, length-replicate, length-take, length-drop}
use lib.Seq.{take-take}
use Rattle.query.specs.OpenTold.{Judged}
use Rattle.table.specs.Layout.{seat_part}
use Rattle.table.specs.Seat.{seat_of}
use Rattle.std.proofs.lemmas.Result.{err_from_is_err_and}
use Rattle.table.specs.Layout.{seat_size, cursor_size, cursor_place}
use Rattle.lists.specs.Parts.{part, put}
use Rattle.lists.proofs.Parts.{part_is}
use Rattle.table.proofs.Tables.{table_length, part_size}
use Rattle.call.specs.Step.{sources_of, seat_held}
use Rattle.call.proofs.Causes.{passes, refused_by_lem, passed_by}
use Rattle.call.proofs.Opening.{open_judged, open_refused, open_done_lem, places_noted, open_seat, part_closed, part_opened}
use Rattle.std.specs.Prelude.{Some, Ok, Err}
use mathlib.Core.List.{List}
use Rattle.table.specs.Seat.{opened, cursor_words}
use Rattle.tree.specs.Select.{selected}
use Rattle.query.specs.Open.{opened_on}
use Rattle.query.specs.OpenTold.{handle_for}
use Rattle.query.proofs.OpenLaws.{open_tree}
use Rattle.call.proofs.Seating.{seated_is}
use Rattle.call_open.proofs.open.Goals as goal

pub returns-in_err-rows : goal.returns-in_err-rows
returns-in_err-rows c =
    let a = c.args in
    let p = err_from_is_err_and c.from_residual.result c.from_residual.ensures.1 in
    rw (p.1, p.2) (open_judged (sources_of a.catalogue.now) a.table.now a.seat.0 a.tree.now _ (refused_by_lem c.in_err-rows.ensures))

pub slice_bounds-split_first_chunk-count : goal.slice_bounds-split_first_chunk-count
slice_bounds-split_first_chunk-count c =
    let a = c.args in
    let p = passes (sources_of a.catalogue.now) a.table.now a.seat.0 (passed_by c.in_ok-rows.ensures) in
    omega (arith, p.seat_in_lem, table_length a.table.now p.table_in)

pub slice_bounds-split_first_chunk-start : goal.slice_bounds-split_first_chunk-start
slice_bounds-split_first_chunk-start c =
    let a = c.args in
    let p = passes (sources_of a.catalogue.now) a.table.now a.seat.0 (passed_by c.in_ok-rows.ensures) in
    omega (arith, p.seat_in_lem, table_length a.table.now p.table_in)

pub unreachable-requires : goal.unreachable-requires
unreachable-requires c =
    let a = c.args in
    let t = a.table.now in
    let p = passes (sources_of a.catalogue.now) t a.seat.0 (passed_by c.in_ok-rows.ensures) in
    let l = table_length t p.table_in in
    omega (arith, c.in_default.ensures.cases, l, p.seat_in_lem, length-take (length t - seat_size * a.seat.0) (drop (seat_size * a.seat.0) t), length-drop (seat_size * a.seat.0) t)

-- the first words from a seat's place on are the seat's
seen : (t words : List ℕ) (seat : ℕ) → length t ≡ 17200 → seat < 8
    → words ≡ take seat_size (take (length t - seat_size * seat) (drop (seat_size * seat) t)) → words ≡ seat_part t seat
seen t words seat l h e = e ∙ take-take seat_size (length t - seat_size * seat) (drop (seat_size * seat) t) (omega (arith, l, h))

pub returns-in_err-handle : goal.returns-in_err-handle
returns-in_err-handle c =
    let a = c.args in
    let t = a.table.now in
    let r = err_from_is_err_and c.from_residual-in_err-handle.result c.from_residual-in_err-handle.ensures.1 in
    let e = passed_by c.in_ok-rows.ensures in
    let p = passes (sources_of a.catalogue.now) t a.seat.0 e in
    let w = seen t c.in-Some.words.now a.seat.0 (table_length t p.table_in) p.seat_in_lem c.in-Some.ensures.cases.0 in
    let j = subst (λ (x : List ℕ). Judged (seat_of x) a.tree.now (Err c.in_err-handle.field-0.0)) w c.in_err-handle.ensures in
    rw (r.1, r.2) (open_refused (sources_of a.catalogue.now) t a.seat.0 a.tree.now e _ (sym j.refused))

pub open-requires : goal.open-requires
open-requires c =
    let a = c.args in
    let t = a.table.now in
    let e = passed_by c.in_ok-rows.ensures in
    let p = passes (sources_of a.catalogue.now) t a.seat.0 e in
    let w = seen t c.in-Some.words.now a.seat.0 (table_length t p.table_in) p.seat_in_lem c.in-Some.ensures.cases.0 in
    let j = subst (λ (x : List ℕ). Judged (seat_of x) a.tree.now (Ok c.in_ok-handle.handle)) w c.in_ok-handle.ensures in
    let f = sym j.refused in
    let s = open_seat (seat_held t a.seat.0) a.tree.now f in
    let h = j.given refl ∙ ap handle_for s.1 in (
      ap length (part_is t (seat_size * a.seat.0) seat_size) ∙ part_size t (table_length t p.table_in) a.seat.0 p.seat_in_lem,
      ap (λ (b : List ℕ). part b (cursor_place c.in_ok-handle.handle.0) cursor_size) (part_is t (seat_size * a.seat.0) seat_size)
          ∙ part_closed t p.table_in a.seat.0 p.seat_in_lem s.0 s.1 _ h (λ z. s.2 (sym h ∙ z)),
      open_tree (seat_held t a.seat.0) a.tree.now f,
      places_noted a.catalogue.now t _ _ a.seat.0 _ c.in_ok-rows.ensures p.rows_in (omega (arith, length-replicate {A = ℕ} 1024 0)),
    )

pub returns : goal.returns
returns c =
    let a = c.args in
    let t = a.table.now in
    let e = passed_by c.in_ok-rows.ensures in
    let p = passes (sources_of a.catalogue.now) t a.seat.0 e in
    let w = seen t c.in-Some.words.now a.seat.0 (table_length t p.table_in) p.seat_in_lem c.in-Some.ensures.cases.0 in
    let j = subst (λ (x : List ℕ). Judged (seat_of x) a.tree.now (Ok c.in_ok-handle.handle)) w c.in_ok-handle.ensures in
    let f = sym j.refused in
    let s = open_seat (seat_held t a.seat.0) a.tree.now f in
    let h = j.given refl ∙ ap handle_for s.1 in
    open_done_lem (sources_of a.catalogue.now) t a.seat.0 a.tree.now e s.0 c.in_ok-handle.handle _ s.1 f h
    (seated_is t a.seat.0 _ (Some (opened_on s.0 a.tree.now (sources_of a.catalogue.now).rows))
    (c.«open».ensures
    ∙ ap (λ (b : List ℕ). put b (cursor_place c.in_ok-handle.handle.0) cursor_size (cursor_words (Some (opened (selected a.tree.now a.catalogue.now)))))
    (part_is t (seat_size * a.seat.0) seat_size)
    ∙ part_opened t p.table_in a.seat.0 p.seat_in_lem s.0 s.1 _ h (Some (opened (selected a.tree.now a.catalogue.now)))))
