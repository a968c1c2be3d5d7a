-- What an accepted request for rows sends, in any table; and that from the fresh table on a cursor is what the calls tell. Assumes nothing.
use mathlib.Core.Path.{◌≡◌, refl, sym, ap, subst, ◌∙◌}
use mathlib.Core.Bool.{true}
use mathlib.Core.List.{List, ◌++◌}
use Rattle.std.specs.Prelude.{Option, None, Some}
use Prim.Native.Nat.{ℕ, ◌≤◌, ◌<◌}
use native.Mathlib.Omega.{arith}
use borrow.Author.Tests.{eqb-false, eq-eqb}
use lib.Dec.{eqb}
use lib.ListN.{length}
use Rattle.lists.proofs.Below.{by_test}
use Rattle.catalogue.specs.Plain.{Row, catalogue, rows_of}
use Rattle.bindings.specs.Fit.{fit}
use Rattle.bindings.proofs.Sound.{fit_sound}
use Rattle.table.specs.Layout.{seats}
use Rattle.table.specs.Seat.{Cursor, Seat, cursor_in}
use Rattle.table.specs.Fits.{CursorFits, CursorOk, SeatOk}
use Rattle.lists.specs.Rising.{Rises}
use Rattle.refusal.specs.Refusal.{first_cause}
use Rattle.fetch.specs.Request.{request, Sound}
use Rattle.fetch.specs.declared.Request.{Request}
use Rattle.fetch.specs.Fetch.{fetch_reply}
use Rattle.message.specs.Message.{msg_of, handle_of, kind_of, kind_from, served, seat_causes, done_on, seat_message}
use Rattle.table.specs.Open.{is_open}
use Rattle.call.specs.Step.{Sources, sources_of, judging, seat_held, sizing, message_step}
use Rattle.call.proofs.Seating.{seat_ok}
use Rattle.promises.specs.Calls.{Call, messaging, step, history, after, fresh_table}
use Rattle.promises.specs.Client.{Handle, cursor_told, cursor_by, held_cursor}
use Rattle.promises.specs.Rows.{RowsReply, Sends}
use Rattle.promises.proofs.Refusals.{seat_refusal, accepted_passes}
use Rattle.promises.proofs.Reached.{fresh_seat, reached_well}
use Rattle.promises.proofs.Served.{cursor_ok, fetching}
use Rattle.promises.proofs.Replies.{rows_held, reply_is}
use Rattle.promises.proofs.Carried.{open_handle, accepted_kind, after_told}

-- the fresh table holds no cursor
pub fresh_none : (seat handle : ℕ) → seat < seats → held_cursor fresh_table seat handle ≡ None
fresh_none seat handle h = ap (λ (o : Option Seat). cursor_by o handle) (fresh_seat seat h)

-- from the fresh table on, every cursor is what the calls and their answers tell
pub cursor_told_lem : (s : List ℕ) (calls : List Call) (seat handle : ℕ) → seat < seats → Handle handle
    → held_cursor (after (sources_of s) fresh_table calls) seat handle
    ≡ cursor_told (sources_of s) seat handle None (history (sources_of s) fresh_table calls)
cursor_told_lem s calls seat handle h n =
    after_told s fresh_table calls seat handle h n
    ∙ ap (λ (o : Option Cursor). cursor_told (sources_of s) seat handle o (history (sources_of s) fresh_table calls)) (fresh_none seat handle h)

-- an accepted request for rows, on its seat
pub record Served (rows : List Row) (held : Option Seat) (m : List ℕ) : Type 0 where
  pub cursor : Cursor
  pub asked : Request
  pub holds : cursor_by held (handle_of m) ≡ Some cursor
  pub handle : Handle (handle_of m)
  pub body : request m ≡ Some asked
  pub fits : CursorFits cursor
  pub bound : fit cursor.width cursor.columns ≡ true
  pub sound : Sound asked
  pub reply : (seat_message rows held m).reply ≡ fetch_reply rows cursor asked

reply_of : (rows : List Row) (s : Seat) (m : List ℕ) (c : Cursor) (q : Request) → cursor_in s (handle_of m) ≡ Some c → request m ≡ Some q
    → (done_on rows 2 s m).reply ≡ fetch_reply rows c q
reply_of rows s m c q h b = rw (h, b)

pub seat_served : (rows : List Row) (held : Option Seat) (m : List ℕ) → SeatOk held → first_cause (seat_causes rows held m) ≡ 0 → msg_of m ≡ 0xCC → Served rows held m
unfolding seat_message first_cause kind_from
seat_served rows None m f e g =
    by_test (served (msg_of m))
    (λ q. absurd (let z : ◌≡◌ {A = ℕ} 7 0 = rw q at e in omega arith))
    (λ q. absurd (let z : ◌≡◌ {A = ℕ} 6 0 = rw q at e in omega arith))
seat_served rows (Some s) m f e g =
    let k : kind_of (msg_of m) ≡ 2 = ap kind_of g in
    let r = fetching rows s m f (rw k at (accepted_kind rows s m e).1) in
    record {
      cursor = r.cursor;
      asked = r.asked;
      holds = r.held;
      handle = open_handle s (handle_of m) (ap is_open r.held);
      body = r.body;
      fits = r.fits;
      bound = r.bound;
      sound = r.sound;
      reply = rw (eq-eqb (first_cause (seat_causes rows (Some s) m)) 0 e, k) (reply_of rows s m r.cursor r.asked r.held r.body);
    }

-- a message that is accepted is accepted by its seat, whose reply it is
pub by_seat : (src : Sources) (t : List ℕ) (seat : ℕ) (m : List ℕ) (room : ℕ) → (message_step src t seat m room).refusal ≡ 0
    → (first_cause (seat_causes (rows_of src.rows) (seat_held t seat) m) ≡ 0)
    × ((message_step src t seat m room).reply ≡ (seat_message (rows_of src.rows) (seat_held t seat) m).reply)
unfolding message_step
by_seat src t seat m room =
    by_test (eqb (first_cause (judging src t seat ++ sizing m room)) 0)
    (λ q. rw q (λ z. (sym (seat_refusal (rows_of src.rows) (seat_held t seat) m) ∙ z, refl)))
    (λ q. rw q (λ z. absurd (eqb-false (first_cause (judging src t seat ++ sizing m room)) 0 q z)))

-- demand 2: the reply to an accepted request for rows, in any table
pub sends : (s : List ℕ) (rows : List Row) → catalogue s ≡ Some rows → (t : List ℕ) (seat : ℕ) (m : List ℕ) (room : ℕ)
    → (step (sources_of s) t (messaging seat m room)).refusal ≡ 0 → msg_of m ≡ 0xCC
    → Sends rows t seat m (step (sources_of s) t (messaging seat m room)).reply × Handle (handle_of m)
sends s rows e t seat m room z g =
    let a = accepted_passes (sources_of s) t (messaging seat m room) z in
    let b = by_seat (sources_of s) t seat m room z in
    let v = seat_served (rows_of (catalogue s)) (seat_held t seat) m (seat_ok t a.table_in seat a.seat_in_lem) b.0 g in (
      record {
        cursor = v.cursor;
        asked = v.asked;
        held = v.holds;
        body = v.body;
        bound = fit_sound v.cursor.width v.cursor.columns v.bound;
        says =
            subst (RowsReply rows v.cursor v.asked)
            (sym (b.1 ∙ v.reply ∙ ap (λ (o : Option (List Row)). fetch_reply (rows_of o) v.cursor v.asked) e))
            (reply_is rows (rows_held s rows e) v.cursor v.asked v.fits v.bound v.sound);
      },
      v.handle,
    )

-- a cursor that is told has carried no more rows than its selection has, and no row stands in its selection twice
pub told_fits : (s : List ℕ) (calls : List Call) (seat handle : ℕ) → seat < seats → Handle handle → (c : Cursor)
    → cursor_told (sources_of s) seat handle None (history (sources_of s) fresh_table calls) ≡ Some c
    → (c.position ≤ length c.selection) × Rises c.selection
told_fits s calls seat handle h n c e =
    let t = after (sources_of s) fresh_table calls in
    let f : CursorFits c
    = subst CursorOk (cursor_told_lem s calls seat handle h n ∙ e) (held_ok (seat_held t seat) (seat_ok t (reached_well s calls) seat h)) in
    (f.position, f.rising)
  where
    held_ok : (o : Option Seat) → SeatOk o → CursorOk (cursor_by o handle)
    held_ok None w = tt
    held_ok (Some k) w = cursor_ok k handle w
