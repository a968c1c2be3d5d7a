-- A request for rows that is accepted: its cursor, its values, and the words of its reply. Assumes nothing.
use mathlib.Core.Path.{◌≡◌, refl, sym, ap, subst, ◌∙◌}
use mathlib.Core.Bool.{true, false, not}
use mathlib.Core.List.{List, [], ◌∷◌, ◌++◌, append-nil}
use mathlib.Core.Logic.{⊎_elim}
use Rattle.std.specs.Prelude.{Option, None, Some}
use Prim.Native.Nat.{ℕ, ◌+◌, ◌*◌, ◌^◌, ◌≤◌, ◌<◌}
use native.Mathlib.Omega.{arith}
use borrow.Author.Tests.{eq-eqb, eqb-true}
use lib.Dec.{eqb}
use lib.ListN.{length, replicate, length-replicate, drop_of_length-le}
use lib.Seq.{length-take-le}
use Rattle.wire.specs.Word.{number_at}
use Rattle.lists.proofs.Below.{by_test, true≢false}
use Rattle.catalogue.specs.Plain.{Row}
use Rattle.bindings.specs.Fit.{fit}
use Rattle.bindings.specs.declared.Column.{Column}
use Rattle.table.specs.Seat.{Cursor, Seat, cursor_in}
use Rattle.table.specs.Fits.{CursorFits, CursorOk, SeatOk}
use Rattle.refusal.specs.Refusal.{first_cause}
use Rattle.fetch.specs.Request.{request, Sound}
use Rattle.fetch.specs.declared.Request.{Request}
use Rattle.fetch.proofs.Ranges.{request_sound}
use Rattle.page.specs.Rows.{all_blocks}
use Rattle.page.specs.Page.{page_bytes, page, status_for}
use Rattle.page.specs.Reads.{HeadReads}
use Rattle.page.proofs.Greatest.{Greatest, returned_is, returned_room}
use Rattle.page.proofs.Head.{head_reads}
use Rattle.page.proofs.Reply.{page_is}
use Rattle.fetch.specs.Fetch.{remaining, unbound, sent, rows_sent, then_left, fetch_reply}
use Rattle.fetch.proofs.Sending.{sent_left, sound_inside}
use Rattle.message.specs.Message.{handle_of, unasked, rows_causes, body_causes}
use Rattle.table.specs.Open.{is_open}

-- the cursors of a seat that fits
pub cursor_ok : (s : Seat) (handle : ℕ) → SeatOk (Some s) → CursorOk (cursor_in s handle)
cursor_ok s handle f =
    by_test (eqb handle 1)
    (λ q. rw q f.0)
    (λ q. rw q (by_test (eqb handle 2) (λ k. rw k f.1) (λ k. rw k tt)))

-- a reply as a page over zeros
pub bytes_are : (size from width base status : ℕ) (columns : List Column) (rows : List Row) → fit width columns ≡ true → 32 ≤ from
    → from + length rows * width + all_blocks columns rows ≤ size
    → page size from width base status columns rows (replicate size 0) ≡ page_bytes size from width base status columns rows
bytes_are size from width base status columns rows f h r =
    page_is size from width base status columns rows f h r (replicate size 0)
    ∙ ap (λ (x : List ℕ). page_bytes size from width base status columns rows ++ x)
    (drop_of_length-le {A = ℕ} (replicate size 0) {i = size} (omega (arith, length-replicate {A = ℕ} size 0)))
    ∙ append-nil (page_bytes size from width base status columns rows)

-- what an accepted request for rows has: an open cursor that fits, with bindings, and a sound body
pub record Fetching (rows : List Row) (s : Seat) (m : List ℕ) : Type 0 where
  pub cursor : Cursor
  pub asked : Request
  pub held : cursor_in s (handle_of m) ≡ Some cursor
  pub body : request m ≡ Some asked
  pub fits : CursorFits cursor
  pub bound : fit cursor.width cursor.columns ≡ true
  pub width : asked.width ≡ cursor.width
  pub sound : Sound asked

-- a cursor with columns has fit ones
bound_fit : (c : Cursor) → CursorFits c → unbound c ≡ false → fit c.width c.columns ≡ true
bound_fit c f u =
    ⊎_elim
    (λ (n : (c.columns ≡ []) × (c.width ≡ 0)). absurd (true≢false (sym (eq-eqb (length c.columns) 0 (ap length n.0)) ∙ u)))
    (λ (w : fit c.width c.columns ≡ true). w)
    f.bound

pub fetching : (rows : List Row) (s : Seat) (m : List ℕ) → SeatOk (Some s) → first_cause (body_causes rows 2 s m) ≡ 0 → Fetching rows s m
unfolding first_cause
fetching rows s m f e = go (cursor_in s (handle_of m)) refl (request m) refl e
  where
    go : (o : Option Cursor) → cursor_in s (handle_of m) ≡ o → (x : Option Request) → request m ≡ x
        → first_cause ((9, unasked x) ∷ (10, not (is_open o)) ∷ rows_causes rows o x) ≡ 0 → Fetching rows s m
    go None h None b w = absurd (let z : ◌≡◌ {A = ℕ} 9 0 = w in omega arith)
    go None h (Some q) b w = absurd (let z : ◌≡◌ {A = ℕ} 10 0 = w in omega arith)
    go (Some c) h None b w = absurd (let z : ◌≡◌ {A = ℕ} 9 0 = w in omega arith)
    go (Some c) h (Some q) b w =
        let fits : CursorFits c = subst CursorOk h (cursor_ok s (handle_of m) f) in
        by_test (unbound c)
        (λ u. absurd (let z : ◌≡◌ {A = ℕ} 11 0 = rw u at w in omega arith))
        (λ u.
        by_test (eqb q.width c.width)
        (λ l.
        record {
          cursor = c;
          asked = q;
          held = h;
          body = b;
          fits = fits;
          bound = bound_fit c fits u;
          width = eqb-true q.width c.width l;
          sound = request_sound m q b;
        })
        (λ l. absurd (let z : ◌≡◌ {A = ℕ} 12 0 = rw (u, l) at w in omega arith)))

-- the reply of a cursor that fits and has bindings, to a sound request
module _ (rows : List Row) (c : Cursor) (q : Request) (fits : CursorFits c) (bound : fit c.width c.columns ≡ true) (sound : Sound q) where
  pub inside : q.from ≤ q.size
  inside = sound_inside q sound

  pub greatest : Greatest q.size q.from c.width c.columns q.asked (remaining rows c) (sent rows c q)
  greatest = returned_is q.size q.from c.width c.columns q.asked (remaining rows c) inside

  pub sent_most : c.position + sent rows c q ≤ length c.selection
  sent_most = omega (arith, sent_left rows c q inside, fits.position)

  pub sent_count : length (rows_sent rows c q) ≡ sent rows c q
  sent_count = length-take-le (sent rows c q) (remaining rows c) greatest.left

  pub room : q.from + length (rows_sent rows c q) * c.width + all_blocks c.columns (rows_sent rows c q) ≤ q.size
  room = returned_room q.size q.from c.width c.columns q.asked (remaining rows c) inside

  status_small : (n : ℕ) → status_for n < 256 ^ 4
  status_small n = by_test (eqb n 0) (λ e. rw e (omega arith)) (λ e. rw e (omega arith))

  pub reply_head : HeadReads (fetch_reply rows c q) (status_for (then_left rows c q)) (length (rows_sent rows c q))
  reply_head =
      subst (λ (x : List ℕ). HeadReads x (status_for (then_left rows c q)) (length (rows_sent rows c q)))
      (bytes_are q.size q.from c.width q.base (status_for (then_left rows c q)) c.columns (rows_sent rows c q) bound sound.from_least room)
      (head_reads q.size q.from c.width q.base (status_for (then_left rows c q)) c.columns (rows_sent rows c q) bound sound.from_least room
      (replicate q.size 0)
      (omega (arith, length-replicate {A = ℕ} q.size 0))
      (status_small (then_left rows c q))
      (omega (arith, sent_count, sent_most, fits.rows)))

  -- "_cRowsReturned" is how many rows are sent
  pub count_read : number_at 4 (fetch_reply rows c q) 16 ≡ sent rows c q
  count_read = reply_head.count ∙ sent_count

  -- "Status 0x00040EC6 if none then remain, else 0"
  pub status_read : number_at 4 (fetch_reply rows c q) 4 ≡ status_for (then_left rows c q)
  status_read = reply_head.result
