-- Whatever a message does, it leaves its seat fit and its row numbers where they were. Assumes nothing.
use mathlib.Core.Path.{◌≡◌, refl}
use mathlib.Core.Bool.{true, false, not}
use mathlib.Core.List.{List, [], ◌∷◌}
use mathlib.Core.Logic.{inr}
use Rattle.std.specs.Prelude.{Option, None, Some}
use Prim.Native.Nat.{ℕ, ◌+◌, ◌-◌, ◌≤◌}
use native.Mathlib.Omega.{arith}
use borrow.Author.Tests.{eqb-true}
use lib.Dec.{eqb}
use lib.ListN.{length}
use Rattle.lists.proofs.Below.{by_test, true≢false, both_left, both_right, both_true}
use Rattle.catalogue.specs.Plain.{Row}
use Rattle.lists.specs.Every.{every}
use Rattle.bindings.specs.Fit.{fit}
use Rattle.bindings.specs.declared.Column.{Column}
use Rattle.bindings.specs.Plain.{Bindings, bindings}
use Rattle.table.specs.Seat.{Cursor, Seat, cursor_in, with_cursor, rebound, moved}
use Rattle.table.specs.Well.{tidy, cursor_below, seat_below}
use Rattle.table.specs.Fits.{CursorFits, CursorOk, SeatOk}
use Rattle.refusal.specs.Refusal.{first_cause}
use Rattle.fetch.specs.Request.{request}
use Rattle.fetch.specs.declared.Request.{Request}
use Rattle.fetch.proofs.Ranges.{request_sound}
use Rattle.fetch.specs.Fetch.{sent, fetched}
use Rattle.fetch.proofs.Sending.{sent_left, sound_inside}
use Rattle.message.specs.Message.{msg_of, kind_of, handle_of, gate_causes, body_causes, body_of, seat_causes, no_bindings, unfit, bound_to, rows_done, done_on, seat_message}
use Rattle.table.specs.Open.{is_open}
use Rattle.refusal.proofs.First.{first_both}
use Rattle.message.proofs.Answering.{gate_numbered}
use Rattle.message.proofs.Tidy.{bindings_tidy}

-- what holds of each cursor of a seat
module _ (P : Option Cursor → Type 0) (none_is : P None) where
  abbrev Both : Option Seat → Type 0
  Both None = Unit {0}
  Both (Some s) = P s.first × P s.second

  cursor_of_lem : (s : Seat) (handle : ℕ) → Both (Some s) → P (cursor_in s handle)
  cursor_of_lem s handle w =
      by_test (eqb handle 1)
      (λ q. rw q w.0)
      (λ q. rw q (by_test (eqb handle 2) (λ k. rw k w.1) (λ k. rw k none_is)))

  put_of : (s : Seat) (handle : ℕ) (o : Option Cursor) → Both (Some s) → P o → Both (Some (with_cursor s handle o))
  put_of s handle o w h = by_test (eqb handle 1) (λ q. rw q (h, w.1)) (λ q. rw q (w.0, h))

  -- it holds of what a message leaves where it holds before, of a cursor with other bindings that fit, and of one that is moved
  -- within its selection
  module _ (bound : (c : Cursor) (width : ℕ) (columns : List Column) → P (Some c) → fit width columns ≡ true → every tidy columns ≡ true
      → P (Some (rebound c width columns)))
      (moves : (c : Cursor) (k : ℕ) → P (Some c) → k ≤ length c.selection - c.position → P (Some (moved c (c.position + k))))
      (rows : List Row) where
    bound_of : (s : Seat) (m : List ℕ) (o : Option Cursor) (x : Option Bindings) → bindings m ≡ x → unfit x ≡ false → Both (Some s) → P o
        → Both (Some (bound_to s (handle_of m) o x))
    bound_of s m None x e f w h = w
    bound_of s m (Some c) None e f w h = w
    bound_of s m (Some c) (Some x) e f w h =
        put_of s (handle_of m) (Some (rebound c x.width x.columns)) w
        (bound c x.width x.columns h (fits f) (bindings_tidy m x e))
      where
        fits : not (fit x.width x.columns) ≡ false → fit x.width x.columns ≡ true
        fits q = by_test (fit x.width x.columns) (λ k. k) (λ k. absurd (true≢false (rw k at q)))

    fetched_of : (s : Seat) (m : List ℕ) (o : Option Cursor) (x : Option Request) → request m ≡ x → Both (Some s) → P o
        → Both (rows_done rows s (handle_of m) o x).after
    fetched_of s m None x e w h = w
    fetched_of s m (Some c) None e w h = w
    fetched_of s m (Some c) (Some q) e w h =
        put_of s (handle_of m) (Some (fetched rows c q)) w
        (moves c (sent rows c q) h (sent_left rows c q (sound_inside q (request_sound m q e))))

    done_of : (kind : ℕ) (s : Seat) (m : List ℕ) → first_cause (body_causes rows kind s m) ≡ 0 → Both (Some s) → Both (done_on rows kind s m).after
    unfolding first_cause
    done_of kind s m e w =
        by_test (eqb kind 0)
        (λ q. rw q tt)
        (λ q.
        by_test (eqb kind 1)
        (λ k. rw (q, k) (put_of s (handle_of m) None w none_is))
        (λ k.
        by_test (eqb kind 2)
        (λ l. rw (q, k, l) (fetched_of s m (cursor_in s (handle_of m)) (request m) refl w (cursor_of_lem s (handle_of m) w)))
        (λ l.
        rw (q, k, l)
        (bound_of s m (cursor_in s (handle_of m)) (bindings m) refl (fit_told (rw (q, k, l) at e)) w (cursor_of_lem s (handle_of m) w)))))
      where
        fit_told : first_cause ((9, no_bindings (bindings m)) ∷ (10, not (is_open (cursor_in s (handle_of m)))) ∷ (12, unfit (bindings m)) ∷ []) ≡ 0 → unfit (bindings m) ≡ false
        fit_told c =
            let r : first_cause ((12, unfit (bindings m)) ∷ []) ≡ 0
            = (first_both ((9, no_bindings (bindings m)) ∷ (10, not (is_open (cursor_in s (handle_of m)))) ∷ []) ((12, unfit (bindings m)) ∷ [])
            ((λ z. omega arith), ((λ z. omega arith), tt)) c).1 in
            by_test (unfit (bindings m)) (λ k. absurd (let z : ◌≡◌ {A = ℕ} 12 0 = rw k at r in omega arith)) (λ k. k)

    pub message_keeps : (held : Option Seat) (m : List ℕ) → Both held → Both (seat_message rows held m).after
    unfolding seat_message
    message_keeps None m w = by_test (eqb (first_cause (seat_causes rows None m)) 0) (λ q. rw q tt) (λ q. rw q tt)
    message_keeps (Some s) m w =
        by_test (eqb (first_cause (seat_causes rows (Some s) m)) 0)
        (λ q.
        rw q
        (done_of (kind_of (msg_of m)) s m
        (first_both (gate_causes (Some s) m) (body_of rows (Some s) m) (gate_numbered (Some s) m) (eqb-true (first_cause (seat_causes rows (Some s) m)) 0 q)).1
        w))
        (λ q. rw q w)

-- so a message keeps a seat fit
rebound_fits : (c : Cursor) (width : ℕ) (columns : List Column) → CursorFits c → fit width columns ≡ true → every tidy columns ≡ true
    → CursorFits (rebound c width columns)
rebound_fits c width columns f b t = record { position = f.position; rows = f.rows; rising = f.rising; bound = inr b; tidied = t }

moved_fits : (c : Cursor) (k : ℕ) → CursorFits c → k ≤ length c.selection - c.position → CursorFits (moved c (c.position + k))
moved_fits c k f h =
    record { position = omega (arith, f.position); rows = f.rows; rising = f.rising; bound = f.bound; tidied = f.tidied }

pub message_fits : (rows : List Row) (held : Option Seat) (m : List ℕ) → SeatOk held → SeatOk (seat_message rows held m).after
message_fits rows held m f =
    out (seat_message rows held m).after (message_keeps CursorOk tt rebound_fits moved_fits rows held m (into held f))
  where
    into : (o : Option Seat) → SeatOk o → Both CursorOk tt o
    into None w = tt
    into (Some s) w = w

    out : (o : Option Seat) → Both CursorOk tt o → SeatOk o
    out None w = tt
    out (Some s) w = w

-- and its row numbers below a bound
pub message_below : (bound : ℕ) (rows : List Row) (held : Option Seat) (m : List ℕ) → seat_below bound held ≡ true
    → seat_below bound (seat_message rows held m).after ≡ true
message_below bound rows held m f =
    out (seat_message rows held m).after
    (message_keeps (λ o. cursor_below bound o ≡ true) refl (λ c width columns h b t. h) (λ c k h l. h) rows held m (into held f))
  where
    into : (o : Option Seat) → seat_below bound o ≡ true → Both (λ o. cursor_below bound o ≡ true) refl o
    into None w = tt
    into (Some s) w = (both_left _ (cursor_below bound s.second) w, both_right (cursor_below bound s.first) _ w)

    out : (o : Option Seat) → Both (λ o. cursor_below bound o ≡ true) refl o → seat_below bound o ≡ true
    out None w = refl
    out (Some s) w = both_true (cursor_below bound s.first) (cursor_below bound s.second) w.0 w.1
