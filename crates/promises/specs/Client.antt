-- What a client's own calls and their answers tell of its seat and its cursors, without a look at the table.
use Rattle.std.specs.Prelude.{◌≡◌, Bool, List, [], ◌∷◌, ◌⊎◌, ℕ, ◌+◌, eqb, Option, None, Some}
use Rattle.lists.specs.Below.{pick, both}
use Rattle.wire.specs.Word.{number_at}
use Rattle.bindings.specs.Plain.{Bindings, bindings}
use Rattle.tree.specs.Reader.{restriction}
use Rattle.tree.specs.Select.{selected_by}
use Rattle.table.specs.Seat.{Cursor, Seat, cursor_in, opened, rebound, moved}
use Rattle.message.specs.Message.{msg_of, handle_of}
use Rattle.call.specs.Step.{Sources, seat_held}
use Rattle.promises.specs.Calls.{Call, connecting, opening, messaging, Answer, Event}
use Rattle.wire.specs.Header.{disconnect_msg, free_cursor_msg, get_rows_msg}

-- "handles 1 and 2"
abbrev pub Handle : ℕ → Type 0
Handle handle = (handle ≡ 1) ⊎ (handle ≡ 2)

-- whether a call of a seat was accepted
abbrev pub accepted : ℕ → ℕ → Answer → Bool
accepted seat k a = both (eqb k seat) (eqb a.refusal 0)

-- all calls and answers in order, each of which changes what is known
unfoldable pub told : {A : Type 0} → (A → Call → Answer → A) → A → List Event → A
told next known [] = known
told next known (e ∷ events) = told next (next known e.call e.answer) events

-- what is known of an open cursor, and how it goes on: the tree of its opening begins it, a request for rows with its reply and
-- bindings change it
pub record Account (A : Type 0) : Type 0 where
  pub begins : List ℕ → A
  pub carries : List ℕ → List ℕ → A → A
  pub binds : Bindings → A → A

-- something that is known of a cursor, if there is one
abbrev pub changed : {A : Type 0} → (A → A) → Option A → Option A
changed f None = None
changed f (Some c) = Some (f c)

abbrev pub bound : {A : Type 0} → (Bindings → A → A) → Option Bindings → A → A
bound f None c = c
bound f (Some b) c = f b c

-- what an accepted message makes of the cursor that it names: free cursor, get rows, set bindings
abbrev pub after_named : {A : Type 0} → Account A → List ℕ → List ℕ → Option A → Option A
after_named f m reply c =
    pick (eqb (msg_of m) free_cursor_msg) None
    (pick (eqb (msg_of m) get_rows_msg) (changed (f.carries m reply) c) (changed (bound f.binds (bindings m)) c))

-- and of the cursor under a handle of its seat: disconnect closes both
abbrev pub after_message : {A : Type 0} → Account A → ℕ → List ℕ → List ℕ → Option A → Option A
after_message f handle m reply c =
    pick (eqb (msg_of m) disconnect_msg) None (pick (eqb (handle_of m) handle) (after_named f m reply c) c)

-- what a call and its answer make of the cursor under a handle of a seat: a refused call and one of another seat leave it; an
-- opening that was given the handle begins it anew
abbrev pub after_call : {A : Type 0} → Account A → ℕ → ℕ → Option A → Call → Answer → Option A
after_call f seat handle c (connecting k version) a = c
after_call f seat handle c (opening k tree) a =
    pick (both (accepted seat k a) (eqb a.handle handle)) (Some (f.begins tree)) c
after_call f seat handle c (messaging k m room) a = pick (accepted seat k a) (after_message f handle m a.reply c) c

-- the cursor itself: the rows that the tree of its opening selects, at position 0 and without bindings; "_cRowsReturned", the word at 16 of
-- a reply, is added to what was carried (01: "A row is carried when _cRowsReturned counts it"); "Accepted bindings replace the old; the
-- position stays"
abbrev pub cursor_account : Sources → Account Cursor
cursor_account src =
    record {
      begins = λ tree. opened (selected_by (restriction tree) src.rows);
      carries = λ m reply c. moved c (c.position + number_at 4 reply 16);
      binds = λ b c. rebound c b.width b.columns;
    }

-- the cursor under a handle of a seat after some events, from the one before them
abbrev pub cursor_told : Sources → ℕ → ℕ → Option Cursor → List Event → Option Cursor
cursor_told src seat handle c events = told (after_call (cursor_account src) seat handle) c events

-- the client version of a connected seat: an accepted connecting gives it, an accepted disconnect ends it, no other call changes it
abbrev pub version_after : ℕ → Option ℕ → Call → Answer → Option ℕ
version_after seat version (connecting k new) a = pick (accepted seat k a) (Some new) version
version_after seat version (opening k tree) a = version
version_after seat version (messaging k m room) a = pick (accepted seat k a) (pick (eqb (msg_of m) disconnect_msg) None version) version

-- whether a seat is connected, and with which version
abbrev pub seat_told : ℕ → Option ℕ → List Event → Option ℕ
seat_told seat version events = told (version_after seat) version events

-- the seat with all that is told of it
abbrev pub seat_from : Option ℕ → Option Cursor → Option Cursor → Option Seat
seat_from None first second = None
seat_from (Some version) first second = Some (record { version = version; first = first; second = second })

abbrev pub whole_seat_told : Sources → ℕ → List Event → Option Seat
whole_seat_told src seat events =
    seat_from (seat_told seat None events) (cursor_told src seat 1 None events) (cursor_told src seat 2 None events)

-- the version and the cursor under a handle that a table holds
abbrev pub version_of : Option Seat → Option ℕ
version_of None = None
version_of (Some s) = Some s.version

abbrev pub cursor_by : Option Seat → ℕ → Option Cursor
cursor_by None handle = None
cursor_by (Some s) handle = cursor_in s handle

abbrev pub held_cursor : List ℕ → ℕ → ℕ → Option Cursor
held_cursor t seat handle = cursor_by (seat_held t seat) handle
