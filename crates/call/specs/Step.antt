-- What a call does: a step from the sources and the table to an outcome.
use Rattle.std.specs.Prelude.{◌≡◌, Bool, true, false, not, List, [], ◌∷◌, ◌++◌, ℕ, ltb, eqb, length, drop, Option, None, Some, Result}
use Rattle.lists.specs.Below.{pick}
use Rattle.wire.specs.Checksum.{message_sized}
use Rattle.catalogue.specs.Plain.{Row, catalogue, rows_of}
use Rattle.table.specs.Layout.{seat_size, seat_at, seat_part}
use Rattle.lists.specs.Parts.{put}
use Rattle.table.specs.Seat.{Seat, seat_words, seat_of, fresh}
use Rattle.table.specs.Well.{table_well, table_below}
use Rattle.table.specs.declared.Handle.{Handle}
use Rattle.refusal.specs.declared.Refusal.{Refusal}
use Rattle.refusal.specs.Refusal.{first_cause}
use Rattle.refusal.specs.Numbers.{number_of}
use Rattle.message.specs.Message.{SeatOutcome, seat_message, count_of}
use Rattle.query.specs.Open.{free_handle, handle_in, open_causes, opened_on}
use Rattle.wire.specs.Header.{message_most}

-- what a call reads beside the table: the rows of the catalogue, none where it is malformed
pub record Sources : Type 0 where
  pub rows : Option (List Row)

abbrev pub sources_of : List ℕ → Sources
sources_of bytes = record { rows = catalogue bytes }

-- "Every call returns the refusal number, else 0; opening also the handle (0 if refused), a message also its count of reply
-- bytes": the bytes written, and the table's words afterwards
pub record Outcome : Type 0 where
  pub refusal : ℕ
  pub handle : ℕ
  pub reply : List ℕ
  pub words : List ℕ

-- an outcome as a function's answer and as what it leaves: a message's buffer is unchanged past the bytes written
pub record Keeps (o : Outcome) (refusal handle count : ℕ) (words entry exit : List ℕ) : Type 0 where
  pub refused : refusal ≡ o.refusal
  pub given : handle ≡ o.handle
  pub counted : count ≡ length o.reply
  pub kept : words ≡ o.words
  pub written : exit ≡ o.reply ++ drop (length o.reply) entry

-- the same of what connecting, opening and a message answer
abbrev pub ConnectKeeps : Outcome → Result Unit Refusal → List ℕ → Type 0
ConnectKeeps o r words = Keeps o (number_of r) 0 0 words [] []

abbrev pub OpenKeeps : Outcome → Result Handle Refusal → List ℕ → Type 0
OpenKeeps o r words = Keeps o (number_of r) (handle_in r) 0 words [] []

abbrev pub MessageKeeps : Outcome → Result ℕ Refusal → List ℕ → List ℕ → List ℕ → Type 0
MessageKeeps o r words entry exit = Keeps o (number_of r) 0 (count_of r) words entry exit

-- nothing is written
abbrev pub quiet : ℕ → List ℕ → Outcome
quiet refusal words = record { refusal = refusal; handle = 0; reply = []; words = words }

-- refusal 3: "catalogue malformed, or an open cursor's row number not below its row count"
abbrev pub rows_hold : Option (List Row) → List ℕ → Bool
rows_hold None t = false
rows_hold (Some rows) t = table_below (length rows) t

-- what every call judges: 1 "seat above 7", 2 "session table malformed", 3
abbrev pub judging : Sources → List ℕ → ℕ → List (ℕ × Bool)
judging src t seat = (1, ltb 7 seat) ∷ (2, not (table_well t)) ∷ (3, not (rows_hold src.rows t)) ∷ []

-- the seat that a table holds, none where it is not connected
abbrev pub seat_held : List ℕ → ℕ → Option Seat
seat_held t seat = seat_of (seat_part t seat)

-- whether it is connected
abbrev pub is_connected : Option Seat → Bool
is_connected None = false
is_connected (Some s) = true

-- the table with another seat in a seat's place; "No refusal changes the table"
abbrev pub seated : List ℕ → ℕ → Option Seat → List ℕ
seated t seat s = put t (seat_at seat) seat_size (seat_words s)

-- connecting: 7 is "connecting a connected seat"
abbrev pub connect_causes : Sources → List ℕ → ℕ → List (ℕ × Bool)
connect_causes src t seat = judging src t seat ++ ((7, is_connected (seat_held t seat)) ∷ [])

-- the seat is then a fresh one of the client's version: no cursor is open
unfoldable pub connect_step : Sources → List ℕ → ℕ → ℕ → Outcome
connect_step src t seat version =
    pick (eqb (first_cause (connect_causes src t seat)) 0)
    (quiet 0 (seated t seat (Some (fresh version))))
    (quiet (first_cause (connect_causes src t seat)) t)

-- a message: 4 "reply buffer under 16,384 bytes", 5 "message under 16 or over 16,384 bytes", and then what its seat says
abbrev pub sizing : List ℕ → ℕ → List (ℕ × Bool)
sizing m room = (4, ltb room message_most) ∷ (5, not (message_sized m)) ∷ []

-- what a message did to its seat, in the table
abbrev pub on_seat : List ℕ → ℕ → SeatOutcome → Outcome
on_seat t seat o = record { refusal = o.refusal; handle = 0; reply = o.reply; words = seated t seat o.after }

-- refused by 1 to 5 without a reply; else the answer, the reply and the seat are those of the message on its seat
unfoldable pub message_step : Sources → List ℕ → ℕ → List ℕ → ℕ → Outcome
message_step src t seat m room =
    pick (eqb (first_cause (judging src t seat ++ sizing m room)) 0)
    (on_seat t seat (seat_message (rows_of src.rows) (seat_held t seat) m))
    (quiet (first_cause (judging src t seat ++ sizing m room)) t)

-- opening: 7, 14 and 16 are judged of the seat and the tree; "opening also [returns] the handle (0 if refused)"
abbrev pub open_done : Sources → List ℕ → ℕ → List ℕ → Option Seat → Outcome
open_done src t seat tree None = quiet 7 t
open_done src t seat tree (Some s) =
    record { refusal = 0; handle = free_handle s; reply = []; words = seated t seat (Some (opened_on s tree src.rows)) }

-- refused without a reply; else a cursor is opened on the rows that the tree selects
unfoldable pub open_step : Sources → List ℕ → ℕ → List ℕ → Outcome
open_step src t seat tree =
    pick (eqb (first_cause (judging src t seat ++ open_causes (seat_held t seat) tree)) 0)
    (open_done src t seat tree (seat_held t seat))
    (quiet (first_cause (judging src t seat ++ open_causes (seat_held t seat) tree)) t)

-- the same answer, the same words, the same bytes, for every call whose statement is `Keeps` of its step
pub record Same (refusal refusal' handle handle' count count' : ℕ) (words words' exit exit' : List ℕ) : Type 0 where
  pub refused : refusal ≡ refusal'
  pub given : handle ≡ handle'
  pub counted : count ≡ count'
  pub kept : words ≡ words'
  pub written : exit ≡ exit'
