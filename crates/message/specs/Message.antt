-- What a message does to its seat (01, "Header and checksum", the refusal table, "Bindings", "Rows" and the paragraph on
-- disconnect and free cursor).
use Rattle.std.specs.Prelude.{Bool, true, false, not, List, [], ◌∷◌, ◌++◌, ℕ, zero, suc, ◌+◌, ◌*◌, leb, ltb, eqb, length, get_or, Option, None, Some, Result, Ok, Err}
use Rattle.lists.specs.Below.{pick, both}
use Rattle.wire.specs.Word.{number_at, le}
use Rattle.wire.specs.Checksum.{checksum}
use Rattle.catalogue.specs.Plain.{Row}
use Rattle.bindings.specs.Fit.{fit}
use Rattle.bindings.specs.Plain.{Bindings, bindings}
use Rattle.wire.specs.Laid.{four_words}
use Rattle.table.specs.Seat.{Cursor, Seat, cursor_in, with_cursor, rebound}
use Rattle.refusal.specs.declared.Refusal.{Refusal}
use Rattle.refusal.specs.Refusal.{first_cause, status_of}
use Rattle.refusal.specs.Numbers.{refusal_number}
use Rattle.message.specs.declared.Kind.{Kind}
use Rattle.message.specs.declared.Kind.TheVariants.{Disconnect, FreeCursor, GetRows, SetBindings}
use Rattle.fetch.specs.Request.{request}
use Rattle.fetch.specs.Asking.{asking, asking_numbered}
use Rattle.fetch.specs.declared.Request.{Request}
use Rattle.fetch.specs.Fetch.{fetch_causes, fetch_reply, fetched}
use Rattle.table.specs.Open.{is_open, still_open}
use Rattle.wire.specs.Header.{header_size, msg_at, checksum_at, disconnect_msg, free_cursor_msg, get_rows_msg, set_bindings_msg, handle_at}

-- the messages served, each its number and whether its checksum is tested: "disconnect 0xC9, free cursor 0xCB, get rows 0xCC,
-- set bindings 0xD0", "the checksum of get rows and set bindings is tested (..); other messages are not"
abbrev pub message_table : List ℕ
message_table = disconnect_msg ∷ 0 ∷ free_cursor_msg ∷ 0 ∷ get_rows_msg ∷ 1 ∷ set_bindings_msg ∷ 1 ∷ []

abbrev pub kinds : ℕ
kinds = 4

-- the four kinds by name
abbrev pub disconnects : ℕ
disconnects = 0

abbrev pub frees : ℕ
frees = 1

abbrev pub fetches : ℕ
fetches = 2

abbrev pub binds : ℕ
binds = 3

-- a kind's number
abbrev pub kind_number : Kind → ℕ
kind_number Disconnect = disconnects
kind_number FreeCursor = frees
kind_number GetRows = fetches
kind_number SetBindings = binds

-- the kind of a message is its place among those; one that is not served has the count of kinds
unfoldable pub kind_from : ℕ → ℕ → ℕ → ℕ
kind_from zero k msg = k
kind_from (suc left) k msg = pick (eqb (get_or message_table (2 * k) 0) msg) k (kind_from left (k + 1) msg)

abbrev pub kind_of : ℕ → ℕ
kind_of msg = kind_from kinds 0 msg

abbrev pub served : ℕ → Bool
served msg = ltb (kind_of msg) kinds

abbrev pub tested : ℕ → Bool
tested kind = eqb (get_or message_table (2 * kind + 1) 0) 1

-- the words of a request that are judged: "A request's _status and _ulReserved2 aren't judged"
abbrev pub msg_of : List ℕ → ℕ
msg_of m = number_at 4 m msg_at

abbrev pub handle_of : List ℕ → ℕ
handle_of m = number_at 4 m handle_at

-- "For a client version of 8 or above the checksum .. is tested"
abbrev pub checksum_wrong : ℕ → ℕ → List ℕ → Bool
checksum_wrong version kind m = both (both (leb 8 version) (tested kind)) (not (eqb (number_at 4 m checksum_at) (checksum m)))

-- "handle not open on this seat"
abbrev pub not_open : Seat → List ℕ → ℕ × Bool
not_open s m = (10, not (is_open (cursor_in s (handle_of m))))

-- 9 "body malformed", for set bindings
abbrev pub no_bindings : Option Bindings → Bool
no_bindings None = true
no_bindings (Some b) = false

-- 12 "bindings unfit", of a body that reads
abbrev pub unfit : Option Bindings → Bool
unfit None = false
unfit (Some b) = not (fit b.width b.columns)

-- 9 "body malformed", for get rows: the number that the reader's answer has
abbrev pub unasked : Option Request → Bool
unasked q = eqb (asking_numbered (asking q)).number 9

-- 11, 12, 13 and 15, of a body that reads and an open cursor
abbrev pub rows_causes : List Row → Option Cursor → Option Request → List (ℕ × Bool)
rows_causes rows None q = []
rows_causes rows (Some c) None = []
rows_causes rows (Some c) (Some q) = fetch_causes rows c q

-- 9 and after it, by kind: "Disconnect (empty body)", "Free cursor has a body of exactly 4 bytes", get rows, set bindings
abbrev pub body_causes : List Row → ℕ → Seat → List ℕ → List (ℕ × Bool)
body_causes rows kind s m =
    pick (eqb kind disconnects) ((9, not (eqb (length m) header_size)) ∷ [])
    (pick (eqb kind frees) ((9, not (eqb (length m) (header_size + 4))) ∷ not_open s m ∷ [])
    (pick (eqb kind fetches) ((9, unasked (request m)) ∷ not_open s m ∷ rows_causes rows (cursor_in s (handle_of m)) (request m))
    ((9, no_bindings (bindings m)) ∷ not_open s m ∷ (12, unfit (bindings m)) ∷ [])))

-- 6 "message number not served", 7 "anything else on an unconnected one", 8 "checksum tested and wrong"
abbrev pub gate_causes : Option Seat → List ℕ → List (ℕ × Bool)
gate_causes None m = (6, not (served (msg_of m))) ∷ (7, true) ∷ []
gate_causes (Some s) m = (6, not (served (msg_of m))) ∷ (7, false) ∷ (8, checksum_wrong s.version (kind_of (msg_of m)) m) ∷ []

-- an unconnected seat is refused before
abbrev pub body_of : List Row → Option Seat → List ℕ → List (ℕ × Bool)
body_of rows None m = []
body_of rows (Some s) m = body_causes rows (kind_of (msg_of m)) s m

-- all causes from 6 on, in order
abbrev pub seat_causes : List Row → Option Seat → List ℕ → List (ℕ × Bool)
seat_causes rows held m = gate_causes held m ++ body_of rows held m

-- what a message leaves of its seat: its answer, its reply, and the seat
pub record SeatOutcome : Type 0 where
  pub refusal : ℕ
  pub reply : List ℕ
  pub after : Option Seat

-- "From 6 on .. the reply is 16 bytes: _msg, the status, zero, zero. No refusal changes the table."
abbrev pub refused_on : ℕ → Option Seat → List ℕ → SeatOutcome
refused_on n held m = record { refusal = n; reply = four_words (msg_of m) (status_of n) 0 0; after = held }

-- the count of reply bytes of an answer: "Numbers 1 to 5 write nothing", from 6 on a refusal writes the header
abbrev pub count_of : Result ℕ Refusal → ℕ
count_of (Ok count) = count
count_of (Err r) = pick (leb 6 (refusal_number r)) header_size 0

-- a seat without the cursor that the message names
abbrev pub freed : Seat → List ℕ → Seat
freed s m = with_cursor s (handle_of m) None

-- a seat whose cursor under a handle has the bindings that were read
abbrev pub bound_to : Seat → ℕ → Option Cursor → Option Bindings → Seat
bound_to s handle None b = s
bound_to s handle (Some c) None = s
bound_to s handle (Some c) (Some b) = with_cursor s handle (Some (rebound c b.width b.columns))

-- a seat that rows were sent to: the reply, and the cursor moved (without a request or a cursor it is refused before)
abbrev pub rows_done : List Row → Seat → ℕ → Option Cursor → Option Request → SeatOutcome
rows_done rows s handle (Some c) (Some q) =
    record { refusal = 0; reply = fetch_reply rows c q; after = Some (with_cursor s handle (Some (fetched rows c q))) }
rows_done rows s handle None q = record { refusal = 0; reply = []; after = Some s }
rows_done rows s handle (Some c) None = record { refusal = 0; reply = []; after = Some s }

-- disconnect "closes both cursors, leaves the seat unconnected and writes nothing"; free cursor's "reply is _msg, three zero
-- words and the seat's count of cursors still open, 20 bytes"; get rows; "Accepted bindings replace the old; .. the reply is 16
-- bytes: _msg, zero, zero, zero"
abbrev pub done_on : List Row → ℕ → Seat → List ℕ → SeatOutcome
done_on rows kind s m =
    pick (eqb kind disconnects) (record { refusal = 0; reply = []; after = None })
    (pick (eqb kind frees)
    (record { refusal = 0; reply = four_words (msg_of m) 0 0 0 ++ le 4 (still_open (freed s m)); after = Some (freed s m) })
    (pick (eqb kind fetches)
    (rows_done rows s (handle_of m) (cursor_in s (handle_of m)) (request m))
    (record {
      refusal = 0;
      reply = four_words (msg_of m) 0 0 0;
      after = Some (bound_to s (handle_of m) (cursor_in s (handle_of m)) (bindings m));
    })))

-- a message that is not refused is one of a connected seat: the first case never comes up
abbrev pub done_by : List Row → Option Seat → List ℕ → SeatOutcome
done_by rows None m = refused_on 7 None m
done_by rows (Some s) m = done_on rows (kind_of (msg_of m)) s m

-- a message on its seat, with the catalogue's rows: the first cause that applies is its refusal; where none does, what its kind
-- does
unfoldable pub seat_message : List Row → Option Seat → List ℕ → SeatOutcome
seat_message rows held m =
    pick (eqb (first_cause (seat_causes rows held m)) 0)
    (done_by rows held m)
    (refused_on (first_cause (seat_causes rows held m)) held m)
