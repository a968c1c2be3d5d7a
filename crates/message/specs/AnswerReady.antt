-- What a message's function is given of its seat.
use Rattle.std.specs.Prelude.{◌≡◌, true, List, ℕ, ◌≤◌, length, get_or}
use Rattle.catalogue.specs.Plain.{catalogue, rows_of}
use Rattle.table.specs.Layout.{seat_size, connected_at}
use Rattle.table.specs.Seat.{seat_of}
use Rattle.table.specs.Well.{seat_well, seat_below}
use Rattle.catalogue.specs.CatalogueReady.{PlacesReady}
use Rattle.refusal.specs.Refusal.{first_cause}
use Rattle.message.specs.Message.{msg_of, kind_of, gate_causes}
use Rattle.wire.specs.Header.{header_size, message_most}

-- a seat's words that pass, a message and a buffer that 4 and 5 let pass
pub record MessageReady (b m reply : List ℕ) : Type 0 where
  pub size : length b ≡ seat_size
  pub well : seat_well b ≡ true
  pub least : header_size ≤ length m
  pub most : length m ≤ message_most
  pub room : message_most ≤ length reply

-- and none of 6 to 8 applies to a message of a kind
pub record AdmittedReady (b m reply : List ℕ) (msg kind : ℕ) : Type 0 where
  pub given : MessageReady b m reply
  pub connected : get_or b connected_at 0 ≡ 0 → ⊥
  pub msg_is : msg ≡ msg_of m
  pub kind_is : kind_of (msg_of m) ≡ kind
  pub gated : first_cause (gate_causes (seat_of b) m) ≡ 0

-- a catalogue that has the row numbers of the seat's cursors, and its rows at their places
pub record SourcesReady (b s places : List ℕ) : Type 0 where
  pub below : seat_below (length (rows_of (catalogue s))) (seat_of b) ≡ true
  pub placed : PlacesReady s places
