-- What the other accepted calls answer and leave (01, "Refusal numbers, in order of test", and "Bindings").
use Rattle.std.specs.Prelude.{◌≡◌, List, [], ◌++◌, ℕ, Option, None, Some}
use Rattle.wire.specs.Word.{le}
use Rattle.wire.specs.Laid.{four_words}
use Rattle.table.specs.Seat.{Seat}
use Rattle.message.specs.Message.{msg_of}
use Rattle.promises.specs.Client.{version_of}
use Rattle.table.specs.Open.{still_open}
use Rattle.wire.specs.Header.{disconnect_msg, free_cursor_msg, set_bindings_msg}

-- an accepted message, by its seat before and after and its reply: "Disconnect .. closes both cursors, leaves the seat unconnected and
-- writes nothing. Free cursor['s] .. reply is _msg, three zero words and the seat's count of cursors still open"; of bindings "the reply is
-- 16 bytes: _msg, zero, zero, zero". Any other message than a disconnect leaves the seat connected, with the version that it had. What
-- becomes of the cursors is told in Client.antt.
pub record Done (m : List ℕ) (before after : Option Seat) (reply : List ℕ) : Type 0 where
  pub left : msg_of m ≡ disconnect_msg → (after ≡ None) × (reply ≡ [])
  pub freed : msg_of m ≡ free_cursor_msg → (s : Seat) × (after ≡ Some s) × (reply ≡ four_words free_cursor_msg 0 0 0 ++ le 4 (still_open s))
  pub bound : msg_of m ≡ set_bindings_msg → reply ≡ four_words set_bindings_msg 0 0 0
  pub version : (msg_of m ≡ disconnect_msg → ⊥) → (s : Seat) × (before ≡ Some s) × (version_of after ≡ Some s.version)
