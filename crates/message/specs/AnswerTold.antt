-- What a message's function answers and leaves.
use Rattle.std.specs.Prelude.{◌≡◌, Bool, not, List, [], ◌∷◌, ◌++◌, ℕ, length, drop, get_or, Option, None, Some, Result, Err}
use Rattle.catalogue.specs.Plain.{Row}
use Rattle.table.specs.Seat.{seat_words, seat_of}
use Rattle.message.specs.Message.{SeatOutcome, seat_message, count_of}
use Rattle.message.specs.declared.Kind.{Kind}
use Rattle.message.specs.declared.Kind.TheVariants.{Disconnect, FreeCursor, GetRows, SetBindings}
use Rattle.wire.specs.Laid.{lay, four_words}
use Rattle.refusal.specs.declared.Refusal.{Refusal}
use Rattle.refusal.specs.declared.Refusal.TheVariants.{NotServed}
use Rattle.refusal.specs.Refusal.{status_of}
use Rattle.refusal.specs.Numbers.{refusal_number, refusing, number_of}

-- the kind that has a number, if one has
abbrev pub kind_at : ℕ → Option Kind
kind_at n = get_or (Some Disconnect ∷ Some FreeCursor ∷ Some GetRows ∷ Some SetBindings ∷ []) n None

-- the kind of a message that no cause refuses
abbrev pub gated : Option Kind → ℕ → Result Kind Refusal
gated None n = Err NotServed
gated (Some kind) n = refusing n kind

-- the answer is the outcome's, the words are the seat's afterwards, and the buffer is unchanged past the reply
pub record Answers (o : SeatOutcome) (r : Result ℕ Refusal) (words entry exit : List ℕ) : Type 0 where
  pub refused : number_of r ≡ o.refusal
  pub counted : count_of r ≡ length o.reply
  pub kept : words ≡ seat_words o.after
  pub written : exit ≡ o.reply ++ drop (length o.reply) entry

-- a message that sends no rows is answered so whatever rows the catalogue has
abbrev pub AnswersAny : List ℕ → List ℕ → Result ℕ Refusal → List ℕ → List ℕ → List ℕ → Type 0
AnswersAny b m r words entry exit = (rows : List Row) → Answers (seat_message rows (seat_of b) m) r words entry exit

-- what was found of set bindings: its body is malformed, its handle is open, its columns fit
abbrev pub bindings_found : Bool → Bool → Bool → List (ℕ × Bool)
bindings_found malformed opens fits = (9, malformed) ∷ (10, not opens) ∷ (12, not fits) ∷ []

-- a refusal from 6 on: "the reply is 16 bytes: _msg, the status, zero, zero". The answer is its number and the count of these bytes.
pub record Refuses (msg refusal : ℕ) (r : ℕ × ℕ) (entry exit : List ℕ) : Type 0 where
  pub answered : r ≡ (refusal, 16)
  pub written : exit ≡ lay entry 0 (four_words msg (status_of refusal) 0 0)

-- the same of a cause, answered as a fault
pub record RefusesFor (msg : ℕ) (cause : Refusal) (r : Result ℕ Refusal) (entry exit : List ℕ) : Type 0 where
  pub answered : r ≡ Err cause
  pub written : exit ≡ lay entry 0 (four_words msg (status_of (refusal_number cause)) 0 0)
