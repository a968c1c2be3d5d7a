-- The causes of each call's refusals, in one list (01, "Refusal numbers, in order of test").
use Rattle.std.specs.Prelude.{◌≡◌, Bool, true, false, List, [], ◌∷◌, ◌++◌, ℕ, ◌<◌, ltb, length, get_or, Option}
use Rattle.lists.specs.Below.{pick}
use Rattle.wire.specs.Laid.{four_words}
use Rattle.table.specs.Seat.{Seat}
use Rattle.refusal.specs.Refusal.{status_of}
use Rattle.catalogue.specs.Plain.{rows_of}
use Rattle.message.specs.Message.{msg_of, seat_causes}
use Rattle.query.specs.Open.{open_causes}
use Rattle.call.specs.Step.{Sources, Outcome, judging, seat_held, is_connected, sizing}
use Rattle.promises.specs.Calls.{Call, connecting, opening, messaging, seat_of_call}

-- what is judged of a call's arguments and of its seat, each cause its number and whether it applies
abbrev pub causes_on : Sources → Option Seat → Call → List (ℕ × Bool)
causes_on src held (connecting seat version) = (7, is_connected held) ∷ []
causes_on src held (opening seat tree) = open_causes held tree
causes_on src held (messaging seat m room) = sizing m room ++ seat_causes (rows_of src.rows) held m

-- every cause that the call judges
abbrev pub causes_of : Sources → List ℕ → Call → List (ℕ × Bool)
causes_of src t c = judging src t (seat_of_call c) ++ causes_on src (seat_held t (seat_of_call c)) c

-- the i-th cause; past the end, one that does not apply
abbrev pub cause : List (ℕ × Bool) → ℕ → ℕ × Bool
cause causes i = get_or causes i (0, false)

-- "The first that applies is given": there is a cause with this number that applies, and none before it does
pub record Given (n : ℕ) (causes : List (ℕ × Bool)) : Type 0 where
  pub place : ℕ
  pub inside : place < length causes
  pub number : (cause causes place).0 ≡ n
  pub applies : (cause causes place).1 ≡ true
  pub first : (i : ℕ) → i < place → (cause causes i).1 ≡ false

-- none applies
abbrev pub NoneApplies : List (ℕ × Bool) → Type 0
NoneApplies causes = (i : ℕ) → (cause causes i).1 ≡ false

-- their numbers rise, from above a number on: none stands twice
abbrev pub Risen : ℕ → List (ℕ × Bool) → Type 0
Risen n [] = Unit {0}
Risen n (c ∷ causes) = (n < c.0) × Risen c.0 causes

-- "opening also [returns] the handle .., a message also its count of reply bytes", whether refused or not: no other call gives a handle,
-- and none but a message writes
abbrev pub OwnAnswer : Call → Outcome → Type 0
OwnAnswer (connecting seat version) o = (o.handle ≡ 0) × (o.reply ≡ [])
OwnAnswer (opening seat tree) o = o.reply ≡ []
OwnAnswer (messaging seat m room) o = o.handle ≡ 0

-- "Numbers 1 to 5 write nothing. From 6 on, where a message was sent, the reply is 16 bytes: _msg, the status, zero, zero."
abbrev pub refusal_reply : Call → ℕ → List ℕ
refusal_reply (connecting seat version) n = []
refusal_reply (opening seat tree) n = []
refusal_reply (messaging seat m room) n = pick (ltb n 6) [] (four_words (msg_of m) (status_of n) 0 0)

-- what a refused call leaves: no handle, the table as it was, and that reply
pub record Refused (t : List ℕ) (c : Call) (o : Outcome) : Type 0 where
  pub handle : o.handle ≡ 0
  pub words : o.words ≡ t
  pub reply : o.reply ≡ refusal_reply c o.refusal
