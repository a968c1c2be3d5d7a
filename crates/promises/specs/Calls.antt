-- Calls one after another, from all seats, over one table and one unchanged catalogue (demand 3: "Under any calls from all
-- eight seats").
use Rattle.std.specs.Prelude.{List, [], ◌∷◌, ℕ, replicate}
use Rattle.table.specs.Layout.{table_size}
use Rattle.call.specs.Step.{Sources, Outcome, connect_step, open_step, message_step}

-- a call of the server with its arguments; of a message's reply buffer its length
pub data Call : Type 0 where
  connecting : (seat version : ℕ) → Call
  opening : (seat : ℕ) (tree : List ℕ) → Call
  messaging : (seat : ℕ) (message : List ℕ) (room : ℕ) → Call

abbrev pub seat_of_call : Call → ℕ
seat_of_call (connecting seat version) = seat
seat_of_call (opening seat tree) = seat
seat_of_call (messaging seat m room) = seat

-- what it does: exactly what the contract of `call_connect::connect`, `call_open::open` or `call_message::message` cites
abbrev pub step : Sources → List ℕ → Call → Outcome
step src t (connecting seat version) = connect_step src t seat version
step src t (opening seat tree) = open_step src t seat tree
step src t (messaging seat m room) = message_step src t seat m room

-- what a caller sees of it beside the table: the refusal, the handle, and the bytes written
pub record Answer : Type 0 where
  pub refusal : ℕ
  pub handle : ℕ
  pub reply : List ℕ

abbrev pub answer_of : Outcome → Answer
answer_of o = record { refusal = o.refusal; handle = o.handle; reply = o.reply }

-- a call and its answer
pub record Event : Type 0 where
  pub call : Call
  pub answer : Answer

-- the calls of a list in order, from a table on: each with its answer, and the table afterwards
unfoldable pub history : Sources → List ℕ → List Call → List Event
history src t [] = []
history src t (c ∷ calls) = record { call = c; answer = answer_of (step src t c) } ∷ history src (step src t c).words calls

unfoldable pub after : Sources → List ℕ → List Call → List ℕ
after src t [] = t
after src t (c ∷ calls) = after src (step src t c).words calls

-- "docs/ fixes .. the fresh table": all words zero
unfoldable pub fresh_table : List ℕ
fresh_table = replicate table_size 0
