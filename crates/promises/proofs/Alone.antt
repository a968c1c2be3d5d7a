-- What a call does in a table that passes depends on its own seat alone, and changes no other. Assumes nothing.
use mathlib.Core.Path.{◌≡◌, refl, ap, subst, ◌∙◌}
use mathlib.Core.Bool.{Bool, true}
use mathlib.Core.List.{List, [], ◌∷◌, ◌++◌}
use Rattle.std.specs.Prelude.{Option, None, Some}
use Prim.Native.Nat.{ℕ, ◌<◌}
use native.Mathlib.Omega.{arith}
use borrow.Author.Tests.{le-ltb}
use lib.Dec.{eqb}
use Rattle.lists.specs.Below.{pick}
use Rattle.lists.proofs.Below.{by_test}
use Rattle.catalogue.specs.Plain.{catalogue, rows_of}
use Rattle.tree.specs.Reader.{restriction}
use Rattle.tree.specs.Select.{selected_by}
use Rattle.table.specs.Layout.{seats}
use Rattle.table.specs.Seat.{Seat, seat_words, seat_of, fresh, opened}
use Rattle.table.specs.Fits.{SeatOk}
use Rattle.table.specs.Well.{table_well}
use Rattle.table.proofs.Seats.{seat_words_lem}
use Rattle.table.proofs.Tables.{seat_same, seat_other}
use Rattle.refusal.specs.Refusal.{first_cause}
use Rattle.refusal.proofs.First.{first_go}
use Rattle.message.specs.Message.{seat_message}
use Rattle.message.proofs.Bodies.{with_fits}
use Rattle.message.proofs.Keeping.{message_fits}
use Rattle.query.specs.Open.{free_handle, open_causes, opened_on}
use Rattle.call.specs.Step.{Sources, sources_of, Outcome, judging, seat_held, is_connected, seated, sizing, connect_step, message_step, open_done, open_step}
use Rattle.call.proofs.Causes.{judging_numbered}
use Rattle.call.proofs.Passing.{selected_fits}
use Rattle.call.specs.Passing.{Passing}
use Rattle.call.proofs.Seating.{seat_ok}
use Rattle.promises.specs.Calls.{Call, connecting, opening, messaging, seat_of_call, step, Answer, answer_of}

-- an answer, and the seat afterwards
pub record Own : Type 0 where
  pub answer : Answer
  pub after : Option Seat

abbrev pub quietly : ℕ → Option Seat → Own
quietly n held = record { answer = record { refusal = n; handle = 0; reply = [] }; after = held }

abbrev pub own_open : Sources → Option Seat → List ℕ → Own
own_open src None tree = quietly 7 None
own_open src (Some s) tree =
    record { answer = record { refusal = 0; handle = free_handle s; reply = [] }; after = Some (opened_on s tree src.rows) }

abbrev pub own_message : Sources → Option Seat → List ℕ → Own
own_message src held m =
    let o = seat_message (rows_of src.rows) held m in
    record { answer = record { refusal = o.refusal; handle = 0; reply = o.reply }; after = o.after }

abbrev pub taken : Option Seat → List (ℕ × Bool)
taken held = (7, is_connected held) ∷ []

-- a call by its seat alone, where 1 to 3 do not apply
abbrev pub own_step : Sources → Option Seat → Call → Own
own_step src held (connecting k version) =
    pick (eqb (first_cause (taken held)) 0) (quietly 0 (Some (fresh version))) (quietly (first_cause (taken held)) held)
own_step src held (opening k tree) =
    pick (eqb (first_cause (open_causes held tree)) 0) (own_open src held tree) (quietly (first_cause (open_causes held tree)) held)
own_step src held (messaging k m room) =
    pick (eqb (first_cause (sizing m room)) 0) (own_message src held m) (quietly (first_cause (sizing m room)) held)

-- none of 1 to 3 applies
pub not_judged : (src : Sources) (t : List ℕ) (seat : ℕ) → Passing src t → seat < seats → first_cause (judging src t seat) ≡ 0
unfolding first_cause
not_judged src t seat p h = rw (le-ltb 7 seat (omega arith), p.well, p.holds)

causes_left : (src : Sources) (t : List ℕ) (seat : ℕ) (rest : List (ℕ × Bool)) → Passing src t → seat < seats
    → first_cause (judging src t seat ++ rest) ≡ first_cause rest
causes_left src t seat rest p h = first_go (judging src t seat) rest (judging_numbered src t seat) (not_judged src t seat p h)

-- a seat put in a table: that seat holds it, the others are as they were
pub held_same : (t : List ℕ) → table_well t ≡ true → (seat : ℕ) → seat < seats → (s : Option Seat) → SeatOk s → seat_held (seated t seat s) seat ≡ s
held_same t w seat h s f = ap seat_of (seat_same t w seat h (seat_words s) (seat_words_lem s f).size) ∙ (seat_words_lem s f).held

pub held_other : (t : List ℕ) → table_well t ≡ true → (seat : ℕ) → seat < seats → (s : Option Seat) → SeatOk s
    → (k : ℕ) → k < seats → (k ≡ seat → ⊥) → seat_held (seated t seat s) k ≡ seat_held t k
held_other t w seat h s f k l d = ap seat_of (seat_other t w seat h (seat_words s) (seat_words_lem s f).size k l d)

-- a call's answer and its seat afterwards are those by its seat alone, and another seat is as it was
pub record Agrees (t : List ℕ) (seat : ℕ) (o : Outcome) (w : Own) : Type 0 where
  pub answer : answer_of o ≡ w.answer
  pub held : seat_held o.words seat ≡ w.after
  pub others : (k : ℕ) → k < seats → (k ≡ seat → ⊥) → seat_held o.words k ≡ seat_held t k

abbrev pub Alone : Sources → List ℕ → Call → Type 0
Alone src t c = Agrees t (seat_of_call c) (step src t c) (own_step src (seat_held t (seat_of_call c)) c)

module _ (s t : List ℕ) (p : Passing (sources_of s) t) where
  connect_alone : (seat version : ℕ) → seat < seats → Alone (sources_of s) t (connecting seat version)
  unfolding connect_step
  connect_alone seat version h =
      rw (causes_left (sources_of s) t seat (taken (seat_held t seat)) p h)
      (by_test (eqb (first_cause (taken (seat_held t seat))) 0)
      (λ q.
      rw q
      record {
        answer = refl;
        held = held_same t p.well seat h (Some (fresh version)) (tt, tt);
        others = held_other t p.well seat h (Some (fresh version)) (tt, tt);
      })
      (λ q. rw q record { answer = refl; held = refl; others = λ k l d. refl }))

  message_alone : (seat : ℕ) (m : List ℕ) (room : ℕ) → seat < seats → Alone (sources_of s) t (messaging seat m room)
  unfolding message_step
  message_alone seat m room h =
      let f = message_fits (rows_of (catalogue s)) (seat_held t seat) m (seat_ok t p.well seat h) in
      rw (causes_left (sources_of s) t seat (sizing m room) p h)
      (by_test (eqb (first_cause (sizing m room)) 0)
      (λ q.
      rw q
      record {
        answer = refl;
        held = held_same t p.well seat h (seat_message (rows_of (catalogue s)) (seat_held t seat) m).after f;
        others = held_other t p.well seat h (seat_message (rows_of (catalogue s)) (seat_held t seat) m).after f;
      })
      (λ q. rw q record { answer = refl; held = refl; others = λ k l d. refl }))

  pub opened_fits : (seat : ℕ) (k : Seat) (tree : List ℕ) → seat < seats → seat_held t seat ≡ Some k → SeatOk (Some (opened_on k tree (catalogue s)))
  opened_fits seat k tree h e =
      let f = subst SeatOk e (seat_ok t p.well seat h) in
      with_fits k (free_handle k) (Some (opened (selected_by (restriction tree) (catalogue s)))) f.0 f.1
      (selected_fits s (restriction tree) (catalogue s) refl)

  open_done_lem : (seat : ℕ) (tree : List ℕ) → seat < seats → (held : Option Seat) → seat_held t seat ≡ held
      → Agrees t seat (open_done (sources_of s) t seat tree held) (own_open (sources_of s) held tree)
  open_done_lem seat tree h None e = record { answer = refl; held = e; others = λ k l d. refl }
  open_done_lem seat tree h (Some k) e =
      let f = opened_fits seat k tree h e in
      record {
        answer = refl;
        held = held_same t p.well seat h (Some (opened_on k tree (catalogue s))) f;
        others = held_other t p.well seat h (Some (opened_on k tree (catalogue s))) f;
      }

  open_alone : (seat : ℕ) (tree : List ℕ) → seat < seats → Alone (sources_of s) t (opening seat tree)
  unfolding open_step
  open_alone seat tree h =
      rw (causes_left (sources_of s) t seat (open_causes (seat_held t seat) tree) p h)
      (by_test (eqb (first_cause (open_causes (seat_held t seat) tree)) 0)
      (λ q. rw q (open_done_lem seat tree h (seat_held t seat) refl))
      (λ q. rw q record { answer = refl; held = refl; others = λ k l d. refl }))

  pub step_alone : (c : Call) → seat_of_call c < seats → Alone (sources_of s) t c
  step_alone (connecting seat version) h = connect_alone seat version h
  step_alone (opening seat tree) h = open_alone seat tree h
  step_alone (messaging seat m room) h = message_alone seat m room h
