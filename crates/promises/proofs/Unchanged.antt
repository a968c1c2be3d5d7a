-- "No refusal changes the table", and what it writes, for every call. Assumes nothing.
use mathlib.Core.Path.{◌≡◌, refl}
use mathlib.Core.List.{List, [], ◌++◌}
use Rattle.std.specs.Prelude.{Option, None, Some}
use Prim.Native.Nat.{ℕ}
use native.Mathlib.Omega.{arith}
use borrow.Author.Tests.{eqb-true, lt-ltb, le-ltb}
use lib.Dec.{eqb}
use Rattle.lists.proofs.Below.{by_test}
use Rattle.catalogue.specs.Plain.{Row, rows_of}
use Rattle.table.specs.Seat.{Seat}
use Rattle.refusal.specs.Refusal.{first_cause}
use Rattle.refusal.proofs.First.{first_under}
use Rattle.message.specs.Message.{seat_causes, seat_message}
use Rattle.query.specs.Open.{open_causes}
use Rattle.call.specs.Step.{Sources, judging, seat_held, sizing, connect_causes, connect_step, message_step, open_done, open_step}
use Rattle.call.proofs.Unchanged.{connect_unchanged, open_unchanged, message_unchanged}
use Rattle.promises.specs.Calls.{Call, connecting, opening, messaging, step}
use Rattle.promises.specs.Causes.{OwnAnswer, refusal_reply, Refused}
use Rattle.promises.proofs.First.{first_over}
use Rattle.promises.proofs.Refusals.{done_by_lem, seat_rise}

connect_quiet : (src : Sources) (t : List ℕ) (seat version : ℕ) → (connect_step src t seat version).reply ≡ []
unfolding connect_step
connect_quiet src t seat version = by_test (eqb (first_cause (connect_causes src t seat)) 0) (λ q. rw q) (λ q. rw q)

open_quiet : (src : Sources) (t : List ℕ) (seat : ℕ) (tree : List ℕ) → (open_step src t seat tree).reply ≡ []
unfolding open_step
open_quiet src t seat tree =
    by_test (eqb (first_cause (judging src t seat ++ open_causes (seat_held t seat) tree)) 0) (λ q. rw q (done (seat_held t seat))) (λ q. rw q)
  where
    done : (held : Option Seat) → (open_done src t seat tree held).reply ≡ []
    done None = refl
    done (Some s) = refl

-- a call answers what its kind does, and nothing else
pub own_answer : (src : Sources) (t : List ℕ) (c : Call) → OwnAnswer c (step src t c)
unfolding connect_step message_step
own_answer src t (connecting seat version) =
    (by_test (eqb (first_cause (connect_causes src t seat)) 0) (λ q. rw q) (λ q. rw q), connect_quiet src t seat version)
own_answer src t (opening seat tree) = open_quiet src t seat tree
own_answer src t (messaging seat m room) =
    by_test (eqb (first_cause (judging src t seat ++ sizing m room)) 0) (λ q. rw q) (λ q. rw q)

-- a header, of a number above 5
seat_header : (rows : List Row) (held : Option Seat) (m : List ℕ) (seat room : ℕ) → ((seat_message rows held m).refusal ≡ 0 → ⊥)
    → (seat_message rows held m).reply ≡ refusal_reply (messaging seat m room) (seat_message rows held m).refusal
unfolding seat_message
seat_header rows held m seat room =
    by_test (eqb (first_cause (seat_causes rows held m)) 0)
    (λ q. rw q (λ z. absurd (z (done_by_lem rows m held (eqb-true (first_cause (seat_causes rows held m)) 0 q)))))
    (λ q.
    rw q (λ z.
    let over = first_over 5 (seat_causes rows held m) (seat_rise rows held m) z in
    rw (le-ltb (first_cause (seat_causes rows held m)) 6 (omega (arith, over)))))

message_reply : (src : Sources) (t : List ℕ) (seat : ℕ) (m : List ℕ) (room : ℕ) → ((message_step src t seat m room).refusal ≡ 0 → ⊥)
    → (message_step src t seat m room).reply ≡ refusal_reply (messaging seat m room) (message_step src t seat m room).refusal
unfolding message_step
message_reply src t seat m room =
    by_test (eqb (first_cause (judging src t seat ++ sizing m room)) 0)
    (λ q. rw q (λ z. seat_header (rows_of src.rows) (seat_held t seat) m seat room z))
    (λ q.
    rw q (λ z.
    let under = first_under 6 (judging src t seat ++ sizing m room) (omega arith) (omega arith, (omega arith, (omega arith, (omega arith, (omega arith, tt))))) in
    rw (lt-ltb (first_cause (judging src t seat ++ sizing m room)) 6 under)))

-- every refused call: no handle, the table as it was, nothing written by 1 to 5 or by a call that sends no message, and from 6 on
-- the sixteen bytes of the header
pub refused_leaves : (src : Sources) (t : List ℕ) (c : Call) → ((step src t c).refusal ≡ 0 → ⊥) → Refused t c (step src t c)
refused_leaves src t (connecting seat version) z =
    let u = connect_unchanged src t seat version z in
    record { handle = u.handle; words = u.words; reply = connect_quiet src t seat version }
refused_leaves src t (opening seat tree) z =
    let u = open_unchanged src t seat tree z in
    record { handle = u.handle; words = u.words; reply = open_quiet src t seat tree }
refused_leaves src t (messaging seat m room) z =
    let u = message_unchanged src t seat m room z in
    record { handle = u.handle; words = u.words; reply = message_reply src t seat m room z }
