-- The refusal of each call is the first of its causes, in one list. Assumes nothing.
use mathlib.Core.Path.{◌≡◌, refl, sym, ◌∙◌}
use mathlib.Core.Bool.{Bool, true, not}
use mathlib.Core.List.{List, [], ◌∷◌, ◌++◌}
use mathlib.Core.Logic.{◌↔◌}
use Rattle.std.specs.Prelude.{Option, None, Some}
use Prim.Native.Nat.{ℕ}
use native.Mathlib.Omega.{arith}
use borrow.Author.Tests.{eqb-true, eqb-false}
use lib.Dec.{eqb}
use Rattle.lists.proofs.Below.{by_test}
use Rattle.catalogue.specs.Plain.{Row, rows_of}
use Rattle.table.specs.Seat.{Cursor, Seat, cursor_in}
use Rattle.fetch.specs.Request.{request}
use Rattle.fetch.specs.declared.Request.{Request}
use Rattle.refusal.specs.Refusal.{first_cause}
use Rattle.refusal.proofs.First.{Numbered, first_stop, first_go, first_both}
use Rattle.message.specs.Message.{kind_of, served, msg_of, handle_of, body_causes, seat_causes, rows_causes, rows_done, done_on, done_by, seat_message}
use Rattle.query.specs.Open.{open_causes}
use Rattle.call.specs.Step.{Sources, judging, seat_held, is_connected, sizing, connect_causes, connect_step, message_step, open_done, open_step}
use Rattle.call.proofs.Causes.{Passes, passes, judging_numbered}
use Rattle.promises.specs.Calls.{Call, connecting, opening, messaging, seat_of_call, step}
use Rattle.promises.specs.Causes.{causes_on, causes_of, Given, NoneApplies, Risen}
use Rattle.promises.proofs.First.{exact, exact_none, risen_numbered}

-- the causes of each call rise by number: none stands twice, none is 0, and those of a seat are above 5
rows_rise : (rows : List Row) (c : Option Cursor) (q : Option Request) → Risen 10 (rows_causes rows c q)
rows_rise rows None q = tt
rows_rise rows (Some c) None = tt
rows_rise rows (Some c) (Some q) = (omega arith, (omega arith, (omega arith, (omega arith, tt))))

body_rise : (rows : List Row) (s : Seat) (m : List ℕ) → Risen 8 (body_causes rows (kind_of (msg_of m)) s m)
body_rise rows s m =
    by_test (eqb (kind_of (msg_of m)) 0)
    (λ q. rw q (omega arith, tt))
    (λ q.
    by_test (eqb (kind_of (msg_of m)) 1)
    (λ r. rw (q, r) (omega arith, (omega arith, tt)))
    (λ r.
    by_test (eqb (kind_of (msg_of m)) 2)
    (λ l. rw (q, r, l) (omega arith, (omega arith, rows_rise rows (cursor_in s (handle_of m)) (request m))))
    (λ l. rw (q, r, l) (omega arith, (omega arith, (omega arith, tt))))))

pub seat_rise : (rows : List Row) (held : Option Seat) (m : List ℕ) → Risen 5 (seat_causes rows held m)
seat_rise rows None m = (omega arith, (omega arith, tt))
seat_rise rows (Some s) m = (omega arith, (omega arith, (omega arith, body_rise rows s m)))

open_rise : (held : Option Seat) (tree : List ℕ) → Risen 3 (open_causes held tree)
open_rise None tree = (omega arith, tt)
open_rise (Some s) tree = (omega arith, (omega arith, (omega arith, tt)))

on_seat_rise : (src : Sources) (held : Option Seat) (c : Call) → Risen 3 (causes_on src held c)
on_seat_rise src held (connecting seat version) = (omega arith, tt)
on_seat_rise src held (opening seat tree) = open_rise held tree
on_seat_rise src held (messaging seat m room) = (omega arith, (omega arith, seat_rise (rows_of src.rows) held m))

pub on_seat_numbered : (src : Sources) (held : Option Seat) (c : Call) → Numbered (causes_on src held c)
on_seat_numbered src held c = risen_numbered 3 (causes_on src held c) (on_seat_rise src held c)

pub causes_rise : (src : Sources) (t : List ℕ) (c : Call) → Risen 0 (causes_of src t c)
causes_rise src t c = (omega arith, (omega arith, (omega arith, on_seat_rise src (seat_held t (seat_of_call c)) c)))

pub causes_numbered : (src : Sources) (t : List ℕ) (c : Call) → Numbered (causes_of src t c)
causes_numbered src t c = risen_numbered 0 (causes_of src t c) (causes_rise src t c)

sizing_numbered : (m : List ℕ) (room : ℕ) → Numbered (sizing m room)
sizing_numbered m room = ((λ e. omega arith), ((λ e. omega arith), tt))

-- what a message that its seat accepts does is no refusal
module _ (rows : List Row) (m : List ℕ) where
  sent_rows : (s : Seat) (c : Option Cursor) (q : Option Request) → (rows_done rows s (handle_of m) c q).refusal ≡ 0
  sent_rows s None q = refl
  sent_rows s (Some c) None = refl
  sent_rows s (Some c) (Some q) = refl

  done_on_lem : (kind : ℕ) (s : Seat) → (done_on rows kind s m).refusal ≡ 0
  done_on_lem kind s =
      by_test (eqb kind 0)
      (λ q. rw q)
      (λ q.
      by_test (eqb kind 1)
      (λ r. rw (q, r))
      (λ r. by_test (eqb kind 2) (λ l. rw (q, r, l) (sent_rows s (cursor_in s (handle_of m)) (request m))) (λ l. rw (q, r, l))))

  pub done_by_lem : (held : Option Seat) → first_cause (seat_causes rows held m) ≡ 0 → (done_by rows held m).refusal ≡ 0
  unfolding first_cause
  done_by_lem None e =
      let b = first_both ((6, not (served (msg_of m))) ∷ []) ((7, true) ∷ []) ((λ z. omega arith), tt) e in
      absurd (let z : ◌≡◌ {A = ℕ} 7 0 = b.1 in omega arith)
  done_by_lem (Some s) e = done_on_lem (kind_of (msg_of m)) s

-- the refusal of a message on its seat is the first of the seat's causes
pub seat_refusal : (rows : List Row) (held : Option Seat) (m : List ℕ) → (seat_message rows held m).refusal ≡ first_cause (seat_causes rows held m)
unfolding seat_message
seat_refusal rows held m =
    by_test (eqb (first_cause (seat_causes rows held m)) 0)
    (λ q.
    let e = eqb-true (first_cause (seat_causes rows held m)) 0 q in
    rw q (done_by_lem rows m held e ∙ sym e))
    (λ q. rw q)

connect_refusal : (src : Sources) (t : List ℕ) (seat version : ℕ) → (connect_step src t seat version).refusal ≡ first_cause (connect_causes src t seat)
unfolding connect_step
connect_refusal src t seat version =
    by_test (eqb (first_cause (connect_causes src t seat)) 0)
    (λ q. rw q (sym (eqb-true (first_cause (connect_causes src t seat)) 0 q)))
    (λ q. rw q)

-- an unconnected seat refuses an opening
pub open_none : (src : Sources) (t : List ℕ) (seat : ℕ) (tree : List ℕ) → first_cause (judging src t seat ++ open_causes None tree) ≡ 0 → ⊥
unfolding first_cause
open_none src t seat tree e =
    let b = first_both (judging src t seat) (open_causes None tree) (judging_numbered src t seat) e in
    let z : ◌≡◌ {A = ℕ} 7 0 = b.1 in
    omega arith

open_refusal : (src : Sources) (t : List ℕ) (seat : ℕ) (tree : List ℕ) → (open_step src t seat tree).refusal ≡ first_cause (judging src t seat ++ open_causes (seat_held t seat) tree)
unfolding open_step
open_refusal src t seat tree =
    by_test (eqb (first_cause (judging src t seat ++ open_causes (seat_held t seat) tree)) 0)
    (λ q.
    let e = eqb-true (first_cause (judging src t seat ++ open_causes (seat_held t seat) tree)) 0 q in
    rw q (done (seat_held t seat) refl e ∙ sym e))
    (λ q. rw q)
  where
    done : (held : Option Seat) → seat_held t seat ≡ held → first_cause (judging src t seat ++ open_causes held tree) ≡ 0 → (open_done src t seat tree held).refusal ≡ 0
    done None h e = absurd (open_none src t seat tree e)
    done (Some s) h e = refl

-- 1 to 5, and then those of the seat
pub early_causes_lem : (src : Sources) (t : List ℕ) (seat : ℕ) (m : List ℕ) (room : ℕ) → first_cause (judging src t seat ++ sizing m room) ≡ 0
    → (first_cause (judging src t seat) ≡ 0)
    × (first_cause (causes_of src t (messaging seat m room)) ≡ first_cause (seat_causes (rows_of src.rows) (seat_held t seat) m))
early_causes_lem src t seat m room e =
    let rest = seat_causes (rows_of src.rows) (seat_held t seat) m in
    let b = first_both (judging src t seat) (sizing m room) (judging_numbered src t seat) e in (
      b.0,
      first_go (judging src t seat) (sizing m room ++ rest) (judging_numbered src t seat) b.0
          ∙ first_go (sizing m room) rest (sizing_numbered m room) b.1,
    )

stopped : (a b c : List (ℕ × Bool)) → Numbered a → (first_cause (a ++ b) ≡ 0 → ⊥) → first_cause (a ++ (b ++ c)) ≡ first_cause (a ++ b)
unfolding first_cause
stopped [] b c w z = first_stop b c (first_cause b) refl z
stopped (d ∷ a) b c w z = by_test d.1 (λ q. rw q) (λ q. rw q (stopped a b c w.1 (rw q at z)))

message_refusal : (src : Sources) (t : List ℕ) (seat : ℕ) (m : List ℕ) (room : ℕ)
    → (message_step src t seat m room).refusal ≡ first_cause (causes_of src t (messaging seat m room))
unfolding message_step
message_refusal src t seat m room =
    by_test (eqb (first_cause (judging src t seat ++ sizing m room)) 0)
    (λ q.
    rw q
    (seat_refusal (rows_of src.rows) (seat_held t seat) m
    ∙ sym (early_causes_lem src t seat m room (eqb-true (first_cause (judging src t seat ++ sizing m room)) 0 q)).1))
    (λ q.
    rw q
    (sym (stopped (judging src t seat) (sizing m room) (seat_causes (rows_of src.rows) (seat_held t seat) m) (judging_numbered src t seat)
    (eqb-false (first_cause (judging src t seat ++ sizing m room)) 0 q))))

pub refusal_is : (src : Sources) (t : List ℕ) (c : Call) → (step src t c).refusal ≡ first_cause (causes_of src t c)
refusal_is src t (connecting seat version) = connect_refusal src t seat version
refusal_is src t (opening seat tree) = open_refusal src t seat tree
refusal_is src t (messaging seat m room) = message_refusal src t seat m room

-- "The first that applies is given, and no other": number n exactly where cause n applies and none before it, 0 where none does
pub refused_exactly : (src : Sources) (t : List ℕ) (c : Call) (n : ℕ) → (n ≡ 0 → ⊥) → ((step src t c).refusal ≡ n) ↔ Given n (causes_of src t c)
refused_exactly src t c n z =
    let e = exact (causes_of src t c) n z in (
      λ r. e.0 (sym (refusal_is src t c) ∙ r),
      λ g. refusal_is src t c ∙ e.1 g,
    )

pub accepted_exactly : (src : Sources) (t : List ℕ) (c : Call) → ((step src t c).refusal ≡ 0) ↔ NoneApplies (causes_of src t c)
accepted_exactly src t c =
    let e = exact_none (causes_of src t c) (causes_numbered src t c) in (
      λ r. e.0 (sym (refusal_is src t c) ∙ r),
      λ g. refusal_is src t c ∙ e.1 g,
    )

-- what holds of a call that is accepted: its seat is one of eight, and the table and the catalogue pass 2 and 3
pub accepted_passes : (src : Sources) (t : List ℕ) (c : Call) → (step src t c).refusal ≡ 0 → Passes src t (seat_of_call c)
accepted_passes src t (connecting seat version) e =
    passes src t seat
    (first_both (judging src t seat) ((7, is_connected (seat_held t seat)) ∷ []) (judging_numbered src t seat)
    (sym (refusal_is src t (connecting seat version)) ∙ e)).0
accepted_passes src t (opening seat tree) e =
    passes src t seat
    (first_both (judging src t seat) (open_causes (seat_held t seat) tree) (judging_numbered src t seat) (sym (refusal_is src t (opening seat tree)) ∙ e)).0
accepted_passes src t (messaging seat m room) e =
    passes src t seat
    (first_both (judging src t seat) (sizing m room ++ seat_causes (rows_of src.rows) (seat_held t seat) m) (judging_numbered src t seat)
    (sym (refusal_is src t (messaging seat m room)) ∙ e)).0
