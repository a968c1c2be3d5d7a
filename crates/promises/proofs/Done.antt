-- An accepted connecting leaves a fresh seat, and an accepted message answers by its number. Assumes nothing.
use mathlib.Core.Path.{◌≡◌, refl, sym, ap, subst, ◌∙◌}
use mathlib.Core.List.{List, ◌++◌}
use Rattle.std.specs.Prelude.{Option, None, Some}
use Prim.Native.Nat.{ℕ}
use native.Mathlib.Omega.{arith}
use borrow.Author.Tests.{eq-eqb, ne_eqb, eqb-false}
use lib.Dec.{eqb}
use Rattle.wire.specs.Word.{le}
use Rattle.lists.proofs.Below.{by_test}
use Rattle.catalogue.specs.Plain.{Row, catalogue, rows_of}
use Rattle.wire.specs.Laid.{four_words}
use Rattle.table.specs.Seat.{Seat, fresh}
use Rattle.refusal.specs.Refusal.{first_cause}
use Rattle.message.specs.Message.{msg_of, kind_of, kind_from, served, freed, seat_causes, seat_message}
use Rattle.table.specs.Open.{still_open}
use Rattle.message.proofs.Keeping.{message_fits}
use Rattle.call.specs.Step.{Sources, sources_of, judging, seat_held, seated, sizing, message_step}
use Rattle.call.proofs.Seating.{seat_ok}
use Rattle.promises.specs.Calls.{connecting, messaging, step, Answer}
use Rattle.promises.specs.Done.{Done}
use Rattle.promises.proofs.Refusals.{accepted_passes}
use Rattle.promises.proofs.Alone.{own_step, held_same, step_alone}
use Rattle.promises.proofs.Carried.{accepted_kind}
use Rattle.promises.proofs.Fetched.{by_seat}
use Rattle.promises.proofs.Connected.{done_version}

-- a connecting that its seat accepts: the seat was not connected, and is then fresh
own_connects : (src : Sources) (held : Option Seat) (k version : ℕ) → (own_step src held (connecting k version)).answer.refusal ≡ 0
    → (held ≡ None) × ((own_step src held (connecting k version)).after ≡ Some (fresh version))
unfolding first_cause
own_connects src None k version e = (refl, refl)
own_connects src (Some s) k version e = absurd (let z : ◌≡◌ {A = ℕ} 7 0 = e in omega arith)

pub connects : (s t : List ℕ) (seat version : ℕ) → (step (sources_of s) t (connecting seat version)).refusal ≡ 0
    → (seat_held t seat ≡ None) × (seat_held (step (sources_of s) t (connecting seat version)).words seat ≡ Some (fresh version))
connects s t seat version z =
    let a = accepted_passes (sources_of s) t (connecting seat version) z in
    let l = step_alone s t (record { well = a.table_in; holds = a.rows_in }) (connecting seat version) a.seat_in_lem in
    let o = own_connects (sources_of s) (seat_held t seat) seat version (sym (ap (λ (x : Answer). x.refusal) l.answer) ∙ z) in
    (o.0, l.held ∙ o.1)

-- a message that its seat accepts
seat_done : (rows : List Row) (held : Option Seat) (m : List ℕ) → first_cause (seat_causes rows held m) ≡ 0
    → Done m held (seat_message rows held m).after (seat_message rows held m).reply
unfolding seat_message first_cause kind_from
seat_done rows None m e =
    by_test (served (msg_of m))
    (λ q. absurd (let z : ◌≡◌ {A = ℕ} 7 0 = rw q at e in omega arith))
    (λ q. absurd (let z : ◌≡◌ {A = ℕ} 6 0 = rw q at e in omega arith))
seat_done rows (Some s) m e =
    let version = done_version rows s m (accepted_kind rows s m e).0 in
    rw (eq-eqb (first_cause (seat_causes rows (Some s) m)) 0 e)
    record {
      left = λ g. let k : kind_of (msg_of m) ≡ 0 = ap kind_of g in rw k (refl, refl);
      freed = λ g.
          let k : kind_of (msg_of m) ≡ 1 = ap kind_of g in
          rw k (freed s m, refl, ap (λ (x : ℕ). four_words x 0 0 0 ++ le 4 (still_open (freed s m))) g);
      bound = λ g. let k : kind_of (msg_of m) ≡ 3 = ap kind_of g in rw k (ap (λ (x : ℕ). four_words x 0 0 0) g);
      version = λ g. (s, refl, version ∙ rw (ne_eqb (msg_of m) 0xC9 g));
    }

accepted_words : (src : Sources) (t : List ℕ) (seat : ℕ) (m : List ℕ) (room : ℕ) → (message_step src t seat m room).refusal ≡ 0
    → (message_step src t seat m room).words ≡ seated t seat (seat_message (rows_of src.rows) (seat_held t seat) m).after
unfolding message_step
accepted_words src t seat m room =
    by_test (eqb (first_cause (judging src t seat ++ sizing m room)) 0)
    (λ q. rw q (λ z. refl))
    (λ q. rw q (λ z. absurd (eqb-false (first_cause (judging src t seat ++ sizing m room)) 0 q z)))

pub done : (s t : List ℕ) (seat : ℕ) (m : List ℕ) (room : ℕ) → (step (sources_of s) t (messaging seat m room)).refusal ≡ 0
    → Done m (seat_held t seat) (seat_held (step (sources_of s) t (messaging seat m room)).words seat) (step (sources_of s) t (messaging seat m room)).reply
done s t seat m room z =
    let a = accepted_passes (sources_of s) t (messaging seat m room) z in
    let b = by_seat (sources_of s) t seat m room z in
    let held : seat_held (message_step (sources_of s) t seat m room).words seat ≡ (seat_message (rows_of (catalogue s)) (seat_held t seat) m).after
    = ap (λ (x : List ℕ). seat_held x seat) (accepted_words (sources_of s) t seat m room z)
    ∙ held_same t a.table_in seat a.seat_in_lem (seat_message (rows_of (catalogue s)) (seat_held t seat) m).after
    (message_fits (rows_of (catalogue s)) (seat_held t seat) m (seat_ok t a.table_in seat a.seat_in_lem)) in
    subst (λ (x : Option Seat). Done m (seat_held t seat) x (message_step (sources_of s) t seat m room).reply) (sym held)
    (subst (Done m (seat_held t seat) (seat_message (rows_of (catalogue s)) (seat_held t seat) m).after) (sym b.1)
    (seat_done (rows_of (catalogue s)) (seat_held t seat) m b.0))
