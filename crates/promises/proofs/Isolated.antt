-- A seat's answers and replies are those that its own calls get alone, so they depend on no other seat's. Assumes nothing.
use mathlib.Core.Path.{◌≡◌, refl, sym, ap, ap₂, subst, ◌∙◌}
use mathlib.Core.List.{List, [], ◌∷◌}
use Rattle.std.specs.Prelude.{Option, None, Some}
use Prim.Native.Nat.{ℕ, ◌<◌}
use native.Mathlib.Omega.{arith}
use borrow.Author.Tests.{eqb-true, eqb-false, lt-ltb, ltb-true, ltb-false}
use lib.Dec.{ltb, eqb}
use Rattle.lists.proofs.Below.{by_test}
use Rattle.catalogue.specs.Plain.{Row, catalogue}
use Rattle.table.specs.Layout.{seats}
use Rattle.table.specs.Seat.{Seat}
use Rattle.refusal.specs.Refusal.{first_cause}
use Rattle.call.specs.Step.{Sources, sources_of, Outcome, seat_held}
use Rattle.call.specs.Passing.{Passing}
use Rattle.promises.specs.Calls.{Call, connecting, opening, messaging, seat_of_call, step, Answer, answer_of, Event, history, fresh_table}
use Rattle.promises.specs.Causes.{causes_of, refusal_reply}
use Rattle.promises.specs.Own.{own_calls, own_events}
use Rattle.promises.proofs.Refusals.{refusal_is, accepted_passes}
use Rattle.promises.proofs.Unchanged.{refused_leaves}
use Rattle.promises.proofs.Reached.{step_passes, fresh_passes, malformed_refused}
use Rattle.promises.proofs.Alone.{own_step, step_alone}

-- another seat's call leaves a seat as it was, in any table
pub others_left : (s t : List ℕ) (c : Call) (k : ℕ) → k < seats → (k ≡ seat_of_call c → ⊥)
    → seat_held (step (sources_of s) t c).words k ≡ seat_held t k
others_left s t c k l d =
    by_test (eqb (step (sources_of s) t c).refusal 0)
    (λ q.
    let a = accepted_passes (sources_of s) t c (eqb-true (step (sources_of s) t c).refusal 0 q) in
    (step_alone s t (record { well = a.table_in; holds = a.rows_in }) c a.seat_in_lem).others k l d)
    (λ q.
    ap (λ (x : List ℕ). seat_held x k) (refused_leaves (sources_of s) t c (eqb-false (step (sources_of s) t c).refusal 0 q)).words)

abbrev event_of : Call → Answer → Event
event_of c a = record { call = c; answer = a }

-- a seat of the eight, in two tables that pass and hold the same of it
seat_history : (s : List ℕ) (k : ℕ) → k < seats → (calls : List Call) (t u : List ℕ) → Passing (sources_of s) t → Passing (sources_of s) u
    → seat_held t k ≡ seat_held u k → own_events k (history (sources_of s) t calls) ≡ history (sources_of s) u (own_calls k calls)
unfolding history own_calls own_events
seat_history s k h [] t u p r e = refl
seat_history s k h (c ∷ calls) t u p r e =
    by_test (eqb (seat_of_call c) k)
    (λ q.
    let same : seat_of_call c ≡ k = eqb-true (seat_of_call c) k q in
    let inside : seat_of_call c < seats = omega (arith, same) in
    let held : seat_held t (seat_of_call c) ≡ seat_held u (seat_of_call c) = subst (λ (j : ℕ). seat_held t j ≡ seat_held u j) (sym same) e in
    let x = step_alone s t p c inside in
    let y = step_alone s u r c inside in
    let next : seat_held (step (sources_of s) t c).words k ≡ seat_held (step (sources_of s) u c).words k
    = subst (λ (j : ℕ). seat_held (step (sources_of s) t c).words j ≡ seat_held (step (sources_of s) u c).words j) same
    (x.held ∙ ap (λ (o : Option Seat). (own_step (sources_of s) o c).after) held ∙ sym y.held) in
    rw q
    (ap₂ (λ (a : Answer) (rest : List Event). event_of c a ∷ rest)
    (x.answer ∙ ap (λ (o : Option Seat). (own_step (sources_of s) o c).answer) held ∙ sym y.answer)
    (seat_history s k h calls (step (sources_of s) t c).words (step (sources_of s) u c).words (step_passes s t c p) (step_passes s u c r) next)))
    (λ q.
    rw q
    (seat_history s k h calls (step (sources_of s) t c).words u (step_passes s t c p) r
    (others_left s t c k h (λ w. eqb-false (seat_of_call c) k q (sym w)) ∙ e)))

-- a seat above 7: refusal 1, whatever the table
first_answer : (o : Outcome) (r h : ℕ) (y : List ℕ) → o.refusal ≡ r → o.handle ≡ h → o.reply ≡ y
    → answer_of o ≡ record { refusal = r; handle = h; reply = y }
first_answer o r h y e f g = rw (e, f, g)

no_seat : (src : Sources) (t : List ℕ) (c : Call) → 7 < seat_of_call c → answer_of (step src t c) ≡ record { refusal = 1; handle = 0; reply = [] }
unfolding first_cause
no_seat src t c h =
    let e : (step src t c).refusal ≡ 1 = refusal_is src t c ∙ one c h in
    let l = refused_leaves src t c (λ z. omega (arith, e, z)) in
    first_answer (step src t c) 1 0 [] e l.handle (l.reply ∙ ap (refusal_reply c) e ∙ none_written c)
  where
    one : (d : Call) → 7 < seat_of_call d → first_cause (causes_of src t d) ≡ 1
    one (connecting seat version) w = rw (lt-ltb 7 seat w)
    one (opening seat tree) w = rw (lt-ltb 7 seat w)
    one (messaging seat m room) w = rw (lt-ltb 7 seat w)

    none_written : (d : Call) → refusal_reply d 1 ≡ []
    none_written (connecting seat version) = refl
    none_written (opening seat tree) = refl
    none_written (messaging seat m room) = refl

no_seat_history : (src : Sources) (k : ℕ) → 7 < k → (calls : List Call) (t u : List ℕ) → own_events k (history src t calls) ≡ history src u (own_calls k calls)
unfolding history own_calls own_events
no_seat_history src k h [] t u = refl
no_seat_history src k h (c ∷ calls) t u =
    by_test (eqb (seat_of_call c) k)
    (λ q.
    let same : seat_of_call c ≡ k = eqb-true (seat_of_call c) k q in
    let above : 7 < seat_of_call c = omega (arith, same) in
    rw q
    (ap₂ (λ (a : Answer) (rest : List Event). event_of c a ∷ rest)
    (no_seat src t c above ∙ sym (no_seat src u c above))
    (no_seat_history src k h calls (step src t c).words (step src u c).words)))
    (λ q. rw q (no_seat_history src k h calls (step src t c).words u))

-- over a malformed catalogue no call changes the table
malformed_history : (src : Sources) (k : ℕ) → src.rows ≡ None → (calls : List Call) (t u : List ℕ) → t ≡ u
    → own_events k (history src t calls) ≡ history src u (own_calls k calls)
unfolding history own_calls own_events
malformed_history src k m [] t u e = refl
malformed_history src k m (c ∷ calls) t u e =
    let left : (step src t c).words ≡ t = (refused_leaves src t c (malformed_refused src t c m)).words in
    let stays : (step src u c).words ≡ u = (refused_leaves src u c (malformed_refused src u c m)).words in
    by_test (eqb (seat_of_call c) k)
    (λ q.
    rw q
    (ap₂ (λ (a : Answer) (rest : List Event). event_of c a ∷ rest)
    (ap (λ (x : List ℕ). answer_of (step src x c)) e)
    (malformed_history src k m calls (step src t c).words (step src u c).words (left ∙ e ∙ sym stays))))
    (λ q. rw q (malformed_history src k m calls (step src t c).words u (left ∙ e)))

-- a seat's part of any history is the history of its own calls alone
pub as_alone : (s : List ℕ) (seat : ℕ) (calls : List Call)
    → own_events seat (history (sources_of s) fresh_table calls) ≡ history (sources_of s) fresh_table (own_calls seat calls)
as_alone s seat calls = go (catalogue s) refl
  where
    go : (o : Option (List Row)) → catalogue s ≡ o
        → own_events seat (history (sources_of s) fresh_table calls) ≡ history (sources_of s) fresh_table (own_calls seat calls)
    go None e = malformed_history (sources_of s) seat e calls fresh_table fresh_table refl
    go (Some rows) e =
        by_test (ltb 7 seat)
        (λ q. no_seat_history (sources_of s) seat (ltb-true 7 seat q) calls fresh_table fresh_table)
        (λ q.
        seat_history s seat (omega (arith, ltb-false 7 seat q)) calls fresh_table fresh_table (fresh_passes s rows e) (fresh_passes s rows e) refl)

-- so two lists of calls that agree on a seat's own give that seat the same answers and the same bytes
pub isolated : (s : List ℕ) (seat : ℕ) (a b : List Call) → own_calls seat a ≡ own_calls seat b
    → own_events seat (history (sources_of s) fresh_table a) ≡ own_events seat (history (sources_of s) fresh_table b)
isolated s seat a b e =
    as_alone s seat a ∙ ap (history (sources_of s) fresh_table) e ∙ sym (as_alone s seat b)
