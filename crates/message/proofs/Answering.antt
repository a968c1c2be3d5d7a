-- The ways that a message on its seat can go: refused, or done. Assumes nothing.
use mathlib.Core.Path.{◌≡◌, refl, sym, ap, subst, ◌∙◌}
use mathlib.Core.Bool.{Bool}
use mathlib.Core.List.{List, [], ◌∷◌, ◌++◌}
use Rattle.std.specs.Prelude.{Option, None, Some, Result, Ok}
use Rattle.message.specs.declared.Kind.{Kind}
use Rattle.message.proofs.Gating.{gate_admits, gate_connected}
use Prim.Native.Nat.{ℕ, zero, suc, ◌≤◌, ◌<◌}
use native.Mathlib.Nat.{zero-add}
use native.Mathlib.Omega.{arith}
use borrow.Author.Tests.{ne_eqb}
use lib.Dec.{eqb}
use Rattle.lists.proofs.Below.{by_test}
use lib.ListN.{length, get_or, drop}
use Rattle.wire.specs.Word.{le}
use Rattle.catalogue.specs.Plain.{Row}
use Rattle.wire.specs.Laid.{lay, four_words}
use Rattle.table.specs.Layout.{connected_at}
use Rattle.table.specs.Seat.{Seat, Cursor, seat_words, seat_in, seat_of, cursor_in}
use Rattle.fetch.specs.Request.{request}
use Rattle.fetch.specs.declared.Request.{Request}
use Rattle.table.specs.Fits.{CursorOk, SeatOk}
use Rattle.table.proofs.Seats.{seat_back}
use Rattle.refusal.specs.declared.Refusal.{Refusal}
use Rattle.refusal.specs.Refusal.{first_cause, status_of}
use Rattle.refusal.specs.Numbers.{refusal_number, refusing, number_of}
use Rattle.refusal.proofs.Numbers.{number_least, number_back, number_given}
use Rattle.message.specs.Message.{kind_of, kind_number, msg_of, handle_of, disconnects, frees, fetches, rows_causes, gate_causes, body_causes, body_of, seat_causes, SeatOutcome, refused_on, rows_done, done_on, done_by, seat_message, count_of}
use Rattle.message.specs.AnswerReady.{MessageReady, AdmittedReady}
use Rattle.message.specs.AnswerTold.{Answers, Refuses, RefusesFor, kind_at, gated}
use Rattle.refusal.proofs.First.{Numbered, Each, first_stop, first_go, first_each}

-- bytes laid over the start of a list
pub lay_front : (t b : List ℕ) → lay t 0 b ≡ b ++ drop (length b) t
unfolding lay
lay_front t b = ap (λ (n : ℕ). b ++ drop n t) (zero-add (length b))

pub gate_numbered : (held : Option Seat) (m : List ℕ) → Numbered (gate_causes held m)
gate_numbered None m = ((λ e. omega arith), ((λ e. omega arith), tt))
gate_numbered (Some s) m = ((λ e. omega arith), ((λ e. omega arith), ((λ e. omega arith), tt)))

-- words that pass are those of the seat that they hold
pub words_is : (b m reply : List ℕ) → MessageReady b m reply → b ≡ seat_words (seat_of b)
words_is b m reply g = (seat_back b g.size g.well).0

-- the number that a message on its seat is answered by: 0, or one from 6 to 16
abbrev Sent : ℕ → Type 0
Sent zero = Unit {0}
Sent (suc n) = (6 ≤ suc n) × (suc n < 17)

-- each of its causes has such a number
gate_sent : (held : Option Seat) (m : List ℕ) → Each Sent (gate_causes held m)
gate_sent None m = ((omega arith, omega arith), ((omega arith, omega arith), tt))
gate_sent (Some s) m = ((omega arith, omega arith), ((omega arith, omega arith), ((omega arith, omega arith), tt)))

rows_sent : (rows : List Row) (o : Option Cursor) (q : Option Request) → Each Sent (rows_causes rows o q)
rows_sent rows None q = tt
rows_sent rows (Some c) None = tt
rows_sent rows (Some c) (Some q) =
    ((omega arith, omega arith), ((omega arith, omega arith), ((omega arith, omega arith), ((omega arith, omega arith), tt))))

body_sent : (rows : List Row) (kind : ℕ) (s : Seat) (m : List ℕ) → Each Sent (body_causes rows kind s m)
body_sent rows kind s m =
    by_test (eqb kind disconnects)
    (λ q. rw q ((omega arith, omega arith), tt))
    (λ q.
    by_test (eqb kind frees)
    (λ w. rw (q, w) ((omega arith, omega arith), ((omega arith, omega arith), tt)))
    (λ w.
    by_test (eqb kind fetches)
    (λ e. rw (q, w, e) ((omega arith, omega arith), ((omega arith, omega arith), rows_sent rows (cursor_in s (handle_of m)) (request m))))
    (λ e. rw (q, w, e) ((omega arith, omega arith), ((omega arith, omega arith), ((omega arith, omega arith), tt))))))

seat_causes_sent : (rows : List Row) (held : Option Seat) (m : List ℕ) → Each Sent (seat_causes rows held m)
seat_causes_sent rows held m = each_both (gate_causes held m) (body_of rows held m) (gate_sent held m) (of held)
  where
    each_both : (a b : List (ℕ × Bool)) → Each Sent a → Each Sent b → Each Sent (a ++ b)
    each_both [] b u w = w
    each_both (c ∷ a) b u w = (u.0, each_both a b u.1 w)

    of : (x : Option Seat) → Each Sent (body_of rows x m)
    of None = tt
    of (Some s) = body_sent rows (kind_of (msg_of m)) s m

rows_done_sent : (rows : List Row) (s : Seat) (handle : ℕ) (o : Option Cursor) (q : Option Request) → Sent (rows_done rows s handle o q).refusal
rows_done_sent rows s handle None q = tt
rows_done_sent rows s handle (Some c) None = tt
rows_done_sent rows s handle (Some c) (Some q) = tt

done_sent : (rows : List Row) (held : Option Seat) (m : List ℕ) → Sent (done_by rows held m).refusal
done_sent rows None m = (omega arith, omega arith)
done_sent rows (Some s) m =
    by_test (eqb (kind_of (msg_of m)) disconnects)
    (λ q. rw q tt)
    (λ q.
    by_test (eqb (kind_of (msg_of m)) frees)
    (λ w. rw (q, w) tt)
    (λ w.
    by_test (eqb (kind_of (msg_of m)) fetches)
    (λ e. rw (q, w, e) (rows_done_sent rows s (handle_of m) (cursor_in s (handle_of m)) (request m)))
    (λ e. rw (q, w, e) tt)))

seat_sent : (rows : List Row) (held : Option Seat) (m : List ℕ) → Sent (seat_message rows held m).refusal
unfolding seat_message
seat_sent rows held m =
    by_test (eqb (first_cause (seat_causes rows held m)) 0)
    (λ q. rw q (done_sent rows held m))
    (λ q. rw q (first_each Sent (seat_causes rows held m) (seat_causes_sent rows held m) tt))

-- the answer that has such a number, and 16 where it is 0, counts the header's bytes
number_sent : (n : ℕ) → Sent n → number_of {A = ℕ} (refusing n 16) ≡ n
number_sent zero k = refl
number_sent (suc n) k = number_given {A = ℕ} (suc n) 16 k.1

count_sent : (n : ℕ) → Sent n → count_of (refusing n 16) ≡ 16
count_sent n k = grind arith

-- a refusal: the header, and nothing else
pub refused_answers : (rows : List Row) (b m entry exit : List ℕ) (msg n : ℕ) (r : ℕ × ℕ) → b ≡ seat_words (seat_of b) → msg ≡ msg_of m
    → seat_message rows (seat_of b) m ≡ refused_on n (seat_of b) m → Refuses msg n r entry exit
    → Answers (seat_message rows (seat_of b) m) (refusing n r.1) b entry exit
unfolding le
refused_answers rows b m entry exit msg n r e h o w =
    let k : Sent n = subst Sent (ap (λ (x : SeatOutcome). x.refusal) o) (seat_sent rows (seat_of b) m) in
    rw (o, w.answered)
    record {
      refused = number_sent n k;
      counted = count_sent n k;
      kept = e;
      written = w.written ∙ lay_front entry (four_words msg (status_of n) 0 0) ∙ ap (λ (k : ℕ). four_words k (status_of n) 0 0 ++ drop 16 entry) h;
    }

-- the same of a cause
refused_for_answers : (rows : List Row) (b m entry exit : List ℕ) (msg : ℕ) (n : Refusal) (r : Result ℕ Refusal) → b ≡ seat_words (seat_of b) → msg ≡ msg_of m
    → seat_message rows (seat_of b) m ≡ refused_on (refusal_number n) (seat_of b) m → RefusesFor msg n r entry exit
    → Answers (seat_message rows (seat_of b) m) r b entry exit
refused_for_answers rows b m entry exit msg n r e h o w =
    subst (λ (x : Result ℕ Refusal). Answers (seat_message rows (seat_of b) m) x b entry exit) (number_back n 16 ∙ sym w.answered)
    (refused_answers rows b m entry exit msg (refusal_number n) (refusal_number n, 16) e h o (record { answered = refl; written = w.written }))

-- refusals 6 to 8
pub gate_refused : (rows : List Row) (b m : List ℕ) (n : ℕ) → first_cause (gate_causes (seat_of b) m) ≡ n → (n ≡ 0 → ⊥) → seat_message rows (seat_of b) m ≡ refused_on n (seat_of b) m
unfolding seat_message
gate_refused rows b m n e z =
    let f : first_cause (seat_causes rows (seat_of b) m) ≡ n = first_stop (gate_causes (seat_of b) m) (body_of rows (seat_of b) m) n e z in
    rw (f, ne_eqb n 0 z)

pub gate_answers : (rows : List Row) (b m entry exit : List ℕ) (msg : ℕ) (n : Refusal) (r : Result ℕ Refusal) → b ≡ seat_words (seat_of b) → msg ≡ msg_of m
    → first_cause (gate_causes (seat_of b) m) ≡ refusal_number n → RefusesFor msg n r entry exit → Answers (seat_message rows (seat_of b) m) r b entry exit
gate_answers rows b m entry exit msg n r e h f w =
    refused_for_answers rows b m entry exit msg n r e h
    (gate_refused rows b m (refusal_number n) f (number_least n))
    w

-- a message of a kind that the gate let pass
pub admitted : {b m reply : List ℕ} {msg : ℕ} {o : Option Kind} {k : Kind} → MessageReady b m reply → msg ≡ msg_of m → o ≡ kind_at (kind_of msg)
    → Ok k ≡ gated o (first_cause (gate_causes (seat_of b) m)) → AdmittedReady b m reply msg (kind_number k)
admitted {b = b} {m = m} {k = k} r e f g =
    let h = gate_admits b m k (g ∙ ap (λ (x : Option Kind). gated x (first_cause (gate_causes (seat_of b) m))) (f ∙ ap (λ (n : ℕ). kind_at (kind_of n)) e)) in
    record { given = r; connected = gate_connected b m h.0; msg_is = e; kind_is = h.1; gated = h.0 }

-- a message that was admitted
module _ (b m reply : List ℕ) (msg kind : ℕ) (a : AdmittedReady b m reply msg kind) where
  pub held : seat_of b ≡ Some (seat_in b)
  held = rw (ne_eqb (get_or b connected_at 0) 0 a.connected)

  pub seat_is : b ≡ seat_words (Some (seat_in b))
  seat_is = words_is b m reply a.given ∙ ap seat_words held

  pub seat_fits : CursorOk (seat_in b).first × CursorOk (seat_in b).second
  seat_fits = subst SeatOk held (seat_back b a.given.size a.given.well).1

  module _ (rows : List Row) where
    causes_are : first_cause (seat_causes rows (seat_of b) m) ≡ first_cause (body_causes rows kind (seat_in b) m)
    causes_are =
        first_go (gate_causes (seat_of b) m) (body_of rows (seat_of b) m) (gate_numbered (seat_of b) m) a.gated
        ∙ ap (λ (o : Option Seat). first_cause (body_of rows o m)) held
        ∙ ap (λ (k : ℕ). first_cause (body_causes rows k (seat_in b) m)) a.kind_is

    pub body_refused : (n : ℕ) → first_cause (body_causes rows kind (seat_in b) m) ≡ n → (n ≡ 0 → ⊥) → seat_message rows (seat_of b) m ≡ refused_on n (seat_of b) m
    unfolding seat_message
    body_refused n e z = let f : first_cause (seat_causes rows (seat_of b) m) ≡ n = causes_are ∙ e in rw (f, ne_eqb n 0 z)

    pub refused_by_lem : (n : Refusal) → first_cause (body_causes rows kind (seat_in b) m) ≡ refusal_number n → (r : Result ℕ Refusal) (mid exit : List ℕ)
        → RefusesFor msg n r mid exit → Answers (seat_message rows (seat_of b) m) r b mid exit
    refused_by_lem n e r mid exit w =
        refused_for_answers rows b m mid exit msg n r (words_is b m reply a.given) a.msg_is
        (body_refused (refusal_number n) e (number_least n))
        w

    pub body_done : first_cause (body_causes rows kind (seat_in b) m) ≡ 0 → seat_message rows (seat_of b) m ≡ done_on rows kind (seat_in b) m
    unfolding seat_message
    body_done e =
        let f : first_cause (seat_causes rows (seat_of b) m) ≡ 0 = causes_are ∙ e in
        rw f
        (ap (λ (o : Option Seat). done_by rows o m) held ∙ ap (λ (k : ℕ). done_on rows k (seat_in b) m) a.kind_is)
