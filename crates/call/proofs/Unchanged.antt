-- "No refusal changes the table", and a refusal writes nothing or sixteen bytes. Assumes nothing.
use mathlib.Core.Path.{◌≡◌, refl, sym, ap, ◌∙◌}
use mathlib.Core.List.{List, ◌++◌}
use mathlib.Core.Logic.{◌⊎◌, inl, inr}
use Rattle.std.specs.Prelude.{Option, None, Some}
use mathlib.Core.Bool.{true}
use Prim.Native.Nat.{ℕ, ◌<◌}
use borrow.Author.Tests.{eqb-true}
use lib.Dec.{eqb}
use lib.ListN.{length, take, drop, take-append-drop}
use Rattle.wire.specs.Word.{le}
use Rattle.lists.proofs.Below.{by_test}
use Rattle.table.specs.Layout.{seats, seat_size, seat_at}
use Rattle.catalogue.specs.Plain.{Row, rows_of}
use Rattle.table.specs.Seat.{Cursor, Seat, cursor_in}
use Rattle.table.specs.Well.{table_well}
use Rattle.refusal.specs.Refusal.{first_cause}
use Rattle.fetch.specs.Request.{request}
use Rattle.fetch.specs.declared.Request.{Request}
use Rattle.message.specs.Message.{kind_of, msg_of, handle_of, seat_causes, rows_done, done_on, done_by, seat_message}
use Rattle.refusal.proofs.First.{first_both}
use Rattle.query.specs.Open.{open_causes}
use Rattle.call.specs.Step.{Sources, Outcome, judging, seat_held, seated, sizing, connect_causes, connect_step, message_step, open_done, open_step}
use Rattle.call.proofs.Causes.{judging_numbered, passes}
use Rattle.call.proofs.Seating.{words_is}

-- what a refused call leaves: no handle, the words as they were, and nothing or the sixteen bytes of a header in the buffer
pub record Unchanged (o : Outcome) (t : List ℕ) : Type 0 where
  pub handle : o.handle ≡ 0
  pub words : o.words ≡ t
  pub reply : (length o.reply ≡ 0) ⊎ (length o.reply ≡ 16)

abbrev Refused : ℕ → Type 0
Refused refusal = refusal ≡ 0 → ⊥

pub connect_unchanged : (src : Sources) (t : List ℕ) (seat version : ℕ) → Refused (connect_step src t seat version).refusal
    → Unchanged (connect_step src t seat version) t
unfolding connect_step
connect_unchanged src t seat version =
    by_test (eqb (first_cause (connect_causes src t seat)) 0)
    (λ q. rw q (λ z. absurd (z refl)))
    (λ q. rw q (λ z. record { handle = refl; words = refl; reply = inl refl }))

pub open_unchanged : (src : Sources) (t : List ℕ) (seat : ℕ) (tree : List ℕ) → Refused (open_step src t seat tree).refusal
    → Unchanged (open_step src t seat tree) t
unfolding open_step
open_unchanged src t seat tree =
    by_test (eqb (first_cause (judging src t seat ++ open_causes (seat_held t seat) tree)) 0)
    (λ q. rw q (done (seat_held t seat)))
    (λ q. rw q (λ z. record { handle = refl; words = refl; reply = inl refl }))
  where
    done : (held : Option Seat) → Refused (open_done src t seat tree held).refusal → Unchanged (open_done src t seat tree held) t
    done None z = record { handle = refl; words = refl; reply = inl refl }
    done (Some s) z = absurd (z refl)

-- a message that its seat refuses leaves the seat and writes sixteen bytes
on_seat_lem : (rows : List Row) (held : Option Seat) (m : List ℕ) → Refused (seat_message rows held m).refusal
    → ((seat_message rows held m).after ≡ held) × (length (seat_message rows held m).reply ≡ 16)
unfolding seat_message le
on_seat_lem rows held m =
    by_test (eqb (first_cause (seat_causes rows held m)) 0)
    (λ q. rw q (done held))
    (λ q. rw q (λ z. (refl, refl)))
  where
    done : (s : Option Seat) → Refused (done_by rows s m).refusal → ((done_by rows s m).after ≡ s) × (length (done_by rows s m).reply ≡ 16)
    done None z = (refl, refl)
    done (Some s) z = absurd (z (none_refused (kind_of (msg_of m)) s sent_rows))
      where
        sent_rows : (c : Option Cursor) (q : Option Request) → (rows_done rows s (handle_of m) c q).refusal ≡ 0
        sent_rows None q = refl
        sent_rows (Some c) None = refl
        sent_rows (Some c) (Some q) = refl

        none_refused : (kind : ℕ) (k : Seat) → ((c : Option Cursor) (q : Option Request) → (rows_done rows k (handle_of m) c q).refusal ≡ 0) → (done_on rows kind k m).refusal ≡ 0
        none_refused kind k f =
            by_test (eqb kind 0)
            (λ q. rw q)
            (λ q.
            by_test (eqb kind 1)
            (λ r. rw (q, r))
            (λ r. by_test (eqb kind 2) (λ l. rw (q, r, l) (f (cursor_in k (handle_of m)) (request m))) (λ l. rw (q, r, l))))

-- a seat put back in its place
seated_back : (t : List ℕ) → table_well t ≡ true → (seat : ℕ) → seat < seats → seated t seat (seat_held t seat) ≡ t
seated_back t w seat h =
    ap (λ (words : List ℕ). take (seat_at seat) t ++ (words ++ drop seat_size (drop (seat_at seat) t))) (sym (words_is t w seat h))
    ∙ ap (λ (rest : List ℕ). take (seat_at seat) t ++ rest) (take-append-drop seat_size (drop (seat_at seat) t))
    ∙ take-append-drop (seat_at seat) t

pub message_unchanged : (src : Sources) (t : List ℕ) (seat : ℕ) (m : List ℕ) (room : ℕ) → Refused (message_step src t seat m room).refusal
    → Unchanged (message_step src t seat m room) t
unfolding message_step
message_unchanged src t seat m room =
    by_test (eqb (first_cause (judging src t seat ++ sizing m room)) 0)
    (λ q.
    let e = (first_both (judging src t seat) (sizing m room) (judging_numbered src t seat) (eqb-true (first_cause (judging src t seat ++ sizing m room)) 0 q)).0 in
    let p = passes src t seat e in
    rw q (λ z.
    let same = on_seat_lem (rows_of src.rows) (seat_held t seat) m z in
    record {
      handle = refl;
      words = ap (seated t seat) same.0 ∙ seated_back t p.table_in seat p.seat_in_lem;
      reply = inr same.1;
    }))
    (λ q. rw q (λ z. record { handle = refl; words = refl; reply = inl refl }))
