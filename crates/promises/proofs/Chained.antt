-- A chain of calls that were made is a history, and a history of calls after calls is two. Assumes nothing.
use mathlib.Core.Path.{◌≡◌, refl, sym, ap, ap₂, ◌∙◌}
use mathlib.Core.List.{List, [], ◌∷◌, ◌++◌, map}
use Rattle.std.specs.Prelude.{Some}
use Prim.Native.Nat.{ℕ}
use lib.ListN.{length, drop}
use lib.Seq.{take_at}
use Rattle.catalogue.specs.Plain.{Row, catalogue}
use Rattle.call.specs.Step.{Sources, sources_of, Outcome, Keeps}
use Rattle.promises.specs.Calls.{Call, step, Answer, answer_of, Event, history, after, fresh_table}
use Rattle.promises.specs.Chain.{Made, Chain, calls_made, event_made, table_left}
use Rattle.promises.specs.Walk.{Notes, notes_told, Walk}
use Rattle.promises.proofs.Walked.{walks}

-- what a call that keeps an outcome answers
answer_made : (o : Outcome) (m : Made) → Keeps o m.refusal m.handle m.count m.words m.entry m.exit → (event_made m).answer ≡ answer_of o
answer_made o m k =
    rw
    (k.refused, k.given, k.counted, k.written)
    (ap (λ (reply : List ℕ). record { refusal = o.refusal; handle = o.handle; reply = reply })
    (take_at o.reply (drop (length o.reply) m.entry) (length o.reply) refl))

pub chained : (src : Sources) (t : List ℕ) (made : List Made) → Chain src t made
    → (map event_made made ≡ history src t (calls_made made)) × (table_left t made ≡ after src t (calls_made made))
unfolding history after
chained src t [] c = (refl, refl)
chained src t (m ∷ made) c =
    let rest = chained src m.words made c.1 in (
      ap₂ (λ (a : Answer) (events : List Event). record { call = m.call; answer = a } ∷ events)
          (answer_made (step src t m.call) m c.0)
          (rest.0 ∙ ap (λ (w : List ℕ). history src w (calls_made made)) c.0.kept),
      rest.1 ∙ ap (λ (w : List ℕ). after src w (calls_made made)) c.0.kept,
    )

-- so what a client notes of calls that were made from the fresh table is a walk
pub made_walks : (s : List ℕ) (rows : List Row) → catalogue s ≡ Some rows → (made : List Made) → Chain (sources_of s) fresh_table made
    → (seat handle : ℕ) (noted : Notes) → notes_told seat handle (map event_made made) ≡ Some noted → Walk rows noted
made_walks s rows e made c seat handle noted w =
    walks s rows e (calls_made made) seat handle noted (sym (ap (notes_told seat handle) (chained (sources_of s) fresh_table made c).0) ∙ w)

-- calls after calls
pub history_joined : (src : Sources) (t : List ℕ) (a b : List Call) → history src t (a ++ b) ≡ history src t a ++ history src (after src t a) b
unfolding history after
history_joined src t [] b = refl
history_joined src t (c ∷ a) b =
    ap (λ (events : List Event). record { call = c; answer = answer_of (step src t c) } ∷ events) (history_joined src (step src t c).words a b)

pub after_joined : (src : Sources) (t : List ℕ) (a b : List Call) → after src t (a ++ b) ≡ after src (after src t a) b
unfolding after
after_joined src t [] b = refl
after_joined src t (c ∷ a) b = after_joined src (step src t c).words a b
