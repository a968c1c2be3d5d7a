-- The ways that connecting can go. Assumes nothing.
use mathlib.Core.Path.{◌≡◌, sym, ap, ◌∙◌}
use mathlib.Core.Bool.{true, false}
use mathlib.Core.List.{List, [], ◌∷◌}
use Rattle.std.specs.Prelude.{Some, Ok, Err}
use Rattle.refusal.specs.declared.Refusal.{Refusal}
use Rattle.refusal.specs.declared.Refusal.TheVariants.{Connection}
use Rattle.refusal.specs.Numbers.{refusal_number}
use Rattle.refusal.proofs.Numbers.{number_least}
use Prim.Native.Nat.{ℕ}
use borrow.Author.Tests.{ne_eqb}
use Rattle.table.specs.Seat.{fresh}
use Rattle.refusal.specs.Refusal.{first_cause}
use Rattle.call.specs.Step.{Sources, Outcome, Keeps, ConnectKeeps, quiet, judging, seat_held, is_connected, seated, connect_causes, connect_step}
use Rattle.refusal.proofs.First.{first_stop, first_go}
use Rattle.call.proofs.Causes.{judging_numbered}

-- an outcome of which nothing is written
quietly : (o : Outcome) (n : ℕ) (words : List ℕ) → o ≡ quiet n words → Keeps o n 0 0 words [] []
quietly o n words e =
    record {
      refused = sym (ap (λ (x : Outcome). x.refusal) e);
      given = sym (ap (λ (x : Outcome). x.handle) e);
      counted = rw e;
      kept = sym (ap (λ (x : Outcome). x.words) e);
      written = rw e;
    }

module _ (src : Sources) (t : List ℕ) (seat version : ℕ) where
  by_cause : (n : Refusal) → first_cause (connect_causes src t seat) ≡ refusal_number n → ConnectKeeps (connect_step src t seat version) (Err n) t
  unfolding connect_step
  by_cause n e = quietly _ (refusal_number n) t (rw (e, ne_eqb (refusal_number n) 0 (number_least n)))

  pub connect_judged : (n : Refusal) → first_cause (judging src t seat) ≡ refusal_number n → ConnectKeeps (connect_step src t seat version) (Err n) t
  connect_judged n e = by_cause n (first_stop (judging src t seat) ((7, is_connected (seat_held t seat)) ∷ []) (refusal_number n) e (number_least n))

  pub connect_taken : first_cause (judging src t seat) ≡ 0 → is_connected (seat_held t seat) ≡ true
      → ConnectKeeps (connect_step src t seat version) (Err Connection) t
  unfolding first_cause
  connect_taken e c =
      by_cause Connection
      (first_go (judging src t seat) ((7, is_connected (seat_held t seat)) ∷ []) (judging_numbered src t seat) e ∙ rw c)

  pub connect_done : first_cause (judging src t seat) ≡ 0 → is_connected (seat_held t seat) ≡ false
      → ConnectKeeps (connect_step src t seat version) (Ok tt) (seated t seat (Some (fresh version)))
  unfolding first_cause connect_step
  connect_done e c =
      quietly _ 0 (seated t seat (Some (fresh version)))
      (rw (first_go (judging src t seat) ((7, is_connected (seat_held t seat)) ∷ []) (judging_numbered src t seat) e, c))
