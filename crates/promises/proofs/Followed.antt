-- What is known of a seat goes on with the calls as the seat itself does: one law for its version and for its cursors. Assumes nothing.
use mathlib.Core.Path.{◌≡◌, refl, sym, ap, subst, ◌∙◌}
use mathlib.Core.Bool.{Bool, true, false}
use mathlib.Core.List.{List, [], ◌∷◌}
use Rattle.std.specs.Prelude.{Option}
use Prim.Native.Nat.{ℕ, ◌<◌}
use borrow.Author.Tests.{eqb-true, eqb-false}
use lib.Dec.{eqb}
use Rattle.lists.specs.Below.{both}
use Rattle.lists.proofs.Below.{by_test}
use Rattle.table.specs.Layout.{seats}
use Rattle.table.specs.Seat.{Seat}
use Rattle.table.specs.Fits.{SeatOk}
use Rattle.call.specs.Step.{Sources, sources_of, seat_held}
use Rattle.call.proofs.Seating.{seat_ok}
use Rattle.promises.specs.Calls.{Call, seat_of_call, step, Answer, answer_of, history, after}
use Rattle.promises.specs.Client.{accepted, told}
use Rattle.promises.proofs.Refusals.{accepted_passes}
use Rattle.promises.proofs.Unchanged.{refused_leaves}
use Rattle.promises.proofs.Alone.{own_step, step_alone}
use Rattle.promises.proofs.Isolated.{others_left}

-- what a seat shows, and what a call with its answer makes of what is known: nothing where the call is refused or another seat's, else
-- what the seat then shows
pub record Follows {A : Type 0} (src : Sources) (seat : ℕ) (view : Option Seat → A) (next : A → Call → Answer → A) : Type 0 where
  pub unheard : (c : Call) (known : A) (a : Answer) → accepted seat (seat_of_call c) a ≡ false → next known c a ≡ known
  pub own : (held : Option Seat) (c : Call) → SeatOk held → eqb (seat_of_call c) seat ≡ true → (own_step src held c).answer.refusal ≡ 0
      → view (own_step src held c).after ≡ next (view held) c (own_step src held c).answer

module _ {A : Type 0} (s : List ℕ) (seat : ℕ) (view : Option Seat → A) (next : A → Call → Answer → A) (f : Follows (sources_of s) seat view next)
    (h : seat < seats) where
  -- a call in any table
  pub step_followed : (t : List ℕ) (c : Call)
      → view (seat_held (step (sources_of s) t c).words seat) ≡ next (view (seat_held t seat)) c (answer_of (step (sources_of s) t c))
  step_followed t c =
      by_test (eqb (step (sources_of s) t c).refusal 0)
      (λ q. accept (eqb-true (step (sources_of s) t c).refusal 0 q))
      (λ q.
      ap (λ (x : List ℕ). view (seat_held x seat)) (refused_leaves (sources_of s) t c (eqb-false (step (sources_of s) t c).refusal 0 q)).words
      ∙ sym (f.unheard c (view (seat_held t seat)) (answer_of (step (sources_of s) t c)) (refused (eqb (seat_of_call c) seat) q)))
    where
      refused : (b : Bool) → eqb (step (sources_of s) t c).refusal 0 ≡ false → both b (eqb (step (sources_of s) t c).refusal 0) ≡ false
      refused true q = q
      refused false q = refl

      accept : (step (sources_of s) t c).refusal ≡ 0
          → view (seat_held (step (sources_of s) t c).words seat) ≡ next (view (seat_held t seat)) c (answer_of (step (sources_of s) t c))
      accept z =
          let a = accepted_passes (sources_of s) t c z in
          let l = step_alone s t (record { well = a.table_in; holds = a.rows_in }) c a.seat_in_lem in
          by_test (eqb (seat_of_call c) seat)
          (λ q.
          let same : seat_of_call c ≡ seat = eqb-true (seat_of_call c) seat q in
          ap view (subst (λ (j : ℕ). seat_held (step (sources_of s) t c).words j ≡ (own_step (sources_of s) (seat_held t j) c).after) same l.held)
          ∙ f.own (seat_held t seat) c (seat_ok t a.table_in seat h) q
          (subst (λ (j : ℕ). (own_step (sources_of s) (seat_held t j) c).answer.refusal ≡ 0) same (sym (ap (λ (x : Answer). x.refusal) l.answer) ∙ z))
          ∙ ap (next (view (seat_held t seat)) c)
          (sym (subst (λ (j : ℕ). answer_of (step (sources_of s) t c) ≡ (own_step (sources_of s) (seat_held t j) c).answer) same l.answer)))
          (λ q.
          ap view (others_left s t c seat h (λ w. eqb-false (seat_of_call c) seat q (sym w)))
          ∙ sym (f.unheard c (view (seat_held t seat)) (answer_of (step (sources_of s) t c)) (rw q)))

  -- any calls from any table
  pub after_followed : (t : List ℕ) (calls : List Call)
      → view (seat_held (after (sources_of s) t calls) seat) ≡ told next (view (seat_held t seat)) (history (sources_of s) t calls)
  unfolding after history told
  after_followed t [] = refl
  after_followed t (c ∷ calls) =
      after_followed (step (sources_of s) t c).words calls
      ∙ ap (λ (known : A). told next known (history (sources_of s) (step (sources_of s) t c).words calls)) (step_followed t c)
