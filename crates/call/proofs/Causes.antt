-- Laws of causes in their order, and of the three that every call begins with. Assumes nothing.
use mathlib.Core.Path.{◌≡◌, sym, ap, ◌∙◌}
use mathlib.Core.Bool.{true, false}
use mathlib.Core.List.{List}
use Prim.Native.Nat.{ℕ, ◌≤◌, ◌<◌}
use native.Mathlib.Omega.{arith}
use borrow.Author.Tests.{lt-ltb, le-ltb, ltb-false, eq-eqb, ne_eqb}
use lib.Dec.{ltb}
use lib.ListN.{length-map}
use Rattle.lists.proofs.Below.{by_test}
use Rattle.catalogue.specs.Plain.{catalogue, refusal_of}
use Rattle.catalogue.specs.CataloguePlaces.{checked, row_count, places, noted, row_seen}
use Rattle.catalogue.proofs.Agree.{accepted, catalogue_agrees, rows_counted}
use Rattle.table.specs.Layout.{seats}
use Rattle.table.specs.Well.{table_well, table_below}
use Rattle.std.specs.Prelude.{Ok, Err}
use Rattle.refusal.specs.declared.Refusal.{Refusal}
use Rattle.refusal.specs.Refusal.{first_cause}
use Rattle.refusal.specs.Numbers.{refusal_number}
use Rattle.refusal.proofs.Numbers.{number_back, refused_number, given_number, given_is}
use Rattle.refusal.proofs.First.{Numbered, first_under}
use Rattle.call.specs.Step.{Sources, sources_of, rows_hold, judging}
use Rattle.call.specs.JudgementTold.{judged_by, judged_with, placed_with, Judgement}

pub judging_numbered : (src : Sources) (t : List ℕ) (seat : ℕ) → Numbered (judging src t seat)
judging_numbered src t seat = ((λ e. omega arith), ((λ e. omega arith), ((λ e. omega arith), tt)))

-- the rows of a catalogue that is accepted, and of one that is not
pub rows_hold_lem : (s t : List ℕ) → refusal_of (checked s) ≡ 0 → rows_hold (catalogue s) t ≡ table_below (row_count (checked s)) t
rows_hold_lem s t e =
    let a : accepted s ≡ true = eq-eqb (refusal_of (checked s)) 0 e in
    rw (catalogue_agrees s, a) (ap (λ (n : ℕ). table_below n t) (length-map (places s) (row_seen s) ∙ rows_counted s a))

pub no_rows : (s t : List ℕ) → (refusal_of (checked s) ≡ 0 → ⊥) → rows_hold (catalogue s) t ≡ false
no_rows s t e =
    let a : accepted s ≡ false = ne_eqb (refusal_of (checked s)) 0 e in
    rw (catalogue_agrees s, a)

-- the ways that the judgement can go
module _ (s t : List ℕ) (seat : ℕ) where
  pub seat_refused : 7 < seat → first_cause (judging (sources_of s) t seat) ≡ 1
  unfolding first_cause
  seat_refused h = rw (lt-ltb 7 seat h)

  pub table_refused : seat ≤ 7 → table_well t ≡ false → first_cause (judging (sources_of s) t seat) ≡ 2
  unfolding first_cause
  table_refused h w = rw (le-ltb 7 seat h, w)

  pub rows_refused : seat ≤ 7 → table_well t ≡ true → rows_hold (catalogue s) t ≡ false → first_cause (judging (sources_of s) t seat) ≡ 3
  unfolding first_cause
  rows_refused h w r = rw (le-ltb 7 seat h, w, r)

  pub none_refused : seat ≤ 7 → table_well t ≡ true → rows_hold (catalogue s) t ≡ true → first_cause (judging (sources_of s) t seat) ≡ 0
  unfolding first_cause
  none_refused h w r = rw (le-ltb 7 seat h, w, r)

-- what holds where none of the three applies
pub record Passes (src : Sources) (t : List ℕ) (seat : ℕ) : Type 0 where
  pub seat_in_lem : seat < seats
  pub table_in : table_well t ≡ true
  pub rows_in : rows_hold src.rows t ≡ true

pub passes : (src : Sources) (t : List ℕ) (seat : ℕ) → first_cause (judging src t seat) ≡ 0 → Passes src t seat
unfolding first_cause
passes src t seat e =
    by_test (ltb 7 seat)
    (λ q. absurd (let z : 1 ≡ 0 = rw q at e in omega arith))
    (λ q.
    by_test (table_well t)
    (λ w.
    by_test (rows_hold src.rows t)
    (λ r. record { seat_in_lem = omega (arith, ltb-false 7 seat q); table_in = w; rows_in = r })
    (λ r. absurd (let z : 3 ≡ 0 = rw (q, w, r) at e in omega arith)))
    (λ w. absurd (let z : 2 ≡ 0 = rw (q, w) at e in omega arith)))

-- the judgement by the refusal that was found
pub judged_refused : (t s : List ℕ) (seat : ℕ) (n : Refusal) (held found : List ℕ) → judged_by t s seat ≡ refusal_number n → found ≡ placed_with (refusal_number n) s held
    → Judgement t s seat (Err n) held found
judged_refused t s seat n held found e f = record { answered = rw e (sym (number_back n (row_count (checked s)))); placed = rw e f }

pub judged_passed : (t s : List ℕ) (seat rows : ℕ) (held found : List ℕ) → judged_by t s seat ≡ 0 → rows ≡ row_count (checked s) → found ≡ noted s held
    → Judgement t s seat (Ok rows) held found
judged_passed t s seat rows held found e r f = record { answered = rw e (ap Ok r); placed = rw e f }

-- what a judgement says: its refusal, and where there is none, the row count and the place of each row
judged_small : (t s : List ℕ) (seat : ℕ) → judged_by t s seat < 17
judged_small t s seat = first_under 17 (judging (sources_of s) t seat) (omega arith) (omega arith, (omega arith, (omega arith, tt)))

pub refused_by_lem : {t s held found : List ℕ} {seat : ℕ} {n : Refusal} → Judgement t s seat (Err n) held found → judged_by t s seat ≡ refusal_number n
refused_by_lem {t = t} {s = s} {seat = seat} {n = n} j = refused_number (judged_by t s seat) (row_count (checked s)) n (judged_small t s seat) j.answered

module _ {t s held found : List ℕ} {seat rows : ℕ} (j : Judgement t s seat (Ok rows) held found) where
  pub passed_by : judged_by t s seat ≡ 0
  passed_by = given_number (judged_by t s seat) (row_count (checked s)) rows (judged_small t s seat) j.answered

  pub rows_told : rows ≡ row_count (checked s)
  rows_told = given_is rows (row_count (checked s)) (j.answered ∙ ap (λ (n : ℕ). judged_with n s) passed_by)

  pub places_told : found ≡ noted s held
  places_told = j.placed ∙ ap (λ (n : ℕ). placed_with n s held) passed_by
