-- An accepted opening selects exactly the rows that its tree holds for, under the lowest free handle. Assumes nothing.
use mathlib.Core.Path.{◌≡◌, refl, sym, ap, ap₂, subst, ◌∙◌}
use mathlib.Core.Bool.{true, false}
use mathlib.Core.List.{List, ◌++◌}
use mathlib.Core.Logic.{◌⊎◌, inl, inr}
use Rattle.std.specs.Prelude.{Option, None, Some}
use Prim.Native.Nat.{ℕ}
use native.Mathlib.Omega.{arith}
use borrow.Author.Tests.{eq-eqb}
use lib.Dec.{eqb}
use Rattle.lists.proofs.Below.{by_test, true≢false}
use Rattle.catalogue.specs.Plain.{Row, catalogue}
use Rattle.tree.specs.Tree.{Tree}
use Rattle.tree.specs.Reader.{restriction, is_tree}
use Rattle.tree.specs.Select.{selection, selected_by}
use Rattle.tree.proofs.Selection.{selection_has, selection_rises}
use Rattle.table.specs.Seat.{Cursor, Seat, cursor_in, opened}
use Rattle.refusal.specs.Refusal.{first_cause}
use Rattle.refusal.proofs.First.{first_both}
use Rattle.table.specs.Open.{is_open}
use Rattle.query.specs.Open.{free_handle, open_causes}
use Rattle.call.specs.Step.{Sources, sources_of, Outcome, rows_hold, judging, seat_held, open_done, open_step}
use Rattle.call.proofs.Causes.{judging_numbered}
use Rattle.call.proofs.Opening.{closed}
use Rattle.promises.specs.Calls.{opening, step, Answer, answer_of}
use Rattle.promises.specs.Client.{after_call, cursor_account, version_of, cursor_by, held_cursor}
use Rattle.promises.specs.Opens.{Opens}
use Rattle.promises.proofs.Refusals.{refusal_is, accepted_passes}
use Rattle.promises.proofs.Carried.{free_handle_lem, step_told}
use Rattle.promises.proofs.Connected.{version_step}

-- what an opening that is accepted has
record Admitted (s t : List ℕ) (seat : ℕ) (bytes : List ℕ) : Type 0 where
  rows : List Row
  tree : Tree
  held : Seat
  parsed : catalogue s ≡ Some rows
  read : restriction bytes ≡ Some tree
  holds : seat_held t seat ≡ Some held
  free : eqb (free_handle held) 0 ≡ false
  given : (open_step (sources_of s) t seat bytes).handle ≡ free_handle held

admitted : (s t : List ℕ) (seat : ℕ) (bytes : List ℕ) → (open_step (sources_of s) t seat bytes).refusal ≡ 0 → Admitted s t seat bytes
unfolding first_cause open_step
admitted s t seat bytes z =
    let a = accepted_passes (sources_of s) t (opening seat bytes) z in
    let f : first_cause (judging (sources_of s) t seat ++ open_causes (seat_held t seat) bytes) ≡ 0 = sym (refusal_is (sources_of s) t (opening seat bytes)) ∙ z in
    let b = first_both (judging (sources_of s) t seat) (open_causes (seat_held t seat) bytes) (judging_numbered (sources_of s) t seat) f in
    go (catalogue s) refl a.rows_in (restriction bytes) refl (seat_held t seat) refl b.1
    (rw (eq-eqb (first_cause (judging (sources_of s) t seat ++ open_causes (seat_held t seat) bytes)) 0 f))
  where
    go : (found : Option (List Row)) → catalogue s ≡ found → rows_hold found t ≡ true → (read : Option Tree) → restriction bytes ≡ read
        → (o : Option Seat) → seat_held t seat ≡ o → first_cause (open_causes o bytes) ≡ 0
        → (open_step (sources_of s) t seat bytes).handle ≡ (open_done (sources_of s) t seat bytes (seat_held t seat)).handle
        → Admitted s t seat bytes
    go None p h read r o q e g = absurd (true≢false (sym h))
    go (Some rows) p h read r None q e g = absurd (let w : ◌≡◌ {A = ℕ} 7 0 = e in omega arith)
    go (Some rows) p h read r (Some k) q e g =
        by_test (eqb (free_handle k) 0)
        (λ l. absurd (let w : ◌≡◌ {A = ℕ} 14 0 = rw l at e in omega arith))
        (λ l.
        by_test (is_tree (restriction bytes))
        (λ i. has_tree read r (ap is_tree (sym r) ∙ i) l)
        (λ i. absurd (let w : ◌≡◌ {A = ℕ} 16 0 = rw (l, i) at e in omega arith)))
      where
        has_tree : (x : Option Tree) → restriction bytes ≡ x → is_tree x ≡ true → eqb (free_handle k) 0 ≡ false → Admitted s t seat bytes
        has_tree None r i l = absurd (true≢false (sym i))
        has_tree (Some tree) r i l =
            record {
              rows = rows;
              tree = tree;
              held = k;
              parsed = p;
              read = r;
              holds = q;
              free = l;
              given = g ∙ ap (λ (o : Option Seat). (open_done (sources_of s) t seat bytes o).handle) q;
            }

-- the handle that is given is the lowest that is free
still_open_lem : (o : Option Cursor) → is_open o ≡ true → o ≡ None → ⊥
still_open_lem o e n = true≢false (sym e ∙ ap is_open n)

lowest : (k : Seat) → eqb (free_handle k) 0 ≡ false
    → (cursor_in k (free_handle k) ≡ None) × ((free_handle k ≡ 1) ⊎ ((free_handle k ≡ 2) × (cursor_in k 1 ≡ None → ⊥)))
lowest k e =
    by_test (is_open k.first)
    (λ q.
    by_test (is_open k.second)
    (λ l. absurd (true≢false (rw (q, l) at e)))
    (λ l. rw (q, l) (closed k.second l, inr (refl, still_open_lem k.first q))))
    (λ q. rw q (closed k.first q, inl refl))

begun : (src : Sources) (seat : ℕ) (tree : List ℕ) (a : Answer) (c : Option Cursor) → a.refusal ≡ 0
    → after_call (cursor_account src) seat a.handle c (opening seat tree) a ≡ Some (opened (selected_by (restriction tree) src.rows))
begun src seat tree a c e = rw (eq-eqb seat seat refl, eq-eqb a.refusal 0 e, eq-eqb a.handle a.handle refl)

pub opens : (s t : List ℕ) (seat : ℕ) (bytes : List ℕ) → (step (sources_of s) t (opening seat bytes)).refusal ≡ 0
    → Opens s t seat bytes (step (sources_of s) t (opening seat bytes))
opens s t seat bytes z =
    let o : Outcome = open_step (sources_of s) t seat bytes in
    let x = admitted s t seat bytes z in
    let a = accepted_passes (sources_of s) t (opening seat bytes) z in
    let n = subst (λ (h : ℕ). (h ≡ 1) ⊎ (h ≡ 2)) (sym x.given) (free_handle_lem x.held x.free) in
    let l = lowest x.held x.free in
    let by : (handle : ℕ) → held_cursor t seat handle ≡ cursor_in x.held handle = λ handle. ap (λ (k : Option Seat). cursor_by k handle) x.holds in
    record {
      rows = x.rows;
      tree = x.tree;
      selection = selection x.tree x.rows;
      parsed = x.parsed;
      read = x.read;
      selects = record { has = selection_has x.tree x.rows _; rises = selection_rises x.tree x.rows };
      free = by o.handle ∙ ap (cursor_in x.held) x.given ∙ l.0;
      lowest =
          subst (λ (h : ℕ). (h ≡ 1) ⊎ ((h ≡ 2) × (held_cursor t seat 1 ≡ None → ⊥))) (sym x.given)
          (subst (λ (c : Option Cursor). (free_handle x.held ≡ 1) ⊎ ((free_handle x.held ≡ 2) × (c ≡ None → ⊥))) (sym (by 1)) l.1);
      version = (x.held, x.holds, version_step s t (opening seat bytes) seat a.seat_in_lem ∙ ap version_of x.holds);
      cursor =
          step_told s t (opening seat bytes) seat o.handle a.seat_in_lem n
          ∙ begun (sources_of s) seat bytes (answer_of o) (held_cursor t seat o.handle) z
          ∙ ap (λ (i : List ℕ). Some (opened i)) (ap₂ selected_by x.read x.parsed);
    }
