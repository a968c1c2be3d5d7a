-- The ways that fetching rows can go: refused, or done. Assumes nothing.
use mathlib.Core.Path.{◌≡◌, refl, sym, ap, ◌∙◌}
use mathlib.Core.Bool.{true, false}
use mathlib.Core.List.{List, [], ◌∷◌, ◌++◌}
use Rattle.std.specs.Prelude.{Some, Result, Ok, Err}
use Prim.Native.Nat.{ℕ, ◌+◌, ◌<◌}
use native.Mathlib.Omega.{arith}
use borrow.Author.Tests.{eqb-true, eqb-false}
use lib.Dec.{eqb}
use lib.ListN.{length, get_or, set, drop}
use Rattle.lists.proofs.Below.{by_test}
use Rattle.catalogue.specs.Plain.{catalogue, rows_of}
use Rattle.table.specs.Seat.{Cursor, cursor_words, cursor_held}
use Rattle.table.proofs.Writes.{moved_words}
use Rattle.refusal.specs.Refusal.{first_cause}
use Rattle.refusal.specs.declared.Refusal.{Refusal}
use Rattle.refusal.specs.declared.Refusal.TheVariants.{RowUnfit}
use Rattle.refusal.specs.Numbers.{refusal_number, judged, number_of}
use Rattle.refusal.proofs.Numbers.{refused_number, given_number, number_least, judged_same}
use Rattle.refusal.proofs.First.{first_stop, first_go, first_both, first_under}
use Rattle.fetch.specs.declared.Request.{Request}
use Rattle.page.specs.Page.{status_for}
use Rattle.page.proofs.Greatest.{returned_room}
use Rattle.page.proofs.Reply.{bytes_length}
use Rattle.fetch.specs.Fetch.{remaining, first_unfit, early_causes, fetch_causes, sent, rows_sent, then_left, fetch_reply}
use Rattle.fetch.specs.FetchReady.{FetchReady}
use Rattle.fetch.specs.FetchTold.{Fetched}
use Rattle.fetch.proofs.Facts.{bindings_fit}
use Rattle.fetch.proofs.Sending.{inside}

-- refused: all is as it was
refused_by_lem : (b s : List ℕ) (q : Request) (r : Refusal) (entry : List ℕ) → first_cause (fetch_causes (rows_of (catalogue s)) (cursor_held b) q) ≡ refusal_number r
    → Fetched b s q (Err r) b entry entry
refused_by_lem b s q r entry e =
    record {
      refused = sym e;
      unmoved = λ w. refl;
      unwritten = λ w. refl;
      moved = λ w. absurd (number_least r w);
      written = λ w. absurd (number_least r w);
    }

early_small : (c : Cursor) (q : Request) → first_cause (early_causes c q) < 17
early_small c q = first_under 17 (early_causes c q) (omega arith) (omega arith, (omega arith, (omega arith, tt)))

pub early_refused : (b s : List ℕ) (q : Request) (r : Refusal) (entry : List ℕ) → Err r ≡ judged (first_cause (early_causes (cursor_held b) q))
    → Fetched b s q (Err r) b entry entry
early_refused b s q r entry e =
    refused_by_lem b s q r entry
    (first_stop (early_causes (cursor_held b) q) ((15, first_unfit (cursor_held b) q (remaining (rows_of (catalogue s)) (cursor_held b))) ∷ []) (refusal_number r)
    (refused_number _ tt r (early_small (cursor_held b) q) e) (number_least r))

-- passed: none of 11 to 13 applies
pub early_passed : (b : List ℕ) (q : Request) → Ok tt ≡ judged (first_cause (early_causes (cursor_held b) q)) → first_cause (early_causes (cursor_held b) q) ≡ 0
early_passed b q e = given_number _ tt tt (early_small (cursor_held b) q) e

module _ (b s : List ℕ) (q : Request) (early : first_cause (early_causes (cursor_held b) q) ≡ 0) where
  causes : first_cause (fetch_causes (rows_of (catalogue s)) (cursor_held b) q)
      ≡ first_cause ((15, first_unfit (cursor_held b) q (remaining (rows_of (catalogue s)) (cursor_held b))) ∷ [])
  causes =
      first_go (early_causes (cursor_held b) q) ((15, first_unfit (cursor_held b) q (remaining (rows_of (catalogue s)) (cursor_held b))) ∷ [])
      ((λ e. omega arith), ((λ e. omega arith), ((λ e. omega arith), tt))) early

  pub late_refused : (entry : List ℕ) → first_unfit (cursor_held b) q (remaining (rows_of (catalogue s)) (cursor_held b)) ≡ true → Fetched b s q (Err RowUnfit) b entry entry
  unfolding first_cause
  late_refused entry e = refused_by_lem b s q RowUnfit entry (causes ∙ rw e)

  pub fetch_done : (k : ℕ) (words entry exit : List ℕ) → b ≡ cursor_words (Some (cursor_held b))
      → first_unfit (cursor_held b) q (remaining (rows_of (catalogue s)) (cursor_held b)) ≡ false → k ≡ sent (rows_of (catalogue s)) (cursor_held b) q
      → words ≡ set b 1 (get_or b 1 0 + k) → exit ≡ fetch_reply (rows_of (catalogue s)) (cursor_held b) q ++ drop q.size entry
      → Fetched b s q (Ok tt) words entry exit
  unfolding first_cause
  fetch_done k words entry exit held e counted m w =
      record {
        refused = sym (causes ∙ rw e);
        unmoved = λ z. absurd (z refl);
        unwritten = λ z. absurd (z refl);
        moved = λ z.
            m
            ∙ ap (λ (n : ℕ). set b 1 (get_or b 1 0 + n)) counted
            ∙ ap (λ (x : List ℕ). set x 1 (get_or b 1 0 + sent (rows_of (catalogue s)) (cursor_held b) q)) held
            ∙ moved_words (cursor_held b) (get_or b 1 0 + sent (rows_of (catalogue s)) (cursor_held b) q);
        written = λ z. w;
      }

-- any two outcomes agree
pub fetched_once : (b s : List ℕ) (q : Request) (r r' : Result Unit Refusal) (k k' entry x x' : List ℕ) → Fetched b s q r k entry x → Fetched b s q r' k' entry x'
    → (r ≡ r') × (k ≡ k') × (x ≡ x')
fetched_once b s q r r' k k' entry x x' f g =
    by_test (eqb (number_of r) 0)
    (λ z.
    let e : number_of r ≡ 0 = eqb-true (number_of r) 0 z in
    let e' : number_of r' ≡ 0 = sym same ∙ e in
    (judged_same r r' same, f.moved e ∙ sym (g.moved e'), f.written e ∙ sym (g.written e')))
    (λ z.
    let n : number_of r ≡ 0 → ⊥ = eqb-false (number_of r) 0 z in
    let n' : number_of r' ≡ 0 → ⊥ = λ w. n (same ∙ w) in
    (judged_same r r' same, f.unmoved n ∙ sym (g.unmoved n'), f.unwritten n ∙ sym (g.unwritten n')))
  where
    same : number_of r ≡ number_of r'
    same = f.refused ∙ sym g.refused

-- a request that is not refused: its reply has the size that was asked for
pub reply_length : (b s places : List ℕ) (q : Request) (buffer : ℕ) → FetchReady b s places q buffer
    → first_cause (fetch_causes (rows_of (catalogue s)) (cursor_held b) q) ≡ 0 → length (fetch_reply (rows_of (catalogue s)) (cursor_held b) q) ≡ q.size
reply_length b s places q buffer r e =
    bytes_length q.size q.from (cursor_held b).width q.base (status_for (then_left (rows_of (catalogue s)) (cursor_held b) q)) (cursor_held b).columns
    (rows_sent (rows_of (catalogue s)) (cursor_held b) q)
    (bindings_fit b s places q buffer r
    (first_both (early_causes (cursor_held b) q) ((15, first_unfit (cursor_held b) q (remaining (rows_of (catalogue s)) (cursor_held b))) ∷ [])
    ((λ z. omega arith), ((λ z. omega arith), ((λ z. omega arith), tt))) e).0)
    r.sound.from_least
    (returned_room q.size q.from (cursor_held b).width (cursor_held b).columns q.asked (remaining (rows_of (catalogue s)) (cursor_held b)) (inside b s places q buffer r))
