-- Every table that calls reach from the fresh one passes refusals 2 and 3. Assumes nothing.
use mathlib.Core.Path.{◌≡◌, refl, sym, ap, ◌∙◌}
use mathlib.Core.Bool.{true}
use mathlib.Core.List.{List, [], ◌∷◌, ◌++◌}
use Rattle.std.specs.Prelude.{Option, None, Some}
use Prim.Native.Nat.{ℕ, ◌+◌, ◌-◌, ◌<◌}
use native.Mathlib.Omega.{arith}
use borrow.Author.Tests.{eq-eqb}
use lib.Dec.{eqb}
use lib.ListN.{length, take, replicate, length-replicate, replicate-append-replicate}
use lib.Seq.{take_at, drop_at}
use Rattle.lists.proofs.Below.{true≢false, both_true, every_shown}
use Rattle.catalogue.specs.Plain.{Row, catalogue}
use Rattle.table.specs.Layout.{seats, seat_size, seat_at, table_size, seat_part}
use Rattle.lists.specs.Parts.{part}
use Rattle.table.specs.Seat.{seat_words, seat_of}
use Rattle.table.specs.Well.{seat_well, table_well, seat_below, table_below}
use Rattle.table.proofs.Seats.{seat_words_lem}
use Rattle.call.specs.Step.{Sources, sources_of, rows_hold, seat_held}
use Rattle.call.proofs.Passing.{connect_passes, open_passes, message_passes}
use Rattle.call.specs.Passing.{Passing}
use Rattle.promises.specs.Calls.{Call, connecting, opening, messaging, step, after, fresh_table}
use Rattle.promises.proofs.Refusals.{accepted_passes}
use Rattle.promises.proofs.Unchanged.{refused_leaves}

-- a call keeps a table that passes
pub step_passes : (s t : List ℕ) (c : Call) → Passing (sources_of s) t → Passing (sources_of s) (step (sources_of s) t c).words
step_passes s t (connecting seat version) p = connect_passes (sources_of s) t seat version p
step_passes s t (opening seat tree) p = open_passes s t seat tree p
step_passes s t (messaging seat m room) p = message_passes (sources_of s) t seat m room p

pub after_passes : (s t : List ℕ) (calls : List Call) → Passing (sources_of s) t → Passing (sources_of s) (after (sources_of s) t calls)
unfolding after
after_passes s t [] p = p
after_passes s t (c ∷ calls) p = after_passes s (step (sources_of s) t c).words calls (step_passes s t c p)

-- over a malformed catalogue every call is refused
pub malformed_refused : (src : Sources) (t : List ℕ) (c : Call) → src.rows ≡ None → (step src t c).refusal ≡ 0 → ⊥
malformed_refused src t c e z =
    true≢false (sym (accepted_passes src t c z).rows_in ∙ ap (λ (o : Option (List Row)). rows_hold o t) e)

pub malformed_after : (src : Sources) (t : List ℕ) (calls : List Call) → src.rows ≡ None → after src t calls ≡ t
unfolding after
malformed_after src t [] e = refl
malformed_after src t (c ∷ calls) e =
    malformed_after src (step src t c).words calls e ∙ (refused_leaves src t c (malformed_refused src t c e)).words

-- the fresh table: every seat's words are zero, so it is unconnected
part_zero : (total at n rest : ℕ) → total ≡ at + (n + rest) → part (replicate total 0) at n ≡ replicate n 0
part_zero total at n rest e =
    ap (λ (k : ℕ). part (replicate k 0) at n) e
    ∙ ap (λ (t : List ℕ). part t at n)
    (sym (replicate-append-replicate at (n + rest) 0) ∙ ap (λ (t : List ℕ). replicate at 0 ++ t) (sym (replicate-append-replicate n rest 0)))
    ∙ ap (take n) (drop_at (replicate at 0) (replicate n 0 ++ replicate rest 0) at (length-replicate at 0))
    ∙ take_at (replicate n 0) (replicate rest 0) n (length-replicate n 0)

zero_words : (seat : ℕ) → seat < seats → seat_part fresh_table seat ≡ seat_words None
unfolding fresh_table
zero_words seat h = part_zero table_size (seat_at seat) seat_size (table_size - (seat_at seat + seat_size)) (omega arith)

pub fresh_seat : (seat : ℕ) → seat < seats → seat_held fresh_table seat ≡ None
fresh_seat seat h = ap seat_of (zero_words seat h) ∙ (seat_words_lem None tt).held

pub fresh_well : table_well fresh_table ≡ true
unfolding table_well fresh_table
fresh_well =
    both_true (eqb (length fresh_table) table_size) _
    (eq-eqb (length fresh_table) table_size (length-replicate {A = ℕ} table_size 0))
    (every_shown seats (λ seat. seat_well (seat_part fresh_table seat)) (λ seat h. ap seat_well (zero_words seat h) ∙ (seat_words_lem None tt).well))

pub fresh_below : (bound : ℕ) → table_below bound fresh_table ≡ true
unfolding table_below
fresh_below bound =
    every_shown seats (λ seat. seat_below bound (seat_of (seat_part fresh_table seat))) (λ seat h. ap (seat_below bound) (fresh_seat seat h))

pub fresh_passes : (s : List ℕ) (rows : List Row) → catalogue s ≡ Some rows → Passing (sources_of s) fresh_table
fresh_passes s rows e =
    record { well = fresh_well; holds = ap (λ (o : Option (List Row)). rows_hold o fresh_table) e ∙ fresh_below (length rows) }

-- every table that calls reach passes 2, and 3 where the catalogue is well formed
pub reached_passes : (s : List ℕ) (rows : List Row) (calls : List Call) → catalogue s ≡ Some rows
    → Passing (sources_of s) (after (sources_of s) fresh_table calls)
reached_passes s rows calls e = after_passes s fresh_table calls (fresh_passes s rows e)

pub reached_well : (s : List ℕ) (calls : List Call) → table_well (after (sources_of s) fresh_table calls) ≡ true
reached_well s calls = go (catalogue s) refl
  where
    go : (o : Option (List Row)) → catalogue s ≡ o → table_well (after (sources_of s) fresh_table calls) ≡ true
    go None e = ap table_well (malformed_after (sources_of s) fresh_table calls e) ∙ fresh_well
    go (Some rows) e = (reached_passes s rows calls e).well
