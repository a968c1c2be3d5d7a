-- Every call, accepted or refused, keeps a table that passes 2 and 3 passing. Assumes nothing.
use mathlib.Core.Path.{◌≡◌, refl, sym, ap, subst, ◌∙◌}
use mathlib.Core.Bool.{true}
use mathlib.Core.List.{List, [], ◌∷◌, ◌++◌, map}
use mathlib.Core.Logic.{◌⊎◌, inl, ⊎_elim}
use Rattle.std.specs.Prelude.{Option, None, Some}
use Prim.Native.Nat.{ℕ, ◌+◌, ◌<◌}
use native.Mathlib.Omega.{arith}
use borrow.Author.Tests.{eqb-true, lt-ltb}
use lib.Dec.{ltb, eqb}
use lib.ListN.{length, get_or, length-map}
use Rattle.lists.proofs.Below.{by_test, true≢false, both_left, both_right, both_true, every_at, every_shown}
use Rattle.lists.proofs.Options.{none≢some, some_is}
use Rattle.catalogue.specs.Plain.{Row, catalogue, rows_of}
use Rattle.catalogue.specs.CataloguePlaces.{checked, row_count, places, row_seen}
use Rattle.catalogue.proofs.Agree.{accepted, catalogue_agrees, rows_counted}
use Rattle.lists.specs.Every.{every}
use Rattle.tree.specs.Tree.{Tree}
use Rattle.tree.specs.TreeHolds.{holds}
use Rattle.tree.specs.Reader.{restriction}
use Rattle.lists.proofs.Rising.{rises, rises_between}
use Rattle.tree.specs.Select.{selection, selected_by}
use Rattle.tree.proofs.Selection.{numbers_few, numbers_rise}
use Rattle.tree.proofs.SelectLaws.{rows_few}
use Rattle.table.specs.Layout.{seats, seat_part}
use Rattle.table.specs.Seat.{Cursor, Seat, seat_words, seat_of, fresh, opened, with_cursor}
use Rattle.table.specs.Well.{table_well, cursor_below, seat_below, table_below}
use Rattle.table.specs.Fits.{CursorFits, SeatOk}
use Rattle.table.proofs.Bounds.{every_shown as each-shown}
use Rattle.table.proofs.Seats.{seat_words_lem}
use Rattle.table.proofs.Tables.{same_or_not, seat_same, seat_other, still_well}
use Rattle.refusal.specs.Refusal.{first_cause}
use Rattle.message.specs.Message.{seat_message}
use Rattle.message.proofs.Bodies.{with_fits}
use Rattle.refusal.proofs.First.{first_both}
use Rattle.message.proofs.Keeping.{message_fits, message_below}
use Rattle.query.specs.Open.{free_handle, open_causes, opened_on}
use Rattle.call.specs.Step.{Sources, sources_of, open_done, open_step, rows_hold, judging, seat_held, is_connected, seated, sizing, connect_causes, connect_step, message_step}
use Rattle.call.proofs.Causes.{judging_numbered, passes}
use Rattle.call.proofs.Seating.{seat_ok}
use Rattle.call.specs.Passing.{Passing}

-- a seat of the table, below a bound
pub seat_below_lem : (bound : ℕ) (t : List ℕ) → table_below bound t ≡ true → (seat : ℕ) → seat < seats → seat_below bound (seat_held t seat) ≡ true
unfolding table_below
seat_below_lem bound t e seat h = every_at seats (λ k. seat_below bound (seat_of (seat_part t k))) e seat h

module _ (t : List ℕ) (w : table_well t ≡ true) (seat : ℕ) (h : seat < seats) (s : Option Seat) (f : SeatOk s) where
  seated_well : table_well (seated t seat s) ≡ true
  seated_well = still_well t w seat h (seat_words s) (seat_words_lem s f).size (seat_words_lem s f).well

  seated_below : (bound : ℕ) → table_below bound t ≡ true → seat_below bound s ≡ true → table_below bound (seated t seat s) ≡ true
  unfolding table_below
  seated_below bound e b = every_shown seats (λ k. seat_below bound (seat_of (seat_part (seated t seat s) k))) (λ k m. each k m (same_or_not k seat))
    where
      each : (k : ℕ) → k < seats → (k ≡ seat) ⊎ (k ≡ seat → ⊥) → seat_below bound (seat_of (seat_part (seated t seat s) k)) ≡ true
      each k m c =
          ⊎_elim
          (λ (p : k ≡ seat).
          ap (λ (j : ℕ). seat_below bound (seat_of (seat_part (seated t seat s) j))) p
          ∙ ap (λ (x : List ℕ). seat_below bound (seat_of x)) (seat_same t w seat h (seat_words s) (seat_words_lem s f).size)
          ∙ ap (seat_below bound) (seat_words_lem s f).held
          ∙ b)
          (λ (p : k ≡ seat → ⊥).
          ap (λ (x : List ℕ). seat_below bound (seat_of x)) (seat_other t w seat h (seat_words s) (seat_words_lem s f).size k m p)
          ∙ every_at seats (λ j. seat_below bound (seat_of (seat_part t j))) e k m)
          c

-- a seat that is fit, with rows below the catalogue's count, keeps the table passing
seated_passes : (src : Sources) (t : List ℕ) → Passing src t → (seat : ℕ) → seat < seats → (s : Option Seat) → SeatOk s
    → ((rows : List Row) → src.rows ≡ Some rows → table_below (length rows) t ≡ true → seat_below (length rows) s ≡ true) → Passing src (seated t seat s)
seated_passes src t p seat h s f b = record { well = seated_well t p.well seat h s f; holds = go src.rows refl p.holds }
  where
    go : (rows : Option (List Row)) → src.rows ≡ rows → rows_hold rows t ≡ true → rows_hold rows (seated t seat s) ≡ true
    go None q e = absurd (true≢false (sym e))
    go (Some rows) q e = seated_below t p.well seat h s f (length rows) e (b rows q e)

pub connect_passes : (src : Sources) (t : List ℕ) (seat version : ℕ) → Passing src t → Passing src (connect_step src t seat version).words
unfolding connect_step
connect_passes src t seat version p =
    by_test (eqb (first_cause (connect_causes src t seat)) 0)
    (λ q.
    let e = (first_both (judging src t seat) ((7, is_connected (seat_held t seat)) ∷ []) (judging_numbered src t seat) (eqb-true (first_cause (connect_causes src t seat)) 0 q)).0 in
    rw q (seated_passes src t p seat (passes src t seat e).seat_in_lem (Some (fresh version)) (tt, tt) (λ rows r b. refl)))
    (λ q. rw q p)

pub message_passes : (src : Sources) (t : List ℕ) (seat : ℕ) (m : List ℕ) (room : ℕ) → Passing src t → Passing src (message_step src t seat m room).words
unfolding message_step
message_passes src t seat m room p =
    by_test (eqb (first_cause (judging src t seat ++ sizing m room)) 0)
    (λ q.
    let e = (first_both (judging src t seat) (sizing m room) (judging_numbered src t seat) (eqb-true (first_cause (judging src t seat ++ sizing m room)) 0 q)).0 in
    let h = (passes src t seat e).seat_in_lem in
    rw q
    (seated_passes src t p seat h (seat_message (rows_of src.rows) (seat_held t seat) m).after
    (message_fits (rows_of src.rows) (seat_held t seat) m (seat_ok t p.well seat h))
    (λ rows r b. message_below (length rows) (rows_of src.rows) (seat_held t seat) m (seat_below_lem (length rows) t b seat h))))
    (λ q. rw q p)

-- the rows of a catalogue that parses are those that its check counts
rows_length : (s : List ℕ) (rows : List Row) → catalogue s ≡ Some rows → length rows ≡ row_count (checked s)
rows_length s rows e =
    by_test (accepted s)
    (λ q.
    let seen : catalogue s ≡ Some (map (row_seen s) (places s)) = catalogue_agrees s ∙ rw q in
    ap length (sym (some_is (sym seen ∙ e))) ∙ length-map (places s) (row_seen s) ∙ rows_counted s q)
    (λ q.
    let seen : catalogue s ≡ None = catalogue_agrees s ∙ rw q in
    absurd (none≢some (sym seen ∙ e)))

-- a cursor on a selection fits, and its rows are below the catalogue's count
pub selected_fits : (s : List ℕ) (tree : Option Tree) (rows : Option (List Row)) → catalogue s ≡ rows → CursorFits (opened (selected_by tree rows))
unfolding every
selected_fits s None rows e =
    record { position = omega arith; rows = omega arith; rising = λ i h. absurd (omega (arith, h)); bound = inl (refl, refl); tidied = refl }
selected_fits s (Some t) None e =
    record { position = omega arith; rows = omega arith; rising = λ i h. absurd (omega (arith, h)); bound = inl (refl, refl); tidied = refl }
selected_fits s (Some t) (Some rows) e =
    record {
      position = omega arith;
      rows = omega (arith, numbers_few 0 (holds t) rows, rows_length s rows e, rows_few s);
      rising = rises 0 (0 + length rows) (selection t rows) (numbers_rise 0 (holds t) rows);
      bound = inl (refl, refl);
      tidied = refl;
    }

selected_below : (tree : Option Tree) (rows : List Row) → every (λ row. ltb row (length rows)) (selected_by tree (Some rows)) ≡ true
unfolding every
selected_below None rows = refl
selected_below (Some t) rows =
    each-shown (λ row. ltb row (length rows)) (selection t rows) 0
    (λ k h.
    lt-ltb (get_or (selection t rows) k 0) (length rows)
    (omega (arith, (rises_between 0 (0 + length rows) (selection t rows) (numbers_rise 0 (holds t) rows) k h).1)))

with_below : (bound : ℕ) (s : Seat) (handle : ℕ) (o : Option Cursor) → seat_below bound (Some s) ≡ true → cursor_below bound o ≡ true
    → seat_below bound (Some (with_cursor s handle o)) ≡ true
with_below bound s handle o w c =
    by_test (eqb handle 1)
    (λ q. rw q (both_true (cursor_below bound o) _ c (both_right (cursor_below bound s.first) _ w)))
    (λ q. rw q (both_true (cursor_below bound s.first) _ (both_left _ (cursor_below bound s.second) w) c))

pub open_passes : (s t : List ℕ) (seat : ℕ) (tree : List ℕ) → Passing (sources_of s) t → Passing (sources_of s) (open_step (sources_of s) t seat tree).words
unfolding open_step
open_passes s t seat tree p =
    by_test (eqb (first_cause (judging (sources_of s) t seat ++ open_causes (seat_held t seat) tree)) 0)
    (λ q.
    let b = first_both (judging (sources_of s) t seat) (open_causes (seat_held t seat) tree) (judging_numbered (sources_of s) t seat)
    (eqb-true (first_cause (judging (sources_of s) t seat ++ open_causes (seat_held t seat) tree)) 0 q) in
    let h = (passes (sources_of s) t seat b.0).seat_in_lem in
    rw q (done (seat_held t seat) refl h))
    (λ q. rw q p)
  where
    done : (held : Option Seat) → seat_held t seat ≡ held → seat < seats → Passing (sources_of s) (open_done (sources_of s) t seat tree held).words
    done None e h = p
    done (Some k) e h =
        let f = subst SeatOk e (seat_ok t p.well seat h) in
        seated_passes (sources_of s) t p seat h (Some (opened_on k tree (catalogue s)))
        (with_fits k (free_handle k) (Some (opened (selected_by (restriction tree) (catalogue s)))) f.0 f.1
        (selected_fits s (restriction tree) (catalogue s) refl))
        (λ rows r b.
        with_below (length rows) k (free_handle k) (Some (opened (selected_by (restriction tree) (catalogue s))))
        (ap (seat_below (length rows)) (sym e) ∙ seat_below_lem (length rows) t b seat h)
        (ap (λ (x : Option (List Row)). every (λ row. ltb row (length rows)) (selected_by (restriction tree) x)) r ∙ selected_below (restriction tree) rows))
