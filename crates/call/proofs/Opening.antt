-- The ways that opening can go. Assumes nothing.
use mathlib.Core.Path.{◌≡◌, refl, sym, ap, subst, ◌∙◌}
use mathlib.Core.Bool.{true, false}
use mathlib.Core.List.{List, ◌++◌}
use Rattle.std.specs.Prelude.{Option, None, Some, Ok, Err}
use Rattle.refusal.specs.declared.Refusal.{Refusal}
use Rattle.refusal.specs.Numbers.{refusal_number}
use Rattle.refusal.proofs.Numbers.{number_least}
use Rattle.table.specs.declared.Handle.{Handle}
use Prim.Native.Nat.{ℕ, ◌≤◌, ◌<◌}
use native.Mathlib.Omega.{arith}
use borrow.Author.Tests.{eq-eqb, ne_eqb, eqb-true, eqb-false}
use lib.ListN.{length, take}
use lib.Seq.{take_at, drop_at, take_all}
use lib.Dec.{eqb}
use Rattle.lists.proofs.Below.{by_test, true≢false}
use Rattle.catalogue.specs.Limits.{rows_most}
use Rattle.catalogue.specs.Plain.{catalogue, refusal_of}
use Rattle.catalogue.specs.CataloguePlaces.{checked, row_count}
use Rattle.catalogue.proofs.CheckLaws.{counted_lem}
use Rattle.tree.specs.SelectReady.{NotedReady}
use Rattle.tree.proofs.SelectLaws.{noted_by_check}
use Rattle.table.specs.Layout.{seats, cursor_size, cursor_place, seat_part}
use Rattle.lists.specs.Parts.{part, put}
use Rattle.table.specs.Seat.{Cursor, Seat, cursor_words, seat_words, with_cursor}
use Rattle.table.specs.Well.{table_well}
use Rattle.table.specs.Fits.{CursorOk, SeatOk}
use Rattle.table.proofs.Seats.{cursor_words_lem}
use Rattle.table.specs.Open.{is_open}
use Rattle.refusal.specs.Refusal.{first_cause}
use Rattle.message.proofs.Bodies.{put_handle}
use Rattle.refusal.proofs.First.{first_stop, first_go}
use Rattle.query.specs.Open.{free_handle, open_causes, opened_on}
use Rattle.call.specs.Step.{Sources, OpenKeeps, rows_hold, judging, seat_held, seated, open_done, open_step}
use Rattle.call.specs.JudgementTold.{Judgement}
use Rattle.call.proofs.Causes.{judging_numbered, no_rows, rows_told, places_told}
use Rattle.call.proofs.Seating.{words_is, seat_ok}

module _ (src : Sources) (t : List ℕ) (seat : ℕ) (tree : List ℕ) where
  by_cause : (n : Refusal) → first_cause (judging src t seat ++ open_causes (seat_held t seat) tree) ≡ refusal_number n → OpenKeeps (open_step src t seat tree) (Err n) t
  unfolding open_step
  by_cause n e = rw (e, ne_eqb (refusal_number n) 0 (number_least n)) record { refused = refl; given = refl; counted = refl; kept = refl; written = refl }

  pub open_judged : (n : Refusal) → first_cause (judging src t seat) ≡ refusal_number n → OpenKeeps (open_step src t seat tree) (Err n) t
  open_judged n e = by_cause n (first_stop (judging src t seat) (open_causes (seat_held t seat) tree) (refusal_number n) e (number_least n))

  module _ (e : first_cause (judging src t seat) ≡ 0) where
    causes : first_cause (judging src t seat ++ open_causes (seat_held t seat) tree) ≡ first_cause (open_causes (seat_held t seat) tree)
    causes = first_go (judging src t seat) (open_causes (seat_held t seat) tree) (judging_numbered src t seat) e

    pub open_refused : (n : Refusal) → first_cause (open_causes (seat_held t seat) tree) ≡ refusal_number n → OpenKeeps (open_step src t seat tree) (Err n) t
    open_refused n f = by_cause n (causes ∙ f)

    pub open_done_lem : (s : Seat) (handle : Handle) (words : List ℕ) → seat_held t seat ≡ Some s → first_cause (open_causes (seat_held t seat) tree) ≡ 0 → handle.0 ≡ free_handle s
        → words ≡ seated t seat (Some (opened_on s tree src.rows)) → OpenKeeps (open_step src t seat tree) (Ok handle) words
    unfolding open_step
    open_done_lem s handle words h f g w =
        let c : first_cause (judging src t seat ++ open_causes (seat_held t seat) tree) ≡ 0 = causes ∙ f in
        let o : open_done src t seat tree (seat_held t seat) ≡ open_done src t seat tree (Some s) = ap (open_done src t seat tree) h in
        rw (c, o) record { refused = refl; given = g; counted = refl; kept = w; written = refl }

-- a catalogue whose rows hold was accepted
pub rows_accepted : (s t : List ℕ) → rows_hold (catalogue s) t ≡ true → refusal_of (checked s) ≡ 0
rows_accepted s t e =
    by_test (eqb (refusal_of (checked s)) 0)
    (λ q. eqb-true (refusal_of (checked s)) 0 q)
    (λ q. absurd (true≢false (sym e ∙ no_rows s t (eqb-false (refusal_of (checked s)) 0 q))))

-- so the places that the judgement noted are those of its rows
pub places_noted : (s t held found : List ℕ) (seat rows : ℕ) → Judgement t s seat (Ok rows) held found → rows_hold (catalogue s) t ≡ true → rows_most ≤ length held
    → NotedReady s rows found
places_noted s t held found seat rows j h l =
    subst (λ (n : ℕ). NotedReady s n found) (sym (rows_told j)) (noted_by_check s held found (row_count (checked s)) (counted_lem (checked s) (rows_accepted s t h)) (places_told j) l)

pub closed : (o : Option Cursor) → is_open o ≡ false → o ≡ None
closed None e = refl
closed (Some c) e = absurd (true≢false e)

-- the lowest free handle's cursor is closed
pub free_closed : (s : Seat) (handle : ℕ) → CursorOk s.first → CursorOk s.second → handle ≡ free_handle s → (handle ≡ 0 → ⊥)
    → part (seat_words (Some s)) (cursor_place handle) cursor_size ≡ cursor_words None
free_closed s handle f g e z =
    by_test (is_open s.first)
    (λ q.
    by_test (is_open s.second)
    (λ k. absurd (z (e ∙ rw (q, k))))
    (λ k.
    let two : handle ≡ 2 = e ∙ rw (q, k) in
    ap (λ (h : ℕ). part (seat_words (Some s)) (cursor_place h) cursor_size) two
    ∙ ap (take cursor_size) (drop_at (cursor_words s.first) (cursor_words s.second) cursor_size (cursor_words_lem s.first f).size)
    ∙ take_all cursor_size (cursor_words s.second) (omega (arith, (cursor_words_lem s.second g).size))
    ∙ ap cursor_words (closed s.second k)))
    (λ q.
    let one : handle ≡ 1 = e ∙ rw q in
    ap (λ (h : ℕ). part (seat_words (Some s)) (cursor_place h) cursor_size) one
    ∙ take_at (cursor_words s.first) (cursor_words s.second) cursor_size (cursor_words_lem s.first f).size
    ∙ ap cursor_words (closed s.first q))

-- a seat on which opening is not refused is connected, and its lowest free handle is 1 or 2
pub open_seat : (held : Option Seat) (tree : List ℕ) → first_cause (open_causes held tree) ≡ 0 → (s : Seat) × (held ≡ Some s) × (free_handle s ≡ 0 → ⊥)
unfolding first_cause
open_seat None tree e = absurd (let z : ◌≡◌ {A = ℕ} 7 0 = e in omega arith)
open_seat (Some s) tree e =
    (s, refl, λ z. let w : ◌≡◌ {A = ℕ} 14 0 = rw (eq-eqb (free_handle s) 0 z) at e in omega arith)

-- a seat of the table, by the seat that it holds
module _ (t : List ℕ) (w : table_well t ≡ true) (seat : ℕ) (l : seat < seats) (s : Seat) (h : seat_held t seat ≡ Some s) (handle : ℕ) (e : handle ≡ free_handle s) where
  part_held : seat_part t seat ≡ seat_words (Some s)
  part_held = words_is t w seat l ∙ ap seat_words h

  fits : CursorOk s.first × CursorOk s.second
  fits = subst SeatOk h (seat_ok t w seat l)

  pub part_closed : (handle ≡ 0 → ⊥) → part (seat_part t seat) (cursor_place handle) cursor_size ≡ cursor_words None
  part_closed z = ap (λ (b : List ℕ). part b (cursor_place handle) cursor_size) part_held ∙ free_closed s handle fits.0 fits.1 e z

  pub part_opened : (o : Option Cursor) → put (seat_part t seat) (cursor_place handle) cursor_size (cursor_words o) ≡ seat_words (Some (with_cursor s (free_handle s) o))
  part_opened o =
      ap (λ (b : List ℕ). put b (cursor_place handle) cursor_size (cursor_words o)) part_held
      ∙ put_handle s handle o fits.0 fits.1
      ∙ ap (λ (k : ℕ). seat_words (Some (with_cursor s k o))) e
