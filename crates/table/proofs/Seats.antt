-- A seat's words that are well are the words of the seat that they hold, which fits, and the other way round. Assumes nothing.
use mathlib.Core.Path.{◌≡◌, refl, sym, ap, ap₂, ◌∙◌}
use mathlib.Core.Bool.{true}
use mathlib.Core.List.{List, ◌∷◌, ◌++◌}
use Rattle.std.specs.Prelude.{Option, None, Some}
use Prim.Native.Nat.{ℕ}
use native.Mathlib.Omega.{arith}
use borrow.Author.Tests.{eqb-true}
use lib.Dec.{eqb}
use lib.ListN.{length, get_or, take, drop, length-append, length-drop, length-replicate, take-append-drop}
use lib.Seq.{drop-cons, drop-drop, length-take-le, take_all, take_at, drop_at}
use Rattle.lists.specs.Below.{both}
use Rattle.lists.proofs.Below.{by_test, both_left, both_right, both_true}
use Rattle.table.specs.Layout.{seat_size, cursor_size, connected_at, version_at, first_at, second_at}
use Rattle.lists.specs.Parts.{part, zeros}
use Rattle.table.specs.Seat.{Cursor, Seat, cursor_words, cursor_of, seat_words, seat_of}
use Rattle.table.specs.Well.{cursor_well, seat_well}
use Rattle.table.specs.Fits.{CursorOk, SeatOk}
use Rattle.table.proofs.Cursors.{zero_is, zeros_are, cursor_back}
use Rattle.table.proofs.Shown.{cursor_held_lem, cursor_shown, cursor_length}

-- the words of a cursor, open or not, are well and hold it
pub record Shows (o : Option Cursor) : Type 0 where
  pub size : length (cursor_words o) ≡ cursor_size
  pub well : cursor_well (cursor_words o) ≡ true
  pub held : cursor_of (cursor_words o) ≡ o

pub cursor_words_lem : (o : Option Cursor) → CursorOk o → Shows o
unfolding cursor_well
cursor_words_lem None f = record { size = length-replicate {A = ℕ} cursor_size 0; well = zeros_are cursor_size; held = refl }
cursor_words_lem (Some c) f = record { size = cursor_length c f; well = cursor_shown c f; held = cursor_held_lem c f }

-- the words of a connected seat, taken apart
apart : (b : List ℕ) → length b ≡ seat_size → b ≡ get_or b 0 0 ∷ get_or b 1 0 ∷ (part b first_at cursor_size ++ part b second_at cursor_size)
apart b l =
    drop-cons b 0 0 (omega arith)
    ∙ ap (λ (r : List ℕ). get_or b 0 0 ∷ r) (drop-cons b 1 0 (omega arith))
    ∙ ap (λ (r : List ℕ). get_or b 0 0 ∷ get_or b 1 0 ∷ r)
    (sym (take-append-drop cursor_size (drop first_at b))
    ∙ ap (λ (r : List ℕ). part b first_at cursor_size ++ r)
    (drop-drop cursor_size first_at b ∙ sym (take_all cursor_size (drop second_at b) (omega (arith, length-drop second_at b)))))

pub first_length : (b : List ℕ) → length b ≡ seat_size → length (part b first_at cursor_size) ≡ cursor_size
first_length b l = length-take-le cursor_size (drop first_at b) (omega (arith, length-drop first_at b))

pub second_length : (b : List ℕ) → length b ≡ seat_size → length (part b second_at cursor_size) ≡ cursor_size
second_length b l = length-take-le cursor_size (drop second_at b) (omega (arith, length-drop second_at b))

pub seat_back : (b : List ℕ) → length b ≡ seat_size → seat_well b ≡ true → (b ≡ seat_words (seat_of b)) × SeatOk (seat_of b)
unfolding seat_well
seat_back b l e =
    by_test (eqb (get_or b connected_at 0) 0)
    (λ q. rw q (zero_is b (rw q at e) ∙ ap zeros l, tt))
    (λ q. rw q (connected (rw q at e)))
  where
    connected : both (eqb (get_or b connected_at 0) 1) (both (cursor_well (part b first_at cursor_size)) (cursor_well (part b second_at cursor_size))) ≡ true
        → (b ≡ 1 ∷ get_or b version_at 0 ∷ (cursor_words (cursor_of (part b first_at cursor_size)) ++ cursor_words (cursor_of (part b second_at cursor_size))))
        × (CursorOk (cursor_of (part b first_at cursor_size)) × CursorOk (cursor_of (part b second_at cursor_size)))
    connected s =
        let o = eqb-true (get_or b connected_at 0) 1 (both_left _ _ s) in
        let w = both_right (eqb (get_or b connected_at 0) 1) _ s in
        let first = cursor_back (part b first_at cursor_size) (first_length b l) (both_left _ _ w) in
        let second = cursor_back (part b second_at cursor_size) (second_length b l) (both_right (cursor_well (part b first_at cursor_size)) _ w) in (
          apart b l
              ∙ ap (λ (n : ℕ). n ∷ get_or b 1 0 ∷ (part b first_at cursor_size ++ part b second_at cursor_size)) o
              ∙ ap₂ (λ (x y : List ℕ). 1 ∷ get_or b 1 0 ∷ (x ++ y)) first.0 second.0,
          (first.1, second.1),
        )

-- the words of a seat, connected or not
pub record Seated (o : Option Seat) : Type 0 where
  pub size : length (seat_words o) ≡ seat_size
  pub well : seat_well (seat_words o) ≡ true
  pub held : seat_of (seat_words o) ≡ o

pub seat_words_lem : (o : Option Seat) → SeatOk o → Seated o
unfolding seat_well
seat_words_lem None f = record { size = length-replicate {A = ℕ} seat_size 0; well = zeros_are seat_size; held = refl }
seat_words_lem (Some s) f =
    let x = cursor_words_lem s.first f.0 in
    let y = cursor_words_lem s.second f.1 in
    let first : take cursor_size (cursor_words s.first ++ cursor_words s.second) ≡ cursor_words s.first
    = take_at (cursor_words s.first) (cursor_words s.second) cursor_size x.size in
    let second : take cursor_size (drop cursor_size (cursor_words s.first ++ cursor_words s.second)) ≡ cursor_words s.second
    = ap (take cursor_size) (drop_at (cursor_words s.first) (cursor_words s.second) cursor_size x.size)
    ∙ take_all cursor_size (cursor_words s.second) (omega (arith, y.size)) in
    record {
      size = omega (arith, length-append (cursor_words s.first) (cursor_words s.second), x.size, y.size);
      well = ap₂ (λ (a b : List ℕ). both (cursor_well a) (cursor_well b)) first second ∙ both_true _ _ x.well y.well;
      held =
          ap₂ (λ (a b : Option Cursor). Some (record { version = s.version; first = a; second = b }))
          (ap cursor_of first ∙ x.held)
          (ap cursor_of second ∙ y.held);
    }
