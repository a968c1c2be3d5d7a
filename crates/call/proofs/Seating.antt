-- What a table that passes says of a seat: its words, the first of them, and the seat that it holds. Assumes nothing.
use mathlib.Core.Path.{◌≡◌, sym, ap, ap₂, ◌∙◌}
use mathlib.Core.Bool.{true, false}
use mathlib.Core.List.{List}
use Rattle.std.specs.Prelude.{Option, None}
use Prim.Native.Nat.{ℕ, ◌+◌, ◌-◌, ◌<◌}
use native.Mathlib.Nat.{add-zero}
use native.Mathlib.Omega.{arith}
use borrow.Author.Tests.{eq-eqb, ne_eqb}
use lib.ListN.{get_or, drop}
use lib.Seq.{get_or-take, get_or-drop}
use Rattle.table.specs.Layout.{seats, seat_size, seat_at, seat_part}
use Rattle.lists.specs.Parts.{put}
use Rattle.table.specs.Seat.{Seat, seat_words}
use Rattle.table.specs.Well.{table_well}
use Rattle.table.specs.Fits.{SeatOk}
use Rattle.table.proofs.Seats.{seat_back}
use Rattle.table.proofs.Tables.{table_length, table_seat, part_size}
use Rattle.call.specs.Step.{seat_held, is_connected, seated}

-- a word of a seat, in the table
pub part_word : (t : List ℕ) (seat i : ℕ) → i < seat_size → get_or (seat_part t seat) i 0 ≡ get_or t (seat_at seat + i) 0
part_word t seat i h = get_or-take seat_size (drop (seat_at seat) t) i 0 h ∙ get_or-drop (seat_at seat) t i 0

pub first_word : (t : List ℕ) (seat : ℕ) → get_or (seat_part t seat) 0 0 ≡ get_or t (seat_at seat) 0
first_word t seat = part_word t seat 0 (omega arith) ∙ ap (λ (k : ℕ). get_or t k 0) (add-zero (seat_at seat))

module _ (t : List ℕ) (w : table_well t ≡ true) (seat : ℕ) (h : seat < seats) where
  -- a seat's words are the words of the seat that they hold, which fits
  pub words_is : seat_part t seat ≡ seat_words (seat_held t seat)
  words_is = (seat_back (seat_part t seat) (part_size t (table_length t w) seat h) (table_seat t w seat h)).0

  pub seat_ok : SeatOk (seat_held t seat)
  seat_ok = (seat_back (seat_part t seat) (part_size t (table_length t w) seat h) (table_seat t w seat h)).1

  pub held_none : get_or t (seat_at seat) 0 ≡ 0 → seat_held t seat ≡ None
  held_none e = rw (eq-eqb (get_or (seat_part t seat) 0 0) 0 (first_word t seat ∙ e))

  pub part_none : get_or t (seat_at seat) 0 ≡ 0 → seat_part t seat ≡ seat_words None
  part_none e = words_is ∙ ap seat_words (held_none e)

  pub is_connected_lem : (get_or t (seat_at seat) 0 ≡ 0 → ⊥) → is_connected (seat_held t seat) ≡ true
  is_connected_lem e = rw (ne_eqb (get_or (seat_part t seat) 0 0) 0 (λ z. e (sym (first_word t seat) ∙ z)))

  pub not_connected : get_or t (seat_at seat) 0 ≡ 0 → is_connected (seat_held t seat) ≡ false
  not_connected e = ap is_connected (held_none e)

-- what a seat's part, lent from its place to the next seat's, leaves of the table
pub seated_is : (t : List ℕ) (seat : ℕ) (words : List ℕ) (s : Option Seat) → words ≡ seat_words s
    → put t (seat_at seat) (seat_at seat + seat_size - seat_at seat) words ≡ seated t seat s
seated_is t seat words s e = ap₂ (λ (n : ℕ) (b : List ℕ). put t (seat_at seat) n b) size e
  where
    size : seat_at seat + seat_size - seat_at seat ≡ seat_size
    size = omega arith
