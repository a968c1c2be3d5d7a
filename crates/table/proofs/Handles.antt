-- Handles: where their cursors stand, and whether they are open. Assumes nothing.
use mathlib.Core.Path.{◌≡◌, refl, sym, ap, ap₂, ◌∙◌}
use mathlib.Core.Bool.{Bool, true, false, not}
use mathlib.Core.List.{List}
use Rattle.std.specs.Prelude.{Option, None, Some}
use Prim.Native.Nat.{ℕ, ◌+◌, ◌-◌, ◌≤◌}
use native.Mathlib.Nat.{add-zero}
use native.Mathlib.Omega.{arith}
use borrow.Author.Tests.{eq-eqb, ne_eqb}
use lib.Dec.{eqb}
use lib.ListN.{get_or, drop}
use lib.Seq.{get_or-take, get_or-drop}
use Rattle.lists.proofs.Below.{by_test}
use Rattle.table.specs.Layout.{seat_size, cursor_size, first_at, second_at, cursor_place}
use Rattle.lists.specs.Parts.{part, put}
use Rattle.table.specs.Seat.{Cursor, Seat, cursor_of, cursor_in, seat_in}
use Rattle.table.specs.Open.{is_open, open_count, still_open}

open_is : (b : List ℕ) (at : ℕ) → is_open (cursor_of (part b at cursor_size)) ≡ not (eqb (get_or b at 0) 0)
open_is b at =
    by_test (eqb (get_or (part b at cursor_size) 0 0) 0)
    (λ q. rw (q, ← first, q))
    (λ q. rw (q, ← first, q))
  where
    first : get_or (part b at cursor_size) 0 0 ≡ get_or b at 0
    first = get_or-take cursor_size (drop at b) 0 0 (omega arith) ∙ get_or-drop at b 0 0 ∙ ap (λ (k : ℕ). get_or b k 0) (add-zero at)

module _ (b : List ℕ) (handle : ℕ) where
  pub open_first : handle ≡ 1 → is_open (cursor_in (seat_in b) handle) ≡ not (eqb (get_or b first_at 0) 0)
  open_first e = rw (eq-eqb handle 1 e) (open_is b first_at)

  pub open_second : (handle ≡ 1 → ⊥) → handle ≡ 2 → is_open (cursor_in (seat_in b) handle) ≡ not (eqb (get_or b second_at 0) 0)
  open_second n e = rw (ne_eqb handle 1 n, eq-eqb handle 2 e) (open_is b second_at)

  pub open_none : (handle ≡ 1 → ⊥) → (handle ≡ 2 → ⊥) → is_open (cursor_in (seat_in b) handle) ≡ false
  open_none n e = rw (ne_eqb handle 1 n, ne_eqb handle 2 e)

-- one for each that is open
abbrev pub one_if : Bool → ℕ
one_if true = 1
one_if false = 0

count_is : (o : Option Cursor) → open_count o ≡ one_if (is_open o)
count_is None = refl
count_is (Some c) = refl

pub count_two : (s : Seat) (a b : Bool) → a ≡ is_open s.first → b ≡ is_open s.second → still_open s ≡ one_if a + one_if b
count_two s a b p q = ap₂ (λ (x y : ℕ). x + y) (count_is s.first ∙ ap one_if (sym p)) (count_is s.second ∙ ap one_if (sym q))

-- a handle's cursor lies in its seat's words
pub place_first : (handle : ℕ) → handle ≡ 1 → cursor_place handle ≡ first_at
place_first handle e = rw (eq-eqb handle 1 e)

pub place_second : (handle : ℕ) → (handle ≡ 1 → ⊥) → cursor_place handle ≡ second_at
place_second handle e = rw (ne_eqb handle 1 e)

pub place_inside : (handle : ℕ) → cursor_place handle + cursor_size ≤ seat_size
place_inside handle = by_test (eqb handle 1) (λ q. rw q (omega arith)) (λ q. rw q (omega arith))

-- what a cursor's part, lent from its place on, leaves of the seat's words
pub put_is : (b : List ℕ) (at : ℕ) (part : List ℕ) → put b at (at + cursor_size - at) part ≡ put b at cursor_size part
put_is b at part = ap (λ (n : ℕ). put b at n part) size
  where
    size : at + cursor_size - at ≡ cursor_size
    size = omega arith
