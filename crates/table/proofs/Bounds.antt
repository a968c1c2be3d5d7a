-- Row numbers that rise are all below a bound where the last one is; and what words that are well say of their cursor's.
-- Assumes nothing.
use mathlib.Core.Path.{◌≡◌, refl, sym, ap, ◌∙◌}
use mathlib.Core.Bool.{Bool, true}
use mathlib.Core.List.{List, [], ◌∷◌}
use Prim.Native.Nat.{ℕ, zero, suc, ◌+◌, ◌-◌, ◌≤◌, ◌<◌}
use native.Mathlib.Omega.{arith}
use borrow.Author.Tests.{eq-eqb, ne_eqb, lt-ltb, ltb-true, leb-true}
use lib.Dec.{leb, ltb, eqb}
use lib.ListN.{length, get_or, take, drop, length-drop}
use lib.Seq.{get_or-take, get_or-drop, length-take-le}
use Rattle.lists.specs.Below.{both}
use Rattle.lists.proofs.Below.{by_test, true≢false, both_true, both_left, both_right}
use Rattle.lists.specs.Every.{every}
use Rattle.lists.proofs.Every.{every_index}
use Rattle.table.specs.Layout.{cursor_size, connected_at, first_at, second_at, open_at, position_at, count_at, rows_at, rows_size}
use Rattle.lists.specs.Parts.{part}
use Rattle.table.specs.Seat.{cursor_held, cursor_of, seat_of}
use Rattle.table.specs.Well.{open_well, cursor_well, seat_well, cursor_below, seat_below}
use Rattle.table.specs.Fits.{CursorFits}
use Rattle.lists.specs.Rising.{Rises}
use Rattle.table.proofs.Cursors.{cursor_back}

-- the last of rising numbers is the greatest
greatest : (rows : List ℕ) → Rises rows → (left i : ℕ) → i + left + 1 ≡ length rows → get_or rows i 0 ≤ get_or rows (length rows - 1) 0
greatest rows r zero i e = rw same (omega arith)
  where
    same : length rows - 1 ≡ i
    same = omega arith
greatest rows r (suc left) i e = omega (arith, r i (omega arith), greatest rows r left (i + 1) (omega arith))

pub every_shown : {A : Type 0} (test : A → Bool) (l : List A) (d : A) → ((k : ℕ) → k < length l → test (get_or l k d) ≡ true) → every test l ≡ true
unfolding every
every_shown test [] d f = refl
every_shown test (a ∷ l) d f = both_true (test a) (every test l) (f 0 (omega arith)) (every_shown test l d (λ k h. f (suc k) (omega arith)))

pub last_decides : (bound : ℕ) (rows : List ℕ) → Rises rows → 0 < length rows
    → every (λ row. ltb row bound) rows ≡ ltb (get_or rows (length rows - 1) 0) bound
last_decides bound rows r h =
    by_test (ltb (get_or rows (length rows - 1) 0) bound)
    (λ q.
    every_shown (λ row. ltb row bound) rows 0
    (λ k l. lt-ltb (get_or rows k 0) bound (omega (arith, ltb-true (get_or rows (length rows - 1) 0) bound q, greatest rows r (length rows - 1 - k) k (omega arith))))
    ∙ sym q)
    (λ q.
    by_test (every (λ row. ltb row bound) rows)
    (λ w. absurd (true≢false (sym (every_index (λ row. ltb row bound) rows 0 w (length rows - 1) (omega arith)) ∙ q)))
    (λ w. w ∙ sym q))

-- a cursor that is closed selects nothing; one that is open holds rows that rise
pub below_closed : (bound : ℕ) (b : List ℕ) → get_or b open_at 0 ≡ 0 → cursor_below bound (cursor_of b) ≡ true
below_closed bound b e = rw (eq-eqb (get_or b open_at 0) 0 e)

pub open_fits : (b : List ℕ) → length b ≡ cursor_size → cursor_well b ≡ true → (get_or b open_at 0 ≡ 0 → ⊥) → CursorFits (cursor_held b)
open_fits b l w o = rw (ne_eqb (get_or b open_at 0) 0 o) at (cursor_back b l w).1

pub below_open : (bound : ℕ) (b : List ℕ) → (get_or b open_at 0 ≡ 0 → ⊥) → cursor_below bound (cursor_of b) ≡ every (λ row. ltb row bound) (cursor_held b).selection
below_open bound b o = rw (ne_eqb (get_or b open_at 0) 0 o)

-- the words of an open cursor, that are well
pub open_well_lem : (b : List ℕ) → cursor_well b ≡ true → (get_or b open_at 0 ≡ 0 → ⊥) → open_well b ≡ true
unfolding cursor_well
open_well_lem b w o =
    let s : both (eqb (get_or b open_at 0) 1) (open_well b) ≡ true = rw (ne_eqb (get_or b open_at 0) 0 o) at w in
    both_right (eqb (get_or b open_at 0) 1) (open_well b) s

pub count_most : (b : List ℕ) → cursor_well b ≡ true → (get_or b open_at 0 ≡ 0 → ⊥) → get_or b count_at 0 ≤ rows_size
count_most b w o =
    leb-true (get_or b count_at 0) rows_size
    (both_left _ _ (both_right (leb (get_or b position_at 0) (get_or b count_at 0)) _ (open_well_lem b w o)))

pub below_none : (bound : ℕ) (b : List ℕ) → (get_or b open_at 0 ≡ 0 → ⊥) → get_or b count_at 0 ≡ 0 → cursor_below bound (cursor_of b) ≡ true
unfolding every
below_none bound b o e = below_open bound b o ∙ rw e

pub below_last : (bound : ℕ) (b : List ℕ) → length b ≡ cursor_size → cursor_well b ≡ true → (get_or b open_at 0 ≡ 0 → ⊥) → (get_or b count_at 0 ≡ 0 → ⊥)
    → cursor_below bound (cursor_of b) ≡ ltb (get_or b (rows_at + get_or b count_at 0 - 1) 0) bound
below_last bound b l w o n =
    below_open bound b o
    ∙ last_decides bound (take count (drop rows_at b)) (open_fits b l w o).rising (omega (arith, taken))
    ∙ ap (λ (i : ℕ). ltb (get_or (take count (drop rows_at b)) (i - 1) 0) bound) taken
    ∙ ap (λ (row : ℕ). ltb row bound)
    (get_or-take count (drop rows_at b) (count - 1) 0 (omega arith) ∙ get_or-drop rows_at b (count - 1) 0 ∙ ap (λ (i : ℕ). get_or b i 0) place)
  where
    count : ℕ
    count = get_or b count_at 0

    taken : length (take count (drop rows_at b)) ≡ count
    taken = length-take-le count (drop rows_at b) (omega (arith, count_most b w o, length-drop rows_at b))

    place : rows_at + (count - 1) ≡ rows_at + count - 1
    place = omega arith

-- the cursors of a connected seat whose words are well
pub seat_parts : (b : List ℕ) → seat_well b ≡ true → (get_or b connected_at 0 ≡ 0 → ⊥)
    → (cursor_well (part b first_at cursor_size) ≡ true) × (cursor_well (part b second_at cursor_size) ≡ true)
unfolding seat_well
seat_parts b w o =
    let s : both (eqb (get_or b connected_at 0) 1) (both (cursor_well (part b first_at cursor_size)) (cursor_well (part b second_at cursor_size))) ≡ true
    = rw (ne_eqb (get_or b connected_at 0) 0 o) at w in
    let r = both_right (eqb (get_or b connected_at 0) 1) _ s in
    (both_left _ (cursor_well (part b second_at cursor_size)) r, both_right (cursor_well (part b first_at cursor_size)) _ r)

pub below_gone : (bound : ℕ) (b : List ℕ) → get_or b connected_at 0 ≡ 0 → seat_below bound (seat_of b) ≡ true
below_gone bound b e = rw (eq-eqb (get_or b connected_at 0) 0 e)

pub below_seated : (bound : ℕ) (b : List ℕ) → (get_or b connected_at 0 ≡ 0 → ⊥)
    → seat_below bound (seat_of b)
    ≡ both (cursor_below bound (cursor_of (part b first_at cursor_size))) (cursor_below bound (cursor_of (part b second_at cursor_size)))
below_seated bound b o = rw (ne_eqb (get_or b connected_at 0) 0 o)
