-- Words put in a place of a table: they are read back there, and all else is as it was. Assumes nothing.
use mathlib.Core.Path.{◌≡◌, sym, ap, ◌∙◌}
use mathlib.Core.Bool.{true}
use mathlib.Core.List.{List, ◌++◌}
use mathlib.Core.Logic.{◌⊎◌, inl, inr, ⊎_elim}
use Prim.Native.Nat.{ℕ, ◌+◌, ◌-◌, ◌≤◌, ◌<◌}
use native.Mathlib.Omega.{arith}
use borrow.Author.Tests.{eq-eqb, eqb-true, eqb-false}
use lib.Dec.{eqb}
use lib.ListN.{length, get_or, take, drop, length-append, length-drop, get_or-append}
use lib.Seq.{length-take-le, take_at, drop_at, ext_get_or, get_or-take, get_or-drop, get_or-append-add}
use Rattle.lists.specs.Below.{every_below}
use Rattle.bindings.proofs.Sound.{either_way}
use Rattle.lists.proofs.Below.{by_test, both_left, both_right, both_true, every_at, every_shown}
use Rattle.table.specs.Layout.{seats, seat_size, table_size, seat_at, seat_part}
use Rattle.lists.specs.Parts.{part, put}
use Rattle.table.specs.Well.{seat_well, table_well}
use Rattle.lists.proofs.Parts.{part_length}

pub same_or_not : (a b : ℕ) → (a ≡ b) ⊎ (a ≡ b → ⊥)
same_or_not a b = by_test (eqb a b) (λ q. inl (eqb-true a b q)) (λ q. inr (eqb-false a b q))

-- a list with other words in a place
module _ (t : List ℕ) (at n : ℕ) (words : List ℕ) (h : at + n ≤ length t) (l : length words ≡ n) where
  before_length : length (take at t) ≡ at
  before_length = length-take-le at t (omega arith)

  pub put_length : length (put t at n words) ≡ length t
  put_length =
      omega (
        arith,
        length-append (take at t) (words ++ drop n (drop at t)),
        length-append words (drop n (drop at t)),
        length-drop n (drop at t),
        length-drop at t,
        before_length,
      )

  -- what was put is read back
  pub put_same : part (put t at n words) at n ≡ words
  put_same =
      ap (take n) (drop_at (take at t) (words ++ drop n (drop at t)) at before_length)
      ∙ take_at words (drop n (drop at t)) n l

  -- and every word outside the place is as it was
  pub put_before : (i : ℕ) → i < at → get_or (put t at n words) i 0 ≡ get_or t i 0
  put_before i k =
      get_or-append (take at t) (words ++ drop n (drop at t)) 0 i (omega (arith, before_length))
      ∙ get_or-take at t i 0 k

  pub put_after : (i : ℕ) → at + n ≤ i → get_or (put t at n words) i 0 ≡ get_or t i 0
  put_after i k =
      ap (λ (j : ℕ). get_or (put t at n words) j 0) split
      ∙ get_or-append-add (take at t) (words ++ drop n (drop at t)) (length words + (i - (at + n))) 0
      ∙ get_or-append-add words (drop n (drop at t)) (i - (at + n)) 0
      ∙ get_or-drop n (drop at t) (i - (at + n)) 0
      ∙ get_or-drop at t (n + (i - (at + n))) 0
      ∙ ap (λ (j : ℕ). get_or t j 0) join
    where
      split : i ≡ length (take at t) + (length words + (i - (at + n)))
      split = omega (arith, before_length)

      join : at + (n + (i - (at + n))) ≡ i
      join = omega arith

  pub put_other : (from m : ℕ) → from + m ≤ length t → (from + m ≤ at) ⊎ (at + n ≤ from) → part (put t at n words) from m ≡ part t from m
  put_other from m k w =
      ext_get_or 0 (part (put t at n words) from m) (part t from m)
      (part_length (put t at n words) from m (omega (arith, put_length)) ∙ sym (part_length t from m k))
      (λ i b.
      let c : i < m = omega (arith, b, part_length (put t at n words) from m (omega (arith, put_length))) in
      get_or-take m (drop from (put t at n words)) i 0 c
      ∙ get_or-drop from (put t at n words) i 0
      ∙ ⊎_elim (λ (x : from + m ≤ at). put_before (from + i) (omega (arith, c))) (λ (x : at + n ≤ from). put_after (from + i) (omega (arith, c))) w
      ∙ sym (get_or-take m (drop from t) i 0 c ∙ get_or-drop from t i 0))

-- the seats of a table that passes
pub table_length : (t : List ℕ) → table_well t ≡ true → length t ≡ table_size
unfolding table_well
table_length t e = eqb-true (length t) table_size (both_left _ (every_below seats (λ seat. seat_well (seat_part t seat))) e)

pub table_seat : (t : List ℕ) → table_well t ≡ true → (seat : ℕ) → seat < seats → seat_well (seat_part t seat) ≡ true
unfolding table_well
table_seat t e = every_at seats (λ seat. seat_well (seat_part t seat)) (both_right (eqb (length t) table_size) _ e)

pub part_size : (t : List ℕ) → length t ≡ table_size → (seat : ℕ) → seat < seats → length (seat_part t seat) ≡ seat_size
part_size t l seat h = part_length t (seat_at seat) seat_size (omega arith)

-- a seat's words changed: that seat holds them, the others are as they were, and a table that passes still does
module _ (t : List ℕ) (w : table_well t ≡ true) (seat : ℕ) (h : seat < seats) (words : List ℕ) (l : length words ≡ seat_size) where
  room : seat_at seat + seat_size ≤ length t
  room = omega (arith, table_length t w)

  pub seat_same : seat_part (put t (seat_at seat) seat_size words) seat ≡ words
  seat_same = put_same t (seat_at seat) seat_size words room l

  pub seat_other : (other : ℕ) → other < seats → (other ≡ seat → ⊥) → seat_part (put t (seat_at seat) seat_size words) other ≡ seat_part t other
  seat_other other k d =
      put_other t (seat_at seat) seat_size words room l (seat_at other) seat_size (omega (arith, table_length t w)) (sides (either_way other seat d))
    where
      sides : (other < seat) ⊎ (seat < other) → (seat_at other + seat_size ≤ seat_at seat) ⊎ (seat_at seat + seat_size ≤ seat_at other)
      sides s = ⊎_elim (λ (x : other < seat). inl (omega arith)) (λ (x : seat < other). inr (omega arith)) s

  pub still_well : seat_well words ≡ true → table_well (put t (seat_at seat) seat_size words) ≡ true
  unfolding table_well
  still_well b =
      both_true _ _
      (eq-eqb (length (put t (seat_at seat) seat_size words)) table_size (put_length t (seat_at seat) seat_size words room l ∙ table_length t w))
      (every_shown seats _ (λ k m. each k m (same_or_not k seat)))
    where
      each : (k : ℕ) → k < seats → (k ≡ seat) ⊎ (k ≡ seat → ⊥) → seat_well (seat_part (put t (seat_at seat) seat_size words) k) ≡ true
      each k m s =
          ⊎_elim
          (λ (e : k ≡ seat). ap (λ (j : ℕ). seat_well (seat_part (put t (seat_at seat) seat_size words) j)) e ∙ ap seat_well seat_same ∙ b)
          (λ (d : k ≡ seat → ⊥). ap seat_well (seat_other k m d) ∙ table_seat t w k m)
          s
