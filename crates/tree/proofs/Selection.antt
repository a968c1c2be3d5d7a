-- The selection of a tree is the rising list of exactly the numbers of the rows that the tree holds for. Assumes nothing.
use mathlib.Core.Path.{◌≡◌}
use mathlib.Core.Bool.{Bool, true}
use mathlib.Core.List.{List, [], ◌∷◌, Memᴰ}
use mathlib.Core.Logic.{◌↔◌, ⊎_elim}
use Prim.Native.Nat.{ℕ, zero, suc, ◌+◌, ◌≤◌, ◌<◌}
use native.Mathlib.Nat.{add-zero}
use native.Mathlib.Omega.{arith}
use lib.ListN.{length, get_or}
use Rattle.lists.proofs.Below.{by_test}
use Rattle.catalogue.specs.Plain.{Row}
use Rattle.tree.specs.Tree.{Tree}
use Rattle.tree.specs.TreeHolds.{holds}
use Rattle.lists.specs.Rising.{Rises, RisesIn}
use Rattle.lists.proofs.Rising.{rises_wider, rises_room, rises}
use Rattle.tree.specs.Select.{numbers_from, selection}

-- they rise, from the first row's number on, below the number after the last row's
pub numbers_rise : (n : ℕ) (test : Row → Bool) (rows : List Row) → RisesIn n (n + length rows) (numbers_from n test rows)
unfolding numbers_from RisesIn
numbers_rise n test [] = omega arith
numbers_rise n test (r ∷ rows) =
    by_test (test r)
    (λ q. rw q (omega arith, rises_wider (n + 1) (n + 1) (n + 1 + length rows) (n + suc (length rows)) (numbers_from (n + 1) test rows) (omega arith) (omega arith) (numbers_rise (n + 1) test rows)))
    (λ q. rw q (rises_wider n (n + 1) (n + 1 + length rows) (n + suc (length rows)) (numbers_from (n + 1) test rows) (omega arith) (omega arith) (numbers_rise (n + 1) test rows)))

pub numbers_few : (n : ℕ) (test : Row → Bool) (rows : List Row) → length (numbers_from n test rows) ≤ length rows
numbers_few n test rows = omega (arith, rises_room n (n + length rows) (numbers_from n test rows) (numbers_rise n test rows))

-- a number is among them exactly if it is that of a row that passes
module _ (test : Row → Bool) (d : Row) where
  numbers_have : (n : ℕ) (rows : List Row) (i : ℕ) → i < length rows → test (get_or rows i d) ≡ true → Memᴰ (n + i) (numbers_from n test rows)
  unfolding numbers_from
  numbers_have n [] i h e = absurd (omega arith)
  numbers_have n (r ∷ rows) zero h e = rw e (mathlib.Core.List.Memᴰ.head (add-zero n))
  numbers_have n (r ∷ rows) (suc i) h e =
      let m : Memᴰ (n + suc i) (numbers_from (n + 1) test rows) = mathlib.Core.List.Memᴰ.cast (omega arith) (numbers_have (n + 1) rows i (omega arith) e) in
      by_test (test r) (λ q. rw q (mathlib.Core.List.Memᴰ.tail m)) (λ q. rw q m)

  -- a number of the list, as the place of a row that passes
  Row-of : ℕ → List Row → ℕ → Type 0
  Row-of n rows k = (i : ℕ) × (k ≡ n + i) × (i < length rows) × (test (get_or rows i d) ≡ true)

  one_later : (n : ℕ) (r : Row) (rows : List Row) (k : ℕ) → Row-of (n + 1) rows k → Row-of n (r ∷ rows) k
  unfolding Row-of
  one_later n r rows k w = (suc w.0, omega (arith, w.1), omega (arith, w.2), w.3)

  numbers_are : (n : ℕ) (rows : List Row) (k : ℕ) → Memᴰ k (numbers_from n test rows) → Row-of n rows k
  unfolding numbers_from Row-of one_later
  numbers_are n [] k m = absurd (mathlib.Core.List.Memᴰ.not-nil m)
  numbers_are n (r ∷ rows) k m =
      by_test (test r)
      (λ q. ⊎_elim
      (λ (e : k ≡ n). (0, omega arith, omega arith, q))
      (λ (l : Memᴰ k (numbers_from (n + 1) test rows)). one_later n r rows k (numbers_are (n + 1) rows k l))
      (mathlib.Core.List.Memᴰ.cases_cons (rw q at m)))
      (λ q. one_later n r rows k (numbers_are (n + 1) rows k (rw q at m)))

-- the selection: a row number is in it exactly if there is such a row and the tree holds for it; it rises strictly
module _ (t : Tree) (rows : List Row) where
  pub selection_has : (d : Row) (k : ℕ) → Memᴰ k (selection t rows) ↔ ((k < length rows) × (holds t (get_or rows k d) ≡ true))
  unfolding Row-of
  selection_has d k = (
    λ m.
        let w = numbers_are (holds t) d 0 rows k m in
        let same : w.0 ≡ k = omega (arith, w.1) in
        (omega (arith, same, w.2), rw same at w.3),
    λ w. mathlib.Core.List.Memᴰ.cast (omega arith) (numbers_have (holds t) d 0 rows k w.0 w.1),
  )

  pub selection_rises : Rises (selection t rows)
  selection_rises = rises 0 (0 + length rows) (selection t rows) (numbers_rise 0 (holds t) rows)
