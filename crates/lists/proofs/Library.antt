-- The library's tests of a list's members in the words of this book. Assumes nothing.
use mathlib.Core.Path.{◌≡◌, refl, sym, ap, ◌∙◌}
use mathlib.Core.Bool.{Bool, true, false, ◌&&◌}
use mathlib.Core.List.{List, [], ◌∷◌}
use Prim.Native.Nat.{ℕ, ◌+◌, ◌≤◌, ◌<◌}
use native.Mathlib.Omega.{arith}
use lib.Dec.{eqb}
use lib.ListN.{length, get_or, drop}
use lib.Seq.{ext_get_or, get_or-take, get_or-drop}
use borrow.Author.Tests.{eqb-true, eq-eqb}
use Rattle.std.specs.List.{list_all}
use Rattle.std.specs.Cmp.Lexicographic.{pointwise}
use Rattle.std.proofs.lemmas.Slice.Eq.{slice_eq-Decides}
use Rattle.std.proofs.lemmas.Bool.Decides.{Decides-eqb}
use Rattle.lists.specs.Below.{both, every_below}
use Rattle.lists.specs.Every.{every}
use Rattle.lists.specs.Parts.{part}
use Rattle.lists.proofs.Below.{every_is, every_at}
use Rattle.lists.proofs.Every.{every_index, every_all}
use Rattle.lists.proofs.Parts.{part_length}

pub and_both : (a b : Bool) → (a && b) ≡ both a b
and_both true b = refl
and_both false b = refl

pub all_every : {A : Type 0} (test : A → Bool) (l : List A) → list_all test l ≡ every test l
unfolding every
all_every test [] = refl
all_every test (a ∷ s) = and_both (test a) (list_all test s) ∙ ap (both (test a)) (all_every test s)

-- a member of a part is one of the whole
pub part_at : (t : List ℕ) (at n k : ℕ) → k < n → get_or (part t at n) k 0 ≡ get_or t (at + k) 0
part_at t at n k h = get_or-take n (drop at t) k 0 h ∙ get_or-drop at t k 0

module _ (t : List ℕ) (at n : ℕ) (inside : at + n ≤ length t) where
  below : (k : ℕ) → k < length (part t at n) → k < n
  below k h = omega (arith, part_length t at n inside)

  -- each member of a part passes where each place of it does
  pub part_all : (test : ℕ → Bool) → list_all test (part t at n) ≡ every_below n (λ i. test (get_or t (at + i) 0))
  part_all test =
      all_every test (part t at n)
      ∙ every_is (every test (part t at n)) n (λ i. test (get_or t (at + i) 0))
      (λ e k h.
      ap test (sym (part_at t at n k h)) ∙ every_index test (part t at n) 0 e k (omega (arith, part_length t at n inside)))
      (λ e.
      every_all test (part t at n) 0
      (λ k h. ap test (part_at t at n k (below k h)) ∙ every_at n (λ i. test (get_or t (at + i) 0)) e k (below k h)))

  -- a list is a part where each place of it is
  pub part_same : (s : List ℕ) → length s ≡ n → pointwise eqb s (part t at n) ≡ every_below n (λ i. eqb (get_or t (at + i) 0) (get_or s i 0))
  part_same s e =
      every_is (pointwise eqb s (part t at n)) n (λ i. eqb (get_or t (at + i) 0) (get_or s i 0))
      (λ q k h. eq-eqb _ _ (sym (part_at t at n k h) ∙ sym (ap (λ (u : List ℕ). get_or u k 0) (same.0 q))))
      (λ q.
      same.1
      (sym
      (ext_get_or 0 (part t at n) s (part_length t at n inside ∙ sym e)
      (λ k h.
      part_at t at n k (below k h)
      ∙ eqb-true _ _ (every_at n (λ i. eqb (get_or t (at + i) 0) (get_or s i 0)) q k (below k h))))))
    where
      same : (pointwise eqb s (part t at n) ≡ true → s ≡ part t at n) × (s ≡ part t at n → pointwise eqb s (part t at n) ≡ true)
      same = slice_eq-Decides Decides-eqb s (part t at n) (pointwise eqb s (part t at n)) refl
