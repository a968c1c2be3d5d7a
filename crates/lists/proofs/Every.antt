-- What a test of each member of a list, or of any two, says, and how a loop goes through it. Assumes nothing.
use mathlib.Core.Path.{◌≡◌, refl, sym, ap, ap₂, ◌∙◌}
use mathlib.Core.Bool.{Bool, true, false}
use mathlib.Core.List.{List, [], ◌∷◌, ◌++◌}
use Prim.Native.Nat.{ℕ, zero, suc, ◌<◌}
use native.Mathlib.Omega.{arith}
use lib.ListN.{length, get_or}
use Rattle.lists.specs.Below.{both}
use Rattle.lists.proofs.Below.{both_left, both_right, both_true, both_assoc, both_swap, true≢false}
use Rattle.lists.specs.Every.{every, pairwise, across}

-- the parts of a test that holds
pub all_three : (a b c : Bool) → both a (both b c) ≡ true → (a ≡ true) × (b ≡ true) × (c ≡ true)
all_three true true c e = (refl, refl, e)
all_three true false c e = absurd (true≢false (sym e))
all_three false b c e = absurd (true≢false (sym e))

pub all_four : (a b c d : Bool) → both a (both b (both c d)) ≡ true → (a ≡ true) × (b ≡ true) × (c ≡ true) × (d ≡ true)
all_four true b c d e = let f = all_three b c d e in (refl, f.0, f.1, f.2)
all_four false b c d e = absurd (true≢false (sym e))

-- one member more that passes, and one that does not
module _ {A : Type 0} (test : A → Bool) {l s : List A} {a : A} (e : l ≡ a ∷ s) where
  pub every_more : test a ≡ true → every test l ≡ every test s
  unfolding every
  every_more t = rw (e, t)

  pub every_stop : test a ≡ false → every test l ≡ false
  unfolding every
  every_stop t = rw (e, t)

module _ {A : Type 0} (test : A → A → Bool) {l s : List A} {a : A} (e : l ≡ a ∷ s) where
  pub pair_more : every (test a) s ≡ true → pairwise test l ≡ pairwise test s
  unfolding pairwise
  pair_more t = rw (e, t)

  pub pair_stop : every (test a) s ≡ false → pairwise test l ≡ false
  unfolding pairwise
  pair_stop t = rw (e, t)

-- no member is left
pub every_none : {A : Type 0} (test : A → Bool) {l : List A} → l ≡ [] → every test l ≡ true
unfolding every
every_none test e = rw e

pub pair_none : {A : Type 0} (test : A → A → Bool) {l : List A} → l ≡ [] → pairwise test l ≡ true
unfolding pairwise
pair_none test e = rw e

-- what the first of a list and the rest of it pass
pub pair_head : {A : Type 0} (test : A → A → Bool) (a : A) (s : List A) → pairwise test (a ∷ s) ≡ true → every (test a) s ≡ true
unfolding pairwise
pair_head test a s e = both_left (every (test a) s) (pairwise test s) e

pub pair_tail : {A : Type 0} (test : A → A → Bool) (a : A) (s : List A) → pairwise test (a ∷ s) ≡ true → pairwise test s ≡ true
unfolding pairwise
pair_tail test a s e = both_right (every (test a) s) (pairwise test s) e

-- the test of the member at an index, and of those at two
pub every_index : {A : Type 0} (test : A → Bool) (l : List A) (d : A) → every test l ≡ true → (k : ℕ) → k < length l → test (get_or l k d) ≡ true
unfolding every
every_index test [] d e k h = absurd (omega arith)
every_index test (a ∷ s) d e zero h = both_left (test a) (every test s) e
every_index test (a ∷ s) d e (suc k) h = every_index test s d (both_right (test a) (every test s) e) k (omega arith)

pub pair_index : {A : Type 0} (test : A → A → Bool) (l : List A) (d : A) → pairwise test l ≡ true
    → (j k : ℕ) → j < k → k < length l → test (get_or l j d) (get_or l k d) ≡ true
pair_index test [] d e j k h b = absurd (omega arith)
pair_index test (a ∷ s) d e zero zero h b = absurd (omega arith)
pair_index test (a ∷ s) d e zero (suc k) h b = every_index (test a) s d (pair_head test a s e) k (omega arith)
pair_index test (a ∷ s) d e (suc j) zero h b = absurd (omega arith)
pair_index test (a ∷ s) d e (suc j) (suc k) h b = pair_index test s d (pair_tail test a s e) j k (omega arith) (omega arith)

-- and back: where each index passes, or any two, the list does
pub every_all : {A : Type 0} (test : A → Bool) (l : List A) (d : A) → ((k : ℕ) → k < length l → test (get_or l k d) ≡ true) → every test l ≡ true
unfolding every
every_all test [] d f = refl
every_all test (a ∷ s) d f =
    both_true (test a) (every test s) (f 0 (omega arith)) (every_all test s d (λ k h. f (suc k) (omega arith)))

pub pair_all : {A : Type 0} (test : A → A → Bool) (l : List A) (d : A)
    → ((j k : ℕ) → j < k → k < length l → test (get_or l j d) (get_or l k d) ≡ true) → pairwise test l ≡ true
unfolding pairwise
pair_all test [] d f = refl
pair_all test (a ∷ s) d f =
    both_true (every (test a) s) (pairwise test s)
    (every_all (test a) s d (λ k h. f 0 (suc k) (omega arith) (omega arith)))
    (pair_all test s d (λ j k l h. f (suc j) (suc k) (omega arith) (omega arith)))

-- one list after another: each of both, any two of both, any of one with any of another
pub every_append : {A : Type 0} (test : A → Bool) (s t : List A) → every test (s ++ t) ≡ both (every test s) (every test t)
unfolding every
every_append test [] t = refl
every_append test (a ∷ s) t = ap (both (test a)) (every_append test s t) ∙ sym (both_assoc (test a) (every test s) (every test t))

pub across_append : {A : Type 0} (test : A → A → Bool) (s t u : List A) → across test s (t ++ u) ≡ both (across test s t) (across test s u)
unfolding across every
across_append test [] t u = refl
across_append test (a ∷ s) t u =
    ap₂ both (every_append (test a) t u) (across_append test s t u)
    ∙ both_swap (every (test a) t) (every (test a) u) (across test s t) (across test s u)

pub pair_append : {A : Type 0} (test : A → A → Bool) (s t : List A)
    → pairwise test (s ++ t) ≡ both (pairwise test s) (both (across test s t) (pairwise test t))
unfolding across every pairwise
pair_append test [] t = refl
pair_append test (a ∷ s) t =
    ap₂ both (every_append (test a) s t) (pair_append test s t)
    ∙ both_swap (every (test a) s) (every (test a) t) (pairwise test s) (both (across test s t) (pairwise test t))
    ∙ ap (both (both (every (test a) s) (pairwise test s))) (sym (both_assoc (every (test a) t) (across test s t) (pairwise test t)))
