-- The refusal of a call is the first cause that applies, and no other. Assumes nothing.
use mathlib.Core.Path.{◌≡◌, refl, sym}
use mathlib.Core.Bool.{Bool, true, false}
use mathlib.Core.List.{List, [], ◌∷◌}
use mathlib.Core.Logic.{◌↔◌}
use Prim.Native.Nat.{ℕ, zero, suc, ◌<◌}
use native.Mathlib.Nat.{not-suc-le-zero, le_of_suc-le-suc}
use native.Mathlib.Omega.{arith}
use lib.ListN.{length}
use Rattle.lists.proofs.Below.{by_test}
use Rattle.refusal.specs.Refusal.{first_cause}
use Rattle.refusal.proofs.First.{Numbered}
use Rattle.promises.specs.Causes.{cause, Given, NoneApplies, Risen}

given_later : (n : ℕ) (c : ℕ × Bool) (a : List (ℕ × Bool)) → c.1 ≡ false → Given n a → Given n (c ∷ a)
given_later n c a e g =
    record {
      place = suc g.place;
      inside = omega (arith, g.inside);
      number = g.number;
      applies = g.applies;
      first = before;
    }
  where
    before : (i : ℕ) → i < suc g.place → (cause (c ∷ a) i).1 ≡ false
    before zero h = e
    before (suc i) h = g.first i (le_of_suc-le-suc h)

-- a number that is given is one whose cause applies while none before it does
pub given_by : (a : List (ℕ × Bool)) (n : ℕ) → (n ≡ 0 → ⊥) → first_cause a ≡ n → Given n a
unfolding first_cause
given_by [] n z e = absurd (z (sym e))
given_by (c ∷ a) n z e =
    by_test c.1
    (λ q. record { place = 0; inside = omega arith; number = rw q at e; applies = q; first = λ i h. absurd (not-suc-le-zero h) })
    (λ q. given_later n c a q (given_by a n z (rw q at e)))

-- and the other way round
pub given_is : (a : List (ℕ × Bool)) (n : ℕ) → Given n a → first_cause a ≡ n
unfolding first_cause
given_is a n g = go a g.place g.inside g.number g.applies g.first
  where
    go : (b : List (ℕ × Bool)) (k : ℕ) → k < length b → (cause b k).0 ≡ n → (cause b k).1 ≡ true → ((i : ℕ) → i < k → (cause b i).1 ≡ false) → first_cause b ≡ n
    go [] k h e y f = absurd (not-suc-le-zero h)
    go (c ∷ b) zero h e y f = rw y e
    go (c ∷ b) (suc k) h e y f = rw (f 0 (omega arith)) (go b k (le_of_suc-le-suc h) e y (λ i l. f (suc i) (omega arith)))

-- 0 exactly where none applies
pub none_by : (a : List (ℕ × Bool)) → Numbered a → first_cause a ≡ 0 → NoneApplies a
unfolding first_cause
none_by [] w e i = refl
none_by (c ∷ a) w e zero = by_test c.1 (λ q. absurd (w.0 (rw q at e))) (λ q. q)
none_by (c ∷ a) w e (suc i) = by_test c.1 (λ q. absurd (w.0 (rw q at e))) (λ q. none_by a w.1 (rw q at e) i)

pub none_is : (a : List (ℕ × Bool)) → NoneApplies a → first_cause a ≡ 0
unfolding first_cause
none_is [] f = refl
none_is (c ∷ a) f = rw (f 0) (none_is a (λ i. f (suc i)))

pub exact : (a : List (ℕ × Bool)) (n : ℕ) → (n ≡ 0 → ⊥) → (first_cause a ≡ n) ↔ Given n a
exact a n z = (given_by a n z, given_is a n)

pub exact_none : (a : List (ℕ × Bool)) → Numbered a → (first_cause a ≡ 0) ↔ NoneApplies a
exact_none a w = (none_by a w, none_is a)

-- numbers that rise are above the first bound, and none is 0
pub risen_numbered : (n : ℕ) (a : List (ℕ × Bool)) → Risen n a → Numbered a
risen_numbered n [] r = tt
risen_numbered n (c ∷ a) r = ((λ e. omega (arith, r.0)), risen_numbered c.0 a r.1)

pub first_over : (n : ℕ) (a : List (ℕ × Bool)) → Risen n a → (first_cause a ≡ 0 → ⊥) → n < first_cause a
unfolding first_cause
first_over n [] r z = absurd (z refl)
first_over n (c ∷ a) r z =
    by_test c.1 (λ q. rw q r.0) (λ q. rw q (omega (arith, r.0, first_over c.0 a r.1 (rw q at z))))
