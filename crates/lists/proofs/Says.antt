-- What a test says: the proposition that holds exactly where the test is true, for each way to put a test together.
-- Assumes nothing.
use mathlib.Core.Path.{◌≡◌, refl, sym}
use mathlib.Core.Bool.{Bool, true, false}
use mathlib.Core.Logic.{◌↔◌, ◌⊎◌, inl, inr, ⊎_elim}
use Prim.Native.Nat.{ℕ, ◌≤◌, ◌<◌}
use lib.Dec.{leb, eqb}
use borrow.Author.Tests.{leb-true, le-leb, eqb-true, eq-eqb}
use Rattle.lists.specs.Below.{pick, both, either, some_below, every_below}
use Rattle.lists.proofs.Below.{by_test, true≢false, both_left, both_right, both_true, some_found, some_shown, every_at, every_shown}

pub leb_says : (m n : ℕ) → (leb m n ≡ true) ↔ (m ≤ n)
leb_says m n = (leb-true m n, le-leb m n)

pub eqb_says : (m n : ℕ) → (eqb m n ≡ true) ↔ (m ≡ n)
eqb_says m n = (eqb-true m n, eq-eqb m n)

module _ {P Q : Type 0} where
  pub both_says : (a b : Bool) → (a ≡ true) ↔ P → (b ≡ true) ↔ Q → (both a b ≡ true) ↔ (P × Q)
  both_says a b p q = (λ e. (p.0 (both_left a b e), q.0 (both_right a b e)), λ w. both_true a b (p.1 w.0) (q.1 w.1))

  pub either_says : (a b : Bool) → (a ≡ true) ↔ P → (b ≡ true) ↔ Q → (either a b ≡ true) ↔ (P ⊎ Q)
  either_says true b p q = (λ e. inl (p.0 refl), λ w. refl)
  either_says false b p q = (λ e. inr (q.0 e), λ w. ⊎_elim (λ x. absurd (true≢false (sym (p.1 x)))) (λ y. q.1 y) w)

  -- a test that is asked for only where another holds
  pub where_says : (a b : Bool) → (a ≡ true) ↔ P → (b ≡ true) ↔ Q → (pick a b true ≡ true) ↔ (P → Q)
  where_says true b p q = (λ e x. q.0 e, λ f. q.1 (f (p.0 refl)))
  where_says false b p q = (λ e x. absurd (true≢false (sym (p.1 x))), λ f. refl)

module _ {P : ℕ → Type 0} where
  pub every_says_lem : (n : ℕ) (test : ℕ → Bool) → ((k : ℕ) → (test k ≡ true) ↔ P k) → (every_below n test ≡ true) ↔ ((k : ℕ) → k < n → P k)
  every_says_lem n test p = (λ e k h. (p k).0 (every_at n test e k h), λ f. every_shown n test (λ k h. (p k).1 (f k h)))

  pub some_says_lem : (n : ℕ) (test : ℕ → Bool) → ((k : ℕ) → (test k ≡ true) ↔ P k) → (some_below n test ≡ true) ↔ ((k : ℕ) × (k < n) × P k)
  some_says_lem n test p = (λ e. found (some_found n test e), λ w. some_shown n test w.0 w.1 ((p w.0).1 w.2))
    where
      found : (k : ℕ) × (k < n) × (test k ≡ true) → (k : ℕ) × (k < n) × P k
      found w = (w.0, w.1, (p w.0).0 w.2)

-- a test is false where what it says does not hold
pub says_not : {P : Type 0} (b : Bool) → (b ≡ true) ↔ P → (P → ⊥) → b ≡ false
says_not b p none = by_test b (λ e. absurd (none (p.0 e))) (λ e. e)
