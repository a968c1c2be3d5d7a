-- Laws of causes in their order. Assumes nothing.
use mathlib.Core.Path.{◌≡◌, refl, sym}
use mathlib.Core.Bool.{Bool}
use mathlib.Core.List.{List, [], ◌∷◌, ◌++◌}
use Prim.Native.Nat.{ℕ, ◌<◌, ◌≤◌}
use Rattle.lists.proofs.Below.{by_test}
use Rattle.refusal.specs.Refusal.{first_cause}

-- a cause that applies among the first of a list is the list's
pub first_stop : (a b : List (ℕ × Bool)) (n : ℕ) → first_cause a ≡ n → (n ≡ 0 → ⊥) → first_cause (a ++ b) ≡ n
unfolding first_cause
first_stop [] b n e z = absurd (z (sym e))
first_stop (c ∷ a) b n e z =
    by_test c.1
    (λ q. rw q (rw q at e))
    (λ q. rw q (first_stop a b n (rw q at e) z))

-- each number of a list has a property; so has that of the first cause that applies, if 0 has it, which stands for none
abbrev pub Each : (ℕ → Type 0) → List (ℕ × Bool) → Type 0
Each P [] = Unit {0}
Each P (c ∷ a) = P c.0 × Each P a

pub first_each : (P : ℕ → Type 0) (a : List (ℕ × Bool)) → Each P a → P 0 → P (first_cause a)
unfolding first_cause
first_each P [] e z = z
first_each P (c ∷ a) e z = by_test c.1 (λ q. rw q e.0) (λ q. rw q (first_each P a e.1 z))

-- no number of a list is zero
abbrev pub Numbered : List (ℕ × Bool) → Type 0
Numbered a = Each (λ (k : ℕ). k ≡ 0 → ⊥) a

-- where none of them applies, the others decide
pub first_go : (a b : List (ℕ × Bool)) → Numbered a → first_cause a ≡ 0 → first_cause (a ++ b) ≡ first_cause b
unfolding first_cause
first_go [] b n e = refl
first_go (c ∷ a) b n e =
    by_test c.1
    (λ q. absurd (n.0 (rw q at e)))
    (λ q. rw q (first_go a b n.1 (rw q at e)))

-- where none of a joined list applies, none of either does
pub first_both : (a b : List (ℕ × Bool)) → Numbered a → first_cause (a ++ b) ≡ 0 → (first_cause a ≡ 0) × (first_cause b ≡ 0)
unfolding first_cause
first_both [] b n e = (refl, e)
first_both (c ∷ a) b n e =
    by_test c.1
    (λ q. absurd (n.0 (rw q at e)))
    (λ q. rw q (first_both a b n.1 (rw q at e)))

-- no number of a list is below a bound, and so is none that applies
abbrev pub Over : ℕ → List (ℕ × Bool) → Type 0
Over n a = Each (λ (k : ℕ). n ≤ k) a

pub first_over : (n : ℕ) (a : List (ℕ × Bool)) → Over n a → (first_cause a ≡ 0 → ⊥) → n ≤ first_cause a
unfolding first_cause
first_over n [] u z = absurd (z refl)
first_over n (c ∷ a) u z = by_test c.1 (λ q. rw q u.0) (λ q. rw q (first_over n a u.1 (rw q at z)))

-- every number of a list is below a bound, and so is the first that applies
abbrev pub Under : ℕ → List (ℕ × Bool) → Type 0
Under n a = Each (λ (k : ℕ). k < n) a

pub first_under : (n : ℕ) (a : List (ℕ × Bool)) → 0 < n → Under n a → first_cause a < n
first_under n a z u = first_each (λ (k : ℕ). k < n) a u z
