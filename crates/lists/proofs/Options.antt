-- What an option says: there is none, or there is a pair with these two parts. Assumes nothing.
use mathlib.Core.Path.{◌≡◌, refl, ap}
use Rattle.lists.specs.Options.{and_then}
use Rattle.std.specs.Prelude.{Option, None, Some}
use Prim.Native.Nat.{ℕ}
use native.Mathlib.Omega.{arith}

pub none≢some : {A : Type 0} {a : A} → None ≡ Some a → ⊥
none≢some e = let z : ◌≡◌ {A = ℕ} 0 1 = cc e in omega arith

some_or : {A : Type 0} → A → Option A → A
some_or other None = other
some_or other (Some a) = a

pub some_is : {A : Type 0} {a b : A} → Some a ≡ Some b → a ≡ b
unfolding some_or
some_is {A} {a} {b} e = ap (some_or a) e

pub pair_is : {A B : Type 0} {a c : A} {b d : B} → ◌≡◌ {A = Option (A × B)} (Some (a, b)) (Some (c, d)) → (a ≡ c) × (b ≡ d)
pair_is {A} {B} e = (ap (λ (p : A × B). p.0) (some_is e), ap (λ (p : A × B). p.1) (some_is e))

-- what follows gives something only where what it follows does
pub then_inv : {A B : Type 0} (o : Option A) (f : A → Option B) (b : B) → and_then o f ≡ Some b → (a : A) × (o ≡ Some a) × (f a ≡ Some b)
then_inv None f b e = absurd (none≢some e)
then_inv (Some a) f b e = (a, refl, e)
