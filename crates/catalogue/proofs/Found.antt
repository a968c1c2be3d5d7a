-- What was looked for, a number, a text or a row, is there and ends at a place, or there is none. Assumes nothing.
use mathlib.Core.Path.{◌≡◌, refl, sym, ap}
use Rattle.std.specs.Prelude.{Option, None, Some}
use Prim.Native.Nat.{ℕ}
use Rattle.lists.specs.Options.{and_then}
use Rattle.lists.proofs.Options.{none≢some, some_is}
use Rattle.catalogue.specs.CataloguePlaces.{end_of}

pub gone : {A : Type 0} (r : Option (A × ℕ)) → None ≡ end_of r → r ≡ None
gone None e = refl
gone (Some r) e = absurd (none≢some e)

pub there : {A : Type 0} (r : Option (A × ℕ)) (n : ℕ) → Some n ≡ end_of r → (a : A) × (r ≡ Some (a, n))
there None n e = absurd (none≢some (sym e))
there (Some r) n e = (r.0, ap (λ (k : ℕ). Some (r.0, k)) (sym (some_is e)))

-- the place after what follows it, which the place after it decides
pub ends_on : {A B : Type 0} (o : Option (A × ℕ)) (f : A × ℕ → Option (B × ℕ)) (on : ℕ → Option ℕ) → ((a : A × ℕ) → end_of (f a) ≡ on a.1)
    → end_of (and_then o f) ≡ and_then (end_of o) on
ends_on None f on h = refl
ends_on (Some a) f on h = h a

-- the same in two steps
pub ends_further : {A B : Type 0} (o : Option (A × ℕ)) (f : A × ℕ → Option (B × ℕ)) (g on : ℕ → Option ℕ)
    → ((a : A × ℕ) → end_of (f a) ≡ and_then (g a.1) on) → end_of (and_then o f) ≡ and_then (and_then (end_of o) g) on
ends_further None f g on h = refl
ends_further (Some a) f g on h = h a
