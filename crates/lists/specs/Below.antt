-- "There is a number below n such that", "each number below n is such that", and a choice between two values.
use Rattle.std.specs.Prelude.{Bool, true, false, ℕ, zero, suc, leb}

-- the first of two values where a test holds, else the second
abbrev pub pick {ℓ} : {A : Type ℓ} → Bool → A → A → A
pick true a b = a
pick false a b = b

-- both tests hold
abbrev pub both : Bool → Bool → Bool
both true b = b
both false b = false

-- at least one of two tests holds
abbrev pub either : Bool → Bool → Bool
either true b = true
either false b = b

-- a test holds of some number below n
unfoldable pub some_below : ℕ → (ℕ → Bool) → Bool
some_below zero test = false
some_below (suc n) test = either (test n) (some_below n test)

-- a test holds of each number below n
unfoldable pub every_below : ℕ → (ℕ → Bool) → Bool
every_below zero test = true
every_below (suc n) test = both (test n) (every_below n test)

-- a number is one of those from low to high
abbrev pub within : ℕ → ℕ → ℕ → Bool
within low high n = both (leb low n) (leb n high)
