-- "Each of a list is such that" and "any two of a list are such that".
use Rattle.std.specs.Prelude.{Bool, true, List, [], ◌∷◌}
use Rattle.lists.specs.Below.{both}

-- a test holds of each member of a list
unfoldable pub every {ℓ} : {A : Type ℓ} → (A → Bool) → List A → Bool
every test [] = true
every test (a ∷ s) = both (test a) (every test s)

-- a test holds of any two members of a list, the earlier one first
unfoldable pub pairwise {ℓ} : {A : Type ℓ} → (A → A → Bool) → List A → Bool
pairwise test [] = true
pairwise test (a ∷ s) = both (every (test a) s) (pairwise test s)

-- a test holds of any member of one list and any of another
unfoldable pub across {ℓ} : {A : Type ℓ} → (A → A → Bool) → List A → List A → Bool
across test s t = every (λ a. every (test a) t) s
