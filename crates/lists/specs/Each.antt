-- "Each of a list is such that" and "any two of a list are such that", as statements.
use Rattle.std.specs.Prelude.{List, [], ◌∷◌}

-- a statement holds of each member of a list
unfoldable pub Each : {A : Type 0} → (A → Type 0) → List A → Type 0
Each P [] = Unit
Each P (a ∷ s) = P a × Each P s

-- a statement holds of any two members of a list, the earlier one first
unfoldable pub Pairwise : {A : Type 0} → (A → A → Type 0) → List A → Type 0
Pairwise R [] = Unit
Pairwise R (a ∷ s) = Each (R a) s × Pairwise R s
