-- Lists of numbers that rise strictly.
use Rattle.std.specs.Prelude.{List, [], ◌∷◌, ℕ, ◌+◌, ◌≤◌, ◌<◌, length, get_or}

-- each number is above the one before it
abbrev pub Rises : List ℕ → Type 0
Rises ns = (i : ℕ) → i + 1 < length ns → get_or ns i 0 < get_or ns (i + 1) 0

-- the same by the list's form: the first number is at least `low`, and the last is below `high`
unfoldable pub RisesIn : ℕ → ℕ → List ℕ → Type 0
RisesIn low high [] = low ≤ high
RisesIn low high (n ∷ ns) = (low ≤ n) × RisesIn (n + 1) high ns
