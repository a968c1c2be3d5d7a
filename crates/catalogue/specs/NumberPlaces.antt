-- Reading a number at a place: the value and the place after it.
use Rattle.std.specs.Prelude.{List, ℕ, ◌+◌, drop, Option, None, Some}
use Rattle.catalogue.specs.Groups.{groups, within}

-- a value with its count of bytes, from a place on
abbrev pub placed : ℕ → Option (ℕ × ℕ) → Option (ℕ × ℕ)
placed at None = None
placed at (Some r) = Some (r.0, at + r.1)

-- the number at a place, at most a limit
unfoldable pub reading_at : ℕ → List ℕ → ℕ → Option (ℕ × ℕ)
reading_at limit s at = placed at (within limit (groups (drop at s)))
