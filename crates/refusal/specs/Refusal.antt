-- Refusals (01, "Refusal numbers, in order of test"): "The first that applies is given, and no other."
use Rattle.std.specs.Prelude.{Bool, List, [], ◌∷◌, ℕ, get_or}
use Rattle.lists.specs.Below.{pick}

-- causes in their order, each a number and whether it applies: the first number that applies, else 0
unfoldable pub first_cause : List (ℕ × Bool) → ℕ
first_cause [] = 0
first_cause (c ∷ rest) = pick c.1 c.0 (first_cause rest)

-- the column "Status" of the table, by refusal number; those of 0 to 5 are never sent
abbrev pub statuses : List ℕ
statuses =
    0
    ∷ 0
    ∷ 0
    ∷ 0
    ∷ 0
    ∷ 0
    ∷ 0xC000000D
    ∷ 0xC000000D
    ∷ 0xC000000D
    ∷ 0xC000000D
    ∷ 0x80004005
    ∷ 0x8000FFFF
    ∷ 0x80040E08
    ∷ 0xC00000BB
    ∷ 0xC000009A
    ∷ 0xC0000023
    ∷ 0xC000000D
    ∷ []

abbrev pub status_of : ℕ → ℕ
status_of refusal = get_or statuses refusal 0
