-- Lines, words and comments of a calls file (README, "Replaying recorded calls").
use Rattle.std.specs.Prelude.{Bool, true, false, not, List, [], ◌∷◌, ℕ, suc, ◌+◌, eqb, drop}
use Rattle.lists.specs.Below.{pick, both, either}

-- how many bytes of one kind the bytes begin with
unfoldable pub run : (ℕ → Bool) → List ℕ → ℕ
run kind [] = 0
run kind (b ∷ s) = pick (kind b) (suc (run kind s)) 0

-- every byte but one
abbrev pub unlike : ℕ → ℕ → Bool
unlike sign b = not (eqb b sign)

-- "one call a line": all bytes up to a line feed
abbrev pub in_line : ℕ → Bool
in_line = unlike 10

-- "`#` starts a comment to the line's end": all bytes before it
abbrev pub in_call : ℕ → Bool
in_call = unlike 35

-- "Words stand apart by spaces, tabs or carriage returns"
abbrev pub separates : ℕ → Bool
separates b = either (eqb b 32) (either (eqb b 9) (eqb b 13))

abbrev pub in_word : ℕ → Bool
in_word b = not (separates b)

-- the first word from a place on begins at its first byte that is no separator, and ends before the next separator
abbrev pub word_start : List ℕ → ℕ → ℕ
word_start s at = at + run separates (drop at s)

abbrev pub word_end : List ℕ → ℕ → ℕ
word_end s start = start + run in_word (drop start s)

-- two lists are the same bytes
unfoldable pub same_bytes : List ℕ → List ℕ → Bool
same_bytes [] [] = true
same_bytes [] (b ∷ t) = false
same_bytes (a ∷ s) [] = false
same_bytes (a ∷ s) (b ∷ t) = both (eqb a b) (same_bytes s t)
