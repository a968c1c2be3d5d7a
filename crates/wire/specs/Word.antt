-- Little-endian numbers in a list of bytes (01, "Header and checksum": "Sixteen bytes, four little-endian words").
use Rattle.std.specs.Prelude.{List, [], ◌∷◌, ℕ, zero, suc, ◌+◌, ◌*◌, ◌/◌, ◌%◌, ◌<◌, get_or, take, drop}

-- each number of the list is a byte
abbrev pub Bytes : List ℕ → Type 0
Bytes s = (i : ℕ) → get_or s i 0 < 256

-- the number that a list of bytes holds, low byte first
unfoldable pub number : List ℕ → ℕ
number [] = 0
number (b ∷ s) = b + 256 * number s

-- the number that n bytes hold from a place on; bytes past the end count as zero
unfoldable pub number_at : ℕ → List ℕ → ℕ → ℕ
number_at n s at = number (take n (drop at s))

-- the n bytes that hold a number, low byte first
unfoldable pub le : ℕ → ℕ → List ℕ
le zero v = []
le (suc n) v = (v % 256) ∷ le n (v / 256)

-- the 16-bit words of a list of bytes, low byte first: the units of a text (01, "The option catalogue": "then the units,
-- two bytes each, low byte first"). A last byte alone is no word.
unfoldable pub halves : List ℕ → List ℕ
halves [] = []
halves (a ∷ []) = []
halves (a ∷ b ∷ s) = (a + 256 * b) ∷ halves s
