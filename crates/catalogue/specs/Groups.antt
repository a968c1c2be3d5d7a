-- Numbers in groups of seven bits (01, "The option catalogue": "Every number is in groups of seven bits, least first, top bit
-- set on all groups but the last, shortest form only, at most 4,294,967,295").
use Rattle.std.specs.Prelude.{List, [], ◌∷◌, ℕ, zero, suc, ◌+◌, ◌-◌, ◌*◌, ◌/◌, ◌%◌, leb, ltb, eqb, drop, Option, None, Some}
use Rattle.lists.specs.Below.{pick}

-- a group and what the groups after it hold: their value and their count. "Shortest form only": the groups after it
-- do not hold zero, for then they could be left out.
abbrev pub further : ℕ → Option (ℕ × ℕ) → Option (ℕ × ℕ)
further low None = None
further low (Some r) = pick (eqb r.0 0) None (Some (low + 128 * r.0, r.1 + 1))

-- the value that the bytes begin with, and how many groups it takes: "least first, top bit set on all groups but the last"
unfoldable pub groups : List ℕ → Option (ℕ × ℕ)
groups [] = None
groups (b ∷ s) = let more = further (b - 128) (groups s) in pick (ltb b 128) (Some (b, 1)) more

-- "at most": a limit that the caller gives
abbrev pub within : ℕ → Option (ℕ × ℕ) → Option (ℕ × ℕ)
within limit None = None
within limit (Some r) = pick (leb r.0 limit) (Some r) None

-- the plain parser of a number: its value and the bytes after it, or nothing
abbrev pub split_after : List ℕ → Option (ℕ × ℕ) → Option (ℕ × List ℕ)
split_after s None = None
split_after s (Some r) = Some (r.0, drop r.1 s)

unfoldable pub number : ℕ → List ℕ → Option (ℕ × List ℕ)
number limit s = split_after s (within limit (groups s))

-- the writer: the shortest form of a number in at most k + 1 groups; ten groups hold every number of 64 bits
unfoldable pub groups_of : ℕ → ℕ → List ℕ
groups_of zero v = v ∷ []
groups_of (suc k) v = pick (ltb v 128) (v ∷ []) ((v % 128 + 128) ∷ groups_of k (v / 128))

abbrev pub written : ℕ → List ℕ
written v = groups_of 9 v
