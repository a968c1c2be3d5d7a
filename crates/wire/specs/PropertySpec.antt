-- A property as a message and a tree have it: the source's CFullPropSpec, which is _guidPropSet, ulKind and PrSpec (2.2.1.2; 01, "The
-- option catalogue").
use Rattle.std.specs.Prelude.{Bool, List, ◌∷◌, ◌++◌, ℕ, ◌+◌, eqb, get_or}
use Rattle.lists.specs.Below.{pick, every_below}
use Rattle.wire.specs.Word.{number_at, le}

-- "set identifier = the sixteen bytes 0x10, 0x11 and so on to 0x1F"
abbrev pub set_size : ℕ
set_size = 16

abbrev pub set_first : ℕ
set_first = 0x10

unfoldable pub set_ours : List ℕ → ℕ → Bool
set_ours s at = every_below set_size (λ i. eqb (get_or s (at + i) 0) (set_first + i))

-- where ulKind and PrSpec stand, and the bytes of the whole
abbrev pub kind_at : ℕ
kind_at = set_size

abbrev pub pr_spec_at : ℕ
pr_spec_at = kind_at + 4

abbrev pub spec_size : ℕ
spec_size = pr_spec_at + 4

-- "Only numbered properties (ulKind 1) are served"
abbrev pub numbered : ℕ
numbered = 1

abbrev pub is_numbered : List ℕ → ℕ → Bool
is_numbered s at = eqb (number_at 4 s (at + kind_at)) numbered

-- one of ours, as bytes
abbrev pub spec : ℕ → List ℕ
spec property =
    0x10 ∷ 0x11 ∷ 0x12 ∷ 0x13 ∷ 0x14 ∷ 0x15 ∷ 0x16 ∷ 0x17 ∷ 0x18 ∷ 0x19 ∷ 0x1a ∷ 0x1b ∷ 0x1c ∷ 0x1d ∷ 0x1e ∷ 0x1f
    ∷ le 4 numbered ++ le 4 property

-- the property that is named; one of another set is none of ours: 0, which no property has
abbrev pub named : List ℕ → ℕ → ℕ
named s at = pick (set_ours s at) (number_at 4 s (at + pr_spec_at)) 0

-- the same in a tree, where "another ulKind is refusal .. 16" as an unknown property is
unfoldable pub property_at : List ℕ → ℕ → ℕ
property_at s at = pick (is_numbered s at) (named s at) 0
