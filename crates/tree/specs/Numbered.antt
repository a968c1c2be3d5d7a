-- The number and the values of what is read of a tree (01: 16 "restriction malformed or over a limit").
use Rattle.std.specs.Prelude.{Option, ℕ}
use Rattle.lists.specs.Numbered.{Numbered, or_refused}
use Rattle.tree.specs.declared.Parts.{Parts}

-- a leaf's parts, and the bytes that it takes
abbrev pub leaf_numbered : Option (Parts × ℕ) → Numbered (Parts × ℕ)
leaf_numbered = or_refused 16

-- the bytes that a node takes, and how many nodes may still come
abbrev pub node_numbered : Option (ℕ × ℕ) → Numbered (ℕ × ℕ)
node_numbered = or_refused 16
