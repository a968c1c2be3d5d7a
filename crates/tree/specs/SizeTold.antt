-- What the code says of the bytes that a node takes and of where a list ends, handed the unread bytes from their first one on.
use Rattle.std.specs.Prelude.{◌≡◌, List, ℕ, ◌+◌, ◌%◌, ◌≤◌, length, drop, Some}
use Rattle.tree.specs.Limits.{bytes_most}
use Rattle.tree.specs.Parts.{leaf_at, with_leaf}
use Rattle.tree.specs.Reader.{TreeRead, ForestRead, Read, read_list, read_tree}

-- the bytes of the leaf that is read there
abbrev pub leaf_size : ℕ → List ℕ → ℕ
leaf_size kind s = with_leaf (leaf_at kind s 0) 0 λ parts used. used

-- the bytes of whatever node the reader finds there, at any place that is a multiple of 4
abbrev pub Takes : Read → List ℕ → ℕ → Type 0
Takes read s size = (place nodes : ℕ) (r : TreeRead) → place % 4 ≡ 0 → read nodes place s ≡ Some r → size ≡ r.used

-- of a node of so many levels at most
abbrev pub NodeTakes : List ℕ → ℕ → ℕ → Type 0
NodeTakes s levels size = Takes (read_tree levels) s size

-- the rest of a list that begins at a place: so many children, counted from `at` on, and where they end
pub record Rest (read : Read) (s : List ℕ) (place count at last : ℕ) : Type 0 where
  pub aligned : (place + at) % 4 ≡ 0
  pub nodes : ℕ
  pub children : ForestRead
  pub is : read_list read count nodes (place + at) (drop at s) ≡ Some children
  pub ends : at + children.used ≡ last

-- there is such a rest over nodes of so many levels at most, inside the bytes
pub record RestReady (s : List ℕ) (levels count at : ℕ) : Type 0 where
  pub short : length s ≤ bytes_most
  pub place : ℕ
  pub last : ℕ
  pub rest : Rest (read_tree levels) s place count at last
  pub inside : last ≤ length s

-- the end of whatever rest there is
abbrev pub RestEnds : List ℕ → ℕ → ℕ → ℕ → ℕ → Type 0
RestEnds s levels count at end = (place last : ℕ) → Rest (read_tree levels) s place count at last → end ≡ last
