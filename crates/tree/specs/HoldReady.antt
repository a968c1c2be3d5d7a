-- A leaf, a node or a list that can be read from the unread bytes of a tree.
use Rattle.std.specs.Prelude.{◌≡◌, List, ℕ, ◌%◌, ◌≤◌, length, Some}
use Rattle.tree.specs.Parts.{leaf_at}
use Rattle.tree.specs.declared.Parts.{Parts}
use Rattle.tree.specs.Limits.{bytes_most}
use Rattle.tree.specs.Reader.{TreeRead, Read, branch_read, read_tree}

-- a leaf of a kind is read there
pub record LeafReady (kind : ℕ) (s : List ℕ) : Type 0 where
  pub parts : Parts
  pub used : ℕ
  pub read : leaf_at kind s 0 ≡ Some (parts, used)

-- a reader finds a node there, at a place that is a multiple of 4 and with some count of nodes that may still come
pub record Found (read : Read) (s : List ℕ) : Type 0 where
  pub short : length s ≤ bytes_most
  pub place : ℕ
  pub aligned : place % 4 ≡ 0
  pub nodes : ℕ
  pub node : TreeRead
  pub is : read nodes place s ≡ Some node
  pub inside : node.used ≤ length s

-- a node of so many levels at most, and an and or an or over nodes of so many levels
abbrev pub NodeReady : List ℕ → ℕ → Type 0
NodeReady s levels = Found (read_tree levels) s

abbrev pub ListReady : ℕ → List ℕ → ℕ → Type 0
ListReady kind s levels = Found (branch_read (read_tree levels) kind) s
