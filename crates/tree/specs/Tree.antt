-- A restriction tree as data (01, "Restriction trees": "Served: and 1, or 2, not 3, content 4, property 5").
use Rattle.std.specs.Prelude.{List, [], ◌∷◌, ◌++◌, ℕ, ◌+◌, max}
use Rattle.tree.specs.Leaf.{Leaf}

-- A leaf has its position: the place of its first byte. "And/or have at least one child": a first child, and further ones.
mutual
  pub data Tree : Type 0 where
    leaf : (position : ℕ) → Leaf → Tree
    and : Tree → Forest → Tree
    or : Tree → Forest → Tree
    not : Tree → Tree

  pub data Forest : Type 0 where
    end : Forest
    further : Tree → Forest → Forest

-- the positions of its leaves, from the first to the last
unfoldable mutual
  pub positions : Tree → List ℕ
  positions (leaf position l) = position ∷ []
  positions (and t f) = positions t ++ positions_in f
  positions (or t f) = positions t ++ positions_in f
  positions (not t) = positions t

  pub positions_in : Forest → List ℕ
  positions_in end = []
  positions_in (further t f) = positions t ++ positions_in f

-- how many nodes it has, and how many levels ("root is 1")
unfoldable mutual
  pub nodes_of : Tree → ℕ
  nodes_of (leaf position l) = 1
  nodes_of (and t f) = 1 + (nodes_of t + nodes_in f)
  nodes_of (or t f) = 1 + (nodes_of t + nodes_in f)
  nodes_of (not t) = 1 + nodes_of t

  pub nodes_in : Forest → ℕ
  nodes_in end = 0
  nodes_in (further t f) = nodes_of t + nodes_in f

unfoldable mutual
  pub levels_of : Tree → ℕ
  levels_of (leaf position l) = 1
  levels_of (and t f) = 1 + max (levels_of t) (levels_in f)
  levels_of (or t f) = 1 + max (levels_of t) (levels_in f)
  levels_of (not t) = 1 + levels_of t

  pub levels_in : Forest → ℕ
  levels_in end = 0
  levels_in (further t f) = max (levels_of t) (levels_in f)
