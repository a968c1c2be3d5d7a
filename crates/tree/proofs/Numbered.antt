-- What the readers of a tree answer is what the plain reader reads, or refusal 16 where it reads nothing. Assumes nothing.
use mathlib.Core.Path.{◌≡◌, refl}
use mathlib.Core.List.{List}
use Rattle.std.specs.Prelude.{Option, None, Some}
use Prim.Native.Nat.{ℕ}
use Rattle.lists.specs.Numbered.{or_refused, on_values}
use Rattle.tree.specs.Tree.{leaf}
use Rattle.tree.specs.Parts.{leaf_at, leaf_of, with_leaf}
use Rattle.tree.specs.Reader.{TreeRead, leaf_read, read_tree}
use Rattle.tree.specs.NodeTold.{node_answer}
use Rattle.tree.specs.Numbered.{leaf_numbered, node_numbered}
use Rattle.tree.specs.declared.Parts.{Parts}

-- a leaf as a node of the tree
abbrev leaf_node : ℕ → ℕ → List ℕ → Parts × ℕ → TreeRead
leaf_node nodes place s (parts, used) = record { tree = leaf place (leaf_of s parts); used = used; nodes = nodes }

pub leaf_numbered_lem : (kind nodes place : ℕ) (s : List ℕ)
    → on_values (leaf_node nodes place s) (leaf_numbered (leaf_at kind s place)) ≡ or_refused 16 (leaf_read kind nodes place s)
leaf_numbered_lem kind nodes place s = go (leaf_at kind s place)
  where
    go : (r : Option (Parts × ℕ)) → on_values (leaf_node nodes place s) (leaf_numbered r)
        ≡ or_refused 16 (with_leaf r None (λ parts used. Some (leaf_node nodes place s (parts, used))))
    go None = refl
    go (Some (parts, used)) = refl

-- a node: of the tree that is read, the bytes that it takes and how many nodes may still come
pub node_numbered_lem : (levels nodes place : ℕ) (s : List ℕ)
    → node_numbered (node_answer (read_tree levels nodes place s)) ≡ on_values (λ r. (r.used, r.nodes)) (or_refused 16 (read_tree levels nodes place s))
node_numbered_lem levels nodes place s = go (read_tree levels nodes place s)
  where
    go : (o : Option TreeRead) → node_numbered (node_answer o) ≡ on_values (λ r. (r.used, r.nodes)) (or_refused 16 o)
    go None = refl
    go (Some r) = refl
