-- Laws of a whole tree: the ways that its reading can go. Assumes nothing.
use mathlib.Core.Path.{◌≡◌, ap, ◌∙◌}
use mathlib.Core.Bool.{false}
use mathlib.Core.List.{List}
use Rattle.std.specs.Prelude.{None, Some}
use Prim.Native.Nat.{ℕ, ◌≤◌, ◌<◌}
use borrow.Author.Tests.{le-leb, lt-leb}
use lib.Dec.{eqb}
use lib.ListN.{length}
use Rattle.lists.proofs.Below.{by_test}
use Rattle.tree.specs.Limits.{bytes_most, nodes_most, levels_most}
use Rattle.tree.specs.Reader.{TreeRead, read_tree, restriction, is_tree}
use Rattle.tree.specs.NodeTold.{node_answer}
use Rattle.tree.proofs.TreeLaws.{node_inv, no_node_inv}

module _ (s : List ℕ) where
  pub whole_long : bytes_most < length s → false ≡ is_tree (restriction s)
  unfolding restriction
  whole_long h = rw (lt-leb (length s) bytes_most h)

  module _ (h : length s ≤ bytes_most) where
    pub whole_none : None ≡ node_answer (read_tree levels_most nodes_most 0 s) → false ≡ is_tree (restriction s)
    unfolding restriction
    whole_none e = rw (le-leb (length s) bytes_most h, no_node_inv (read_tree levels_most nodes_most 0 s) e)

    -- "all bytes are used"
    whole_read : (r : TreeRead) → read_tree levels_most nodes_most 0 s ≡ Some r → eqb r.used (length s) ≡ is_tree (restriction s)
    unfolding restriction
    whole_read r e = rw (le-leb (length s) bytes_most h, e) (by_test (eqb r.used (length s)) (λ q. rw q) (λ q. rw q))

    pub whole_by : (used left : ℕ) → Some (used, left) ≡ node_answer (read_tree levels_most nodes_most 0 s) → eqb used (length s) ≡ is_tree (restriction s)
    whole_by used left e =
        let i = node_inv (read_tree levels_most nodes_most 0 s) e in
        ap (λ (n : ℕ). eqb n (length s)) i.2 ∙ whole_read i.0 i.1
