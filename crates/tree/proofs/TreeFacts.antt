-- In a tree that was read the positions of its leaves rise, and lie in the bytes that the tree takes; it has no more nodes and levels than
-- the limits allow. Assumes nothing.
use mathlib.Core.Path.{◌≡◌, ◌∙◌}
use mathlib.Core.List.{List, ◌++◌}
use Rattle.std.specs.Prelude.{None, Some}
use Prim.Native.Nat.{ℕ, ◌+◌, ◌≤◌, ◌<◌}
use native.Mathlib.Omega.{arith}
use borrow.Author.Tests.{eqb-true, leb-true}
use lib.Dec.{leb, eqb}
use lib.ListN.{length, get_or}
use Rattle.lists.proofs.Options.{none≢some, some_is, then_inv}
use Rattle.wire.specs.Padding.{padding}
use Rattle.tree.specs.Parts.{node_kind}
use Rattle.tree.proofs.LeafLaws.{pick_inv}
use Rattle.tree.proofs.LeafWords.{leaf_read_lem}
use Rattle.tree.specs.Limits.{bytes_most, nodes_most, levels_most}
use Rattle.lists.specs.Rising.{Rises, RisesIn}
use Rattle.tree.specs.Tree.{Tree, positions, positions_in, nodes_of, nodes_in, levels_of, levels_in}
use Rattle.tree.specs.Reader.{TreeRead, read_tree, whole, restriction}
use Rattle.tree.proofs.Induction.{Said, Passes, of_every_tree}
use Rattle.lists.proofs.Rising.{rises_wider, rises_append, rises_between, rises}

-- what a list of bytes that holds a tree says of it
pub record Held (s : List ℕ) (t : Tree) : Type 0 where
  pub short : length s ≤ bytes_most
  pub left : ℕ
  pub read : read_tree levels_most nodes_most 0 s ≡ Some (record { tree = t; used = length s; nodes = left })

with_parts : (r : TreeRead) (t : Tree) (n : ℕ) → r.tree ≡ t → r.used ≡ n → Some r ≡ Some (record { tree = t; used = n; nodes = r.nodes })
with_parts r t n a b = rw (← a, ← b)

pub held : (s : List ℕ) (t : Tree) → restriction s ≡ Some t → Held s t
unfolding restriction
held s t e =
    let i = pick_inv (leb (length s) bytes_most) _ None (Some t) none≢some e in
    let j = then_inv (read_tree levels_most nodes_most 0 s) (whole s) t i.1 in
    let l = pick_inv (eqb j.0.used (length s)) (Some j.0.tree) None (Some t) none≢some j.2 in
    record {
      short = leb-true (length s) bytes_most i.0;
      left = j.0.nodes;
      read = j.1 ∙ with_parts j.0 t (length s) (some_is l.1) (eqb-true j.0.used (length s) l.0);
    }

-- the leaves stand in order in the bytes that the tree takes
in_order_lem : Said
in_order_lem =
    record {
      of_tree = λ l n p s r. RisesIn p (p + r.used) (positions r.tree);
      of_forest = λ l k n p s r. RisesIn p (p + r.used) (positions_in r.forest);
    }

order_passes : Passes in_order_lem
unfolding in_order_lem positions RisesIn
order_passes =
    record {
      none_left = λ l n p s. omega arith;
      one_more = λ l k n p s t f h z a b.
          let start = padding 4 p in
          rises_append p (p + (start + t.used)) (p + (start + t.used + f.used)) (positions t.tree) (positions_in f.forest)
          (rises_wider p (p + start) (p + start + t.used) (p + (start + t.used)) (positions t.tree) (omega arith) (omega arith) a)
          (rises_wider (p + (start + t.used)) (p + (start + t.used)) (p + (start + t.used) + f.used) (p + (start + t.used + f.used)) (positions_in f.forest) (omega arith) (omega arith) b);
      of_and = λ l n p s t g used nodes h k o. rises_wider p (p + 12) (p + 12 + used) (p + (12 + used)) (positions t ++ positions_in g) (omega arith) (omega arith) o;
      of_or = λ l n p s t g used nodes h k o. rises_wider p (p + 12) (p + 12 + used) (p + (12 + used)) (positions t ++ positions_in g) (omega arith) (omega arith) o;
      of_not = λ l n p s t h k o. rises_wider p (p + 8) (p + 8 + t.used) (p + (8 + t.used)) (positions t.tree) (omega arith) (omega arith) o;
      of_leaf = λ l n p s x used e. (omega arith, omega (arith, (leaf_read_lem (node_kind s) s p x used e).past));
    }

-- the positions of the leaves rise strictly, and each is the place of a byte of the tree
pub positions_rise : (s : List ℕ) (t : Tree) → restriction s ≡ Some t
    → Rises (positions t) × ((i : ℕ) → i < length (positions t) → get_or (positions t) i 0 < length s)
unfolding in_order_lem
positions_rise s t e =
    let h = held s t e in
    let o = of_every_tree in_order_lem order_passes levels_most nodes_most 0 s (record { tree = t; used = length s; nodes = h.left }) h.read in
    let w = rises_wider 0 0 (0 + length s) (length s) (positions t) (omega arith) (omega arith) o in
    (rises 0 (length s) (positions t) w, λ k b. (rises_between 0 (length s) (positions t) w k b).1)

-- each node was counted, and each level
counted : Said
counted =
    record {
      of_tree = λ l n p s r. (nodes_of r.tree + r.nodes ≡ n) × (levels_of r.tree ≤ l);
      of_forest = λ l k n p s r. (nodes_in r.forest + r.nodes ≡ n) × (levels_in r.forest ≤ l);
    }

count_passes : Passes counted
unfolding counted nodes_of levels_of
count_passes =
    record {
      none_left = λ l n p s. (omega arith, omega arith);
      one_more = λ l k n p s t f h z a b. (omega (arith, a.0, b.0), omega (arith, a.1, b.1));
      of_and = λ l n p s t g used nodes h k o. (omega (arith, o.0), omega (arith, o.1));
      of_or = λ l n p s t g used nodes h k o. (omega (arith, o.0), omega (arith, o.1));
      of_not = λ l n p s t h k o. (omega (arith, o.0), omega (arith, o.1));
      of_leaf = λ l n p s x used e. (omega arith, omega arith);
    }

-- "Limits: 4,096 bytes, 64 nodes, 8 levels (root is 1)"
pub within_limits : (s : List ℕ) (t : Tree) → restriction s ≡ Some t → (length s ≤ bytes_most) × (nodes_of t ≤ nodes_most) × (levels_of t ≤ levels_most)
unfolding counted
within_limits s t e =
    let h = held s t e in
    let c = of_every_tree counted count_passes levels_most nodes_most 0 s (record { tree = t; used = length s; nodes = h.left }) h.read in
    (h.short, omega (arith, c.0), c.1)
