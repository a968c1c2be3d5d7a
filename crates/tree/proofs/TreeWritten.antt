-- A tree that is written is read, with its positions. Assumes nothing.
use mathlib.Core.Path.{◌≡◌, refl}
use mathlib.Core.Bool.{true, false}
use mathlib.Core.List.{List}
use Rattle.std.specs.Prelude.{Some}
use Prim.Native.Nat.{ℕ, zero, suc, ◌+◌, ◌≤◌, ◌<◌}
use native.Mathlib.Omega.{arith}
use borrow.Author.Tests.{le-leb, ne_eqb}
use lib.ListN.{length, drop}
use lib.Dec.{eqb}
use Rattle.lists.specs.Below.{pick}
use Rattle.lists.proofs.Below.{by_test}
use Rattle.wire.specs.Word.{number_at, le}
use Rattle.wire.specs.Padding.{padding}
use Rattle.tree.specs.Tree.{Tree, Forest, leaf, and, or, not, end, further, nodes_of, nodes_in, levels_of, levels_in}
use Rattle.tree.specs.Leaf.{Leaf}
use Rattle.tree.specs.Kinds.{is_branch}
use Rattle.tree.specs.Parts.{node_kind}
use Rattle.tree.specs.Reader.{read_list, read_tree}
use Rattle.tree.specs.Writer.{aligned, branch_form, further_ones, tree_form, forest_form, positioned, positioned_in, LeafFits, LeavesFit, LeavesFitIn}
use Rattle.tree.proofs.FormLaws.{Stands, stands_left, zeros_long, zeros_there, number_there, forms_apart, forms_ended, forms_start, forms_started}
use Rattle.tree.proofs.LeafWritten.{leaf_there}

-- a tree, or children, within so many levels: where they stand they are read, with their positions
abbrev TreeThere : ℕ → Tree → Type 0
TreeThere levels t = (nodes left place used : ℕ) (s : List ℕ) → nodes ≡ nodes_of t + left → nodes < 4294967296 → Stands (tree_form t place) s 0 used
    → read_tree levels nodes place s ≡ Some (record { tree = positioned place t; used = used; nodes = left })

abbrev ForestThere : ℕ → Forest → Type 0
ForestThere levels f = (nodes left place used : ℕ) (s : List ℕ) → nodes ≡ nodes_in f + left → nodes < 4294967296 → Stands (forest_form f place) s 0 used
    → read_list (read_tree levels) (further_ones f) nodes place s ≡ Some (record { forest = positioned_in place f; used = used; nodes = left })

one_more : (n : ℕ) → 1 + n ≡ suc n
one_more n = omega arith

none_there : (levels : ℕ) → ForestThere levels end
unfolding read_list further_ones forest_form positioned_in nodes_in
none_there levels nodes left place used s n small w = let m : nodes ≡ left = omega (arith, n) in rw (forms_ended place s 0 used w, m)

further_there : (levels : ℕ) (t : Tree) (f : Forest) → TreeThere levels t → ForestThere levels f → ForestThere levels (further t f)
unfolding read_list further_ones forest_form positioned_in nodes_in
further_there levels t f tree forest nodes left place used s n small w =
    let start = padding 4 place in
    let u = length (tree_form t (place + start)) in
    let v = length (forest_form f (place + (start + u))) in
    let pad = forms_apart aligned _ place s 0 start used (omega (arith, zeros_long (padding 4 (place + 0)))) (forms_start (forest_form (further t f)) place s used w) in
    let child = forms_apart _ _ place s start (start + u) used refl pad.1 in
    let others = forms_apart _ _ place s (start + u) (start + u + v) used refl child.1 in
    let full : used ≡ start + u + v = forms_ended _ s (start + u + v) used others.1 in
    let first = tree nodes (nodes_in f + left) (place + start) u (drop start s) (omega (arith, n)) small (stands_left (tree_form t (place + start)) s start u child.0) in
    let second = forest (nodes_in f + left) left (place + (start + u)) v (drop (start + u) s) refl (omega (arith, n, small)) (stands_left (forest_form f (place + (start + u))) s (start + u) v others.0) in
    let after : place + start + u ≡ place + (start + u) = omega arith in
    rw (one_more (further_ones f), le-leb start (length s) pad.0.room, zeros_there start s 0 start (forms_started aligned place s start pad.0), first, second, full, after)

-- no child without a node
a_node : (t : Tree) → 1 ≤ nodes_of t
unfolding nodes_of
a_node (leaf position l) = omega arith
a_node (and t f) = omega arith
a_node (or t f) = omega arith
a_node (not t) = omega arith

children_are_nodes : (f : Forest) → further_ones f ≤ nodes_in f
unfolding further_ones nodes_in
children_are_nodes end = omega arith
children_are_nodes (further t f) = omega (arith, children_are_nodes f, a_node t)

branch_there : (levels kind : ℕ) (t : Tree) (f : Forest) → is_branch kind ≡ true → kind < 4294967296 → ForestThere levels (further t f)
    → (nodes left place used : ℕ) (s : List ℕ) → nodes ≡ 1 + (nodes_of t + nodes_in f) + left → nodes < 4294967296 → Stands (branch_form kind (1 + further_ones f) (tree_form t) (forest_form f) place) s 0 used
    → read_tree (suc levels) nodes place s ≡ Some (record { tree = positioned place (pick (eqb kind 1) (and t f) (or t f)); used = used; nodes = left })
unfolding read_tree nodes_of further_ones forest_form positioned_in le
branch_there levels kind t f b known forest nodes left place used s n small w =
    let below = nodes_in (further t f) + left in
    let e : nodes ≡ suc below = omega (arith, n) in
    let head = forms_apart _ _ place s 0 4 used refl (forms_start (branch_form kind (1 + further_ones f) (tree_form t) (forest_form f)) place s used w) in
    let weight = forms_apart _ _ place s 4 8 used refl head.1 in
    let size = forms_apart _ _ place s 8 12 used refl weight.1 in
    let v = length (forest_form (further t f) (place + 12)) in
    let full : 12 + v ≡ used = size.1.ends in
    let is_kind : node_kind s ≡ kind = number_there 4 s 0 4 kind known head.0 in
    let count : 1 + further_ones f < 4294967296 = omega (arith, n, small, children_are_nodes f) in
    let is_count : number_at 4 s 8 ≡ 1 + further_ones f = number_there 4 s 8 12 (1 + further_ones f) count size.0 in
    let list = forest below left (place + 12) v (drop 12 s) refl (omega (arith, e, small)) (stands_left (forest_form (further t f) (place + 12)) s 12 v (rw (← full) at size.1)) in
    rw (e, le-leb 8 (length s) weight.0.room, is_kind, b, le-leb 12 (length s) size.0.room, is_count, list, ← full)
    (by_test (eqb kind 1) (λ q. rw q) (λ q. rw q))

not_there : (levels : ℕ) (t : Tree) → TreeThere levels t → TreeThere (suc levels) (not t)
unfolding read_tree nodes_of tree_form positioned le
not_there levels t tree nodes left place used s n small w =
    let m = nodes_of t + left in
    let e : nodes ≡ suc m = omega (arith, n) in
    let head = forms_apart _ _ place s 0 4 used refl (forms_start (tree_form (not t)) place s used w) in
    let weight = forms_apart _ _ place s 4 8 used refl head.1 in
    let u = length (tree_form t (place + 8)) in
    let child = forms_apart _ _ place s 8 (8 + u) used refl weight.1 in
    let full : used ≡ 8 + u = forms_ended _ s (8 + u) used child.1 in
    let is_kind : node_kind s ≡ 3 = number_there 4 s 0 4 3 (omega arith) head.0 in
    let read = tree m left (place + 8) u (drop 8 s) refl (omega (arith, e, small)) (stands_left (tree_form t (place + 8)) s 8 u child.0) in
    rw (e, le-leb 8 (length s) weight.0.room, is_kind, read, full)

leaf_is_there : (levels position : ℕ) (l : Leaf) → LeafFits l → TreeThere (suc levels) (leaf position l)
unfolding read_tree nodes_of tree_form positioned
leaf_is_there levels position l fits nodes left place used s n small w =
    let e : nodes ≡ suc left = omega (arith, n) in
    let h = leaf_there l place used s fits w in
    let no_and : eqb (node_kind s) 1 ≡ false = ne_eqb (node_kind s) 1 (λ q. omega (arith, q, h.low)) in
    let no_or : eqb (node_kind s) 2 ≡ false = ne_eqb (node_kind s) 2 (λ q. omega (arith, q, h.low)) in
    let no_not : eqb (node_kind s) 3 ≡ false = ne_eqb (node_kind s) 3 (λ q. omega (arith, q, h.low)) in
    rw (e, le-leb 8 (length s) h.past, no_and, no_or, no_not, h.read, h.same)

mutual
  unfolding levels_of LeavesFit nodes_of tree_form

  pub tree_there : (t : Tree) (levels : ℕ) → levels_of t ≤ levels → LeavesFit t → TreeThere levels t
  tree_there (leaf position l) zero h fits = absurd (omega arith)
  tree_there (leaf position l) (suc levels) h fits = leaf_is_there levels position l fits
  tree_there (and t f) zero h fits = absurd (omega arith)
  tree_there (and t f) (suc levels) h fits =
      branch_there levels 1 t f refl (omega arith)
      (further_there levels t f (tree_there t levels (omega (arith, h)) fits.0) (forest_there f levels (omega (arith, h)) fits.1))
  tree_there (or t f) zero h fits = absurd (omega arith)
  tree_there (or t f) (suc levels) h fits =
      branch_there levels 2 t f refl (omega arith)
      (further_there levels t f (tree_there t levels (omega (arith, h)) fits.0) (forest_there f levels (omega (arith, h)) fits.1))
  tree_there (not t) zero h fits = absurd (omega arith)
  tree_there (not t) (suc levels) h fits = not_there levels t (tree_there t levels (omega (arith, h)) fits)

  forest_there : (f : Forest) (levels : ℕ) → levels_in f ≤ levels → LeavesFitIn f → ForestThere levels f
  forest_there end levels h fits = none_there levels
  forest_there (further t f) levels h fits =
      further_there levels t f (tree_there t levels (omega (arith, h)) fits.0) (forest_there f levels (omega (arith, h)) fits.1)
