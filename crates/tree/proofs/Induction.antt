-- What holds of every tree that is read: what holds of a leaf, and passes from children to a node. Assumes nothing.
use mathlib.Core.Path.{◌≡◌, refl, subst}
use mathlib.Core.Bool.{true}
use mathlib.Core.List.{List}
use Rattle.std.specs.Prelude.{Option, None, Some}
use Prim.Native.Nat.{ℕ, zero, suc, ◌+◌, ◌≤◌}
use borrow.Author.Tests.{leb-true, eqb-true}
use lib.Dec.{leb, eqb}
use lib.ListN.{length, drop}
use Rattle.lists.specs.Below.{pick, both}
use Rattle.wire.specs.Word.{number_at}
use Rattle.lists.proofs.Below.{by_test, both_left, both_right}
use Rattle.lists.proofs.Options.{none≢some, some_is, then_inv}
use Rattle.wire.specs.Padding.{padding, zero_at}
use Rattle.tree.specs.Parts.{node_kind, leaf_at, with_leaf, leaf_of}
use Rattle.tree.specs.Kinds.{and_kind, or_kind, not_kind, head_size, is_branch, list_head}
use Rattle.tree.specs.declared.Parts.{Parts}
use Rattle.tree.proofs.LeafLaws.{pick_inv}
use Rattle.tree.specs.Tree.{Tree, Forest, leaf, and, or, not, end, further}
use Rattle.tree.specs.Reader.{TreeRead, ForestRead, Read, read_list, joined, branch_read, negated, not_read, leaf_read, read_node, read_tree}

-- what is said of a tree, and of so many children, that were read with so many levels and nodes left at a place of what is unread
pub record Said : Type 1 where
  pub of_tree : (levels nodes place : ℕ) → List ℕ → TreeRead → Type 0
  pub of_forest : (levels count nodes place : ℕ) → List ℕ → ForestRead → Type 0

abbrev OfBranch : Said → ℕ → (Tree → Forest → Tree) → Type 0
OfBranch Q kind joins = (l n p : ℕ) (s : List ℕ) (t : Tree) (g : Forest) (used nodes : ℕ) → list_head ≤ length s → node_kind s ≡ kind
    → Q.of_forest l (number_at 4 s head_size) n (p + list_head) (drop list_head s) (record { forest = further t g; used = used; nodes = nodes })
    → Q.of_tree (suc l) (suc n) p s (record { tree = joins t g; used = list_head + used; nodes = nodes })

pub record Passes (Q : Said) : Type 0 where
  pub none_left : (l n p : ℕ) (s : List ℕ) → Q.of_forest l 0 n p s (record { forest = end; used = 0; nodes = n })
  pub one_more : (l k n p : ℕ) (s : List ℕ) (t : TreeRead) (f : ForestRead)
      → let start = padding 4 p in
      start ≤ length s → zero_at s 0 start ≡ true → Q.of_tree l n (p + start) (drop start s) t
      → Q.of_forest l k t.nodes (p + (start + t.used)) (drop (start + t.used) s) f
      → Q.of_forest l (suc k) n p s (record { forest = further t.tree f.forest; used = start + t.used + f.used; nodes = f.nodes })
  pub of_and : OfBranch Q and_kind and
  pub of_or : OfBranch Q or_kind or
  pub of_not : (l n p : ℕ) (s : List ℕ) (t : TreeRead) → head_size ≤ length s → node_kind s ≡ not_kind → Q.of_tree l n (p + head_size) (drop head_size s) t
      → Q.of_tree (suc l) (suc n) p s (record { tree = not t.tree; used = head_size + t.used; nodes = t.nodes })
  pub of_leaf : (l n p : ℕ) (s : List ℕ) (parts : Parts) (used : ℕ) → leaf_at (node_kind s) s p ≡ Some (parts, used)
      → Q.of_tree (suc l) (suc n) p s (record { tree = leaf p (leaf_of s parts); used = used; nodes = n })

module _ (Q : Said) (passes : Passes Q) where
  Good : ℕ → Read → Type 0
  Good l read = (nodes place : ℕ) (s : List ℕ) (r : TreeRead) → read nodes place s ≡ Some r → Q.of_tree l nodes place s r

  module _ (l : ℕ) (read : Read) (good : Good l read) where
    list_good : (k nodes place : ℕ) (s : List ℕ) (r : ForestRead) → read_list read k nodes place s ≡ Some r → Q.of_forest l k nodes place s r
    unfolding read_list Good
    list_good zero nodes place s r e =
        subst (Q.of_forest l 0 nodes place s) (some_is {a = record { forest = end; used = 0; nodes = nodes }} e) (passes.none_left l nodes place s)
    list_good (suc k) nodes place s r e =
        let start = padding 4 place in
        let i = pick_inv (both (leb start (length s)) (zero_at s 0 start)) _ None (Some r) none≢some e in
        let j = then_inv (read nodes (place + start) (drop start s)) _ r i.1 in
        let t = j.0 in
        let next = start + t.used in
        let m = then_inv (read_list read k t.nodes (place + next) (drop next s)) _ r j.2 in
        let f = m.0 in
        subst (Q.of_forest l (suc k) nodes place s)
        (some_is {a = record { forest = further t.tree f.forest; used = next + f.used; nodes = f.nodes }} m.2)
        (passes.one_more l k nodes place s t f
        (leb-true start (length s) (both_left (leb start (length s)) (zero_at s 0 start) i.0))
        (both_right (leb start (length s)) (zero_at s 0 start) i.0)
        (good nodes (place + start) (drop start s) t j.1)
        (list_good k t.nodes (place + next) (drop next s) f m.1))

    module _ (nodes place : ℕ) (s : List ℕ) (r : TreeRead) where
      not_good : head_size ≤ length s → node_kind s ≡ not_kind → not_read read nodes place s ≡ Some r → Q.of_tree (suc l) (suc nodes) place s r
      unfolding Good
      not_good h k e =
          let j = then_inv (read nodes (place + head_size) (drop head_size s)) negated r e in
          let t = j.0 in
          subst (Q.of_tree (suc l) (suc nodes) place s)
          (some_is {a = record { tree = not t.tree; used = head_size + t.used; nodes = t.nodes }} j.2)
          (passes.of_not l nodes place s t h k (good nodes (place + head_size) (drop head_size s) t j.1))

      joined_good : (g : Forest) (used left : ℕ) → list_head ≤ length s → is_branch (node_kind s) ≡ true
          → Q.of_forest l (number_at 4 s head_size) nodes (place + list_head) (drop list_head s) (record { forest = g; used = used; nodes = left })
          → joined (node_kind s) (record { forest = g; used = used; nodes = left }) ≡ Some r → Q.of_tree (suc l) (suc nodes) place s r
      joined_good end used left h b o e = absurd (none≢some e)
      joined_good (further t g) used left h b o e =
          subst (Q.of_tree (suc l) (suc nodes) place s)
          (some_is {a = record { tree = pick (eqb (node_kind s) 1) (and t g) (or t g); used = list_head + used; nodes = left }} e)
          (by_test (eqb (node_kind s) 1)
          (λ q. rw q (passes.of_and l nodes place s t g used left h (eqb-true (node_kind s) 1 q) o))
          (λ q. rw q (passes.of_or l nodes place s t g used left h (eqb-true (node_kind s) 2 (rw q at b)) o)))

      branch_good : is_branch (node_kind s) ≡ true → branch_read read (node_kind s) nodes place s ≡ Some r → Q.of_tree (suc l) (suc nodes) place s r
      branch_good b e =
          let i = pick_inv (leb list_head (length s)) _ None (Some r) none≢some e in
          let j = then_inv (read_list read (number_at 4 s head_size) nodes (place + list_head) (drop list_head s)) (joined (node_kind s)) r i.1 in
          let f = j.0 in
          joined_good f.forest f.used f.nodes (leb-true list_head (length s) i.0) b
          (list_good (number_at 4 s head_size) nodes (place + list_head) (drop list_head s) f j.1) j.2

      leaf_good : leaf_read (node_kind s) nodes place s ≡ Some r → Q.of_tree (suc l) (suc nodes) place s r
      leaf_good e = go (leaf_at (node_kind s) s place) refl e
        where
          go : (x : Option (Parts × ℕ)) → leaf_at (node_kind s) s place ≡ x
              → with_leaf x None (λ parts used. Some (record { tree = leaf place (leaf_of s parts); used = used; nodes = nodes })) ≡ Some r
              → Q.of_tree (suc l) (suc nodes) place s r
          go None q e = absurd (none≢some e)
          go (Some (parts, used)) q e =
              subst (Q.of_tree (suc l) (suc nodes) place s)
              (some_is {a = record { tree = leaf place (leaf_of s parts); used = used; nodes = nodes }} e)
              (passes.of_leaf l nodes place s parts used q)

      node_good : read_node read nodes place s ≡ Some r → Q.of_tree (suc l) (suc nodes) place s r
      node_good e =
          let i = pick_inv (leb head_size (length s)) _ None (Some r) none≢some e in
          by_test (is_branch (node_kind s))
          (λ q. branch_good q (rw q at i.1))
          (λ q. by_test (eqb (node_kind s) 3)
          (λ p. not_good (leb-true head_size (length s) i.0) (eqb-true (node_kind s) 3 p) (rw (q, p) at i.1))
          (λ p. leaf_good (rw (q, p) at i.1)))

  pub of_every_tree : (l nodes place : ℕ) (s : List ℕ) (r : TreeRead) → read_tree l nodes place s ≡ Some r → Q.of_tree l nodes place s r
  unfolding read_tree Good
  of_every_tree zero nodes place s r e = absurd (none≢some e)
  of_every_tree (suc l) zero place s r e = absurd (none≢some e)
  of_every_tree (suc l) (suc nodes) place s r e = node_good l (read_tree l) (of_every_tree l) nodes place s r e
