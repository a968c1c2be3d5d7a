-- Laws of the reader of trees: the ways that the reading of a node and of a list of children can go, and what is answered in each.
-- Assumes nothing.
use mathlib.Core.Path.{◌≡◌, refl, sym, ap, ◌∙◌}
use mathlib.Core.Bool.{Bool, true, false}
use mathlib.Core.List.{List}
use Rattle.std.specs.Prelude.{Option, None, Some}
use Prim.Native.Nat.{ℕ, zero, suc, ◌+◌, ◌-◌, ◌≤◌, ◌<◌}
use native.Mathlib.Omega.{arith}
use borrow.Author.Tests.{eq-eqb, ne_eqb, le-leb, lt-leb}
use lib.Dec.{leb}
use lib.ListN.{length, take, drop, length-drop}
use Rattle.lists.specs.Below.{pick, both}
use Rattle.wire.specs.Word.{number_at}
use Rattle.lists.proofs.Below.{by_test}
use Rattle.wire.proofs.Words.{rest}
use Rattle.tree.specs.Tree.{Forest, end, further}
use Rattle.wire.specs.Padding.{padding, zero_at}
use Rattle.tree.specs.Parts.{node_kind}
use Rattle.tree.specs.Reader.{TreeRead, ForestRead, Read, read_list, joined, branch_read, negated, not_read, leaf_read, read_node, read_tree}
use Rattle.tree.specs.Kinds.{is_branch}
use Rattle.lists.specs.Options.{and_then}
use Rattle.lists.proofs.Options.{none≢some, pair_is}
use Rattle.tree.specs.NodeTold.{node_answer, list_answer, used_of, with_before}

-- what is answered of a not, and of an and or an or whose first child was read
not_answers : (o : Option TreeRead) → with_before 8 (node_answer o) ≡ node_answer (and_then o negated)
not_answers None = refl
not_answers (Some r) = refl

pub not_by : (read : Read) (nodes place : ℕ) (s : List ℕ) (child : Option (ℕ × ℕ)) → child ≡ node_answer (read nodes (place + 8) (take (length s - 8) (drop 8 s)))
    → with_before 8 child ≡ node_answer (not_read read nodes place s)
not_by read nodes place s child e =
    let f : child ≡ node_answer (read nodes (place + 8) (drop 8 s)) = rw (rest 8 s) at e in
    ap (with_before 8) f ∙ not_answers (read nodes (place + 8) (drop 8 s))

abbrev further_of : TreeRead → ℕ → ForestRead → Option ForestRead
further_of t next f = Some (record { forest = further t.tree f.forest; used = next + f.used; nodes = f.nodes })

joins : (kind : ℕ) (t : TreeRead) (next : ℕ) (o : Option ForestRead)
    → with_before 12 (list_answer (and_then o (further_of t next))) ≡ node_answer (and_then (and_then o (further_of t next)) (joined kind))
joins kind t next None = refl
joins kind t next (Some f) = refl

-- and of a list of children whose first was read
extends : (t : TreeRead) (next : ℕ) (o : Option ForestRead) → with_before next (list_answer o) ≡ list_answer (and_then o (further_of t next))
extends t next None = refl
extends t next (Some f) = refl

-- a node that was answered was read, and one that was not was not
pub node_inv : (o : Option TreeRead) {u n : ℕ} → Some (u, n) ≡ node_answer o → (r : TreeRead) × (o ≡ Some r) × (u ≡ r.used) × (n ≡ r.nodes)
node_inv None e = absurd (none≢some (sym e))
node_inv (Some r) e = let p = pair_is e in (r, refl, p.0, p.1)

pub no_node_inv : (o : Option TreeRead) → None ≡ node_answer o → o ≡ None
no_node_inv None e = refl
no_node_inv (Some r) e = absurd (none≢some e)

one_less : (k : ℕ) → suc k - 1 ≡ k
one_less k = omega arith

-- a node where no level or no node is left, or its head is cut off
pub no_levels : (levels nodes place : ℕ) (s : List ℕ) → levels ≡ 0 → read_tree levels nodes place s ≡ None
unfolding read_tree
no_levels levels nodes place s e = rw e

pub no_nodes : (levels nodes place : ℕ) (s : List ℕ) → nodes ≡ 0 → read_tree levels nodes place s ≡ None
unfolding read_tree
no_nodes zero nodes place s e = refl
no_nodes (suc levels) nodes place s e = rw e

pub no_head : (levels nodes place : ℕ) (s : List ℕ) → length s < 8 → read_tree levels nodes place s ≡ None
unfolding read_tree
no_head zero nodes place s h = refl
no_head (suc levels) zero place s h = refl
no_head (suc levels) (suc nodes) place s h = rw (lt-leb 8 (length s) h)

-- a node where a level and a node are left and its head is there: by its kind
by_node : (levels nodes place : ℕ) (s : List ℕ) → (levels ≡ 0 → ⊥) → (nodes ≡ 0 → ⊥)
    → read_tree levels nodes place s ≡ read_node (read_tree (levels - 1)) (nodes - 1) place s
unfolding read_tree
by_node zero nodes place s l n = absurd (l refl)
by_node (suc levels) zero place s l n = absurd (n refl)
by_node (suc levels) (suc nodes) place s l n = rw (one_less levels, one_less nodes)

module _ (levels nodes place : ℕ) (s : List ℕ) (l : levels ≡ 0 → ⊥) (n : nodes ≡ 0 → ⊥) (h : 8 ≤ length s) (kind : ℕ) (k : kind ≡ node_kind s) where
  pub node_branch : is_branch kind ≡ true → read_tree levels nodes place s ≡ branch_read (read_tree (levels - 1)) kind (nodes - 1) place s
  node_branch b = by_node levels nodes place s l n ∙ rw (le-leb 8 (length s) h, ← k, b)

  pub node_not : is_branch kind ≡ false → kind ≡ 3 → read_tree levels nodes place s ≡ not_read (read_tree (levels - 1)) (nodes - 1) place s
  node_not b e = by_node levels nodes place s l n ∙ rw (le-leb 8 (length s) h, ← k, b, eq-eqb kind 3 e)

  pub node_leaf : is_branch kind ≡ false → (kind ≡ 3 → ⊥) → read_tree levels nodes place s ≡ leaf_read kind (nodes - 1) place s
  node_leaf b e = by_node levels nodes place s l n ∙ rw (le-leb 8 (length s) h, ← k, b, ne_eqb kind 3 e)

-- a list of at least one child: the children after the first, and the whole
abbrev rest_of : Read → ℕ → List ℕ → ℕ → ℕ → TreeRead → Option ForestRead
rest_of read place s start k t =
    and_then (read_list read k t.nodes (place + (start + t.used)) (drop (start + t.used) s)) (further_of t (start + t.used))

abbrev padded : List ℕ → ℕ → Bool
padded s start = both (leb start (length s)) (zero_at s 0 start)

list_is : (read : Read) (count nodes place : ℕ) (s : List ℕ) (start : ℕ) → start ≡ padding 4 place → (count ≡ 0 → ⊥)
    → read_list read count nodes place s
    ≡ pick (padded s start) (and_then (read nodes (place + start) (drop start s)) (rest_of read place s start (count - 1))) None
unfolding read_list
list_is read zero nodes place s start p n = absurd (n refl)
list_is read (suc k) nodes place s start p n = rw (one_less k, p)

-- the answer of an and or an or, from that of its children
module _ (read : Read) (kind nodes place : ℕ) (s : List ℕ) where
  pub branch_short : length s < 12 → None ≡ node_answer (branch_read read kind nodes place s)
  branch_short h = rw (lt-leb 12 (length s) h)

  pub branch_empty : number_at 4 s 8 ≡ 0 → None ≡ node_answer (branch_read read kind nodes place s)
  unfolding read_list
  branch_empty e = by_test (leb 12 (length s)) (λ q. rw (q, e)) (λ q. rw q)

  branch_list : (count at : ℕ) (u : List ℕ) → (count ≡ 0 → ⊥)
      → with_before 12 (list_answer (read_list read count nodes at u)) ≡ node_answer (and_then (read_list read count nodes at u) (joined kind))
  branch_list count at u n =
      rw (list_is read count nodes at u (padding 4 at) refl n)
      (by_test (padded u (padding 4 at)) (λ q. rw q (first (read nodes (at + padding 4 at) (drop (padding 4 at) u)))) (λ q. rw q))
    where
      first : (o : Option TreeRead)
          → let l = and_then o (rest_of read at u (padding 4 at) (count - 1)) in with_before 12 (list_answer l) ≡ node_answer (and_then l (joined kind))
      first None = refl
      first (Some t) =
          let next = padding 4 at + t.used in joins kind t next (read_list read (count - 1) t.nodes (at + next) (drop next u))

  pub branch_by : (count : ℕ) (list : Option (ℕ × ℕ)) → 12 ≤ length s → count ≡ number_at 4 s 8 → (count ≡ 0 → ⊥)
      → list ≡ list_answer (read_list read count nodes (place + 12) (take (length s - 12) (drop 12 s)))
      → with_before 12 list ≡ node_answer (branch_read read kind nodes place s)
  branch_by count list h c n e =
      let f : list ≡ list_answer (read_list read count nodes (place + 12) (drop 12 s)) = rw (rest 12 s) at e in
      rw (le-leb 12 (length s) h, ← c, f) (branch_list count (place + 12) (drop 12 s) n)

-- which of the two it is makes no difference to what is answered
pub branch_any : (read : Read) (kind nodes place : ℕ) (s : List ℕ) → node_answer (branch_read read 1 nodes place s) ≡ node_answer (branch_read read kind nodes place s)
branch_any read kind nodes place s =
    by_test (leb 12 (length s)) (λ q. rw q (go (read_list read (number_at 4 s 8) nodes (place + 12) (drop 12 s)))) (λ q. rw q)
  where
    same : (g : Forest) (used left : ℕ)
        → node_answer (joined 1 (record { forest = g; used = used; nodes = left })) ≡ node_answer (joined kind (record { forest = g; used = used; nodes = left }))
    same end used left = refl
    same (further t g) used left = refl

    go : (o : Option ForestRead) → node_answer (and_then o (joined 1)) ≡ node_answer (and_then o (joined kind))
    go None = refl
    go (Some f) = same f.forest f.used f.nodes

-- the answer of a list of children
pub list_none : (read : Read) (count nodes place : ℕ) (s : List ℕ) → count ≡ 0 → Some (0, nodes) ≡ list_answer (read_list read count nodes place s)
unfolding read_list
list_none read count nodes place s e = rw e

module _ (read : Read) (count nodes place : ℕ) (s : List ℕ) (start : ℕ) (p : start ≡ padding 4 place) (n : count ≡ 0 → ⊥) where
  pub list_short : length s < start → None ≡ list_answer (read_list read count nodes place s)
  list_short h = rw (list_is read count nodes place s start p n, lt-leb start (length s) h)

  module _ (h : start ≤ length s) where
    pub list_unclear : zero_at s 0 start ≡ false → None ≡ list_answer (read_list read count nodes place s)
    list_unclear z = rw (list_is read count nodes place s start p n, le-leb start (length s) h, z)

    module _ (z : zero_at s 0 start ≡ true) where
      pub list_bad : None ≡ node_answer (read nodes (place + start) (take (length s - start) (drop start s)))
          → None ≡ list_answer (read_list read count nodes place s)
      list_bad e =
          let o = no_node_inv (read nodes (place + start) (drop start s)) (rw (rest start s) at e) in
          rw (list_is read count nodes place s start p n, le-leb start (length s) h, z, o)

      list_read : (r : TreeRead) (used left : ℕ) (more : Option (ℕ × ℕ)) → read nodes (place + start) (drop start s) ≡ Some r → used ≡ r.used → left ≡ r.nodes
          → more ≡ list_answer (read_list read (count - 1) left (place + (start + used)) (drop (start + used) s))
          → with_before (start + used) more ≡ list_answer (read_list read count nodes place s)
      list_read r used left more o b d m =
          rw (m, list_is read count nodes place s start p n, le-leb start (length s) h, z, o, b, d)
          (extends r (start + r.used) (read_list read (count - 1) r.nodes (place + (start + r.used)) (drop (start + r.used) s)))

      pub list_by : (used left : ℕ) (more : Option (ℕ × ℕ)) → Some (used, left) ≡ node_answer (read nodes (place + start) (take (length s - start) (drop start s)))
          → more ≡ list_answer (read_list read (count - 1) left (place + (start + used)) (take (length s - (start + used)) (drop (start + used) s)))
          → with_before (start + used) more ≡ list_answer (read_list read count nodes place s)
      list_by used left more e m =
          let i = node_inv (read nodes (place + start) (drop start s)) (rw (rest start s) at e) in
          list_read i.0 used left more i.1 i.2 i.3 (rw (rest (start + used) s) at m)

-- a part ends where the whole does
pub place_in : (s : List ℕ) (place a : ℕ) {most : ℕ} → a ≤ length s → place + length s < most → place + a + length (take (length s - a) (drop a s)) < most
place_in s place a h l = rw (rest a s) (omega (arith, length-drop a s))

-- the bytes that are taken: those before a part, and those of the part
pub taken : (s : List ℕ) (a u : ℕ) → a ≤ length s → u ≤ length (take (length s - a) (drop a s)) → a + u ≤ length s
taken s a u h l = let m : u ≤ length (drop a s) = rw (rest a s) at l in omega (arith, length-drop a s)

pub before_used : (n : ℕ) (a : Option (ℕ × ℕ)) → used_of (with_before n a) ≤ n + used_of a
before_used n None = omega arith
before_used n (Some (used, left)) = omega arith
