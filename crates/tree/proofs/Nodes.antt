-- A node that is read from unread bytes: its parts are read from those that the code hands on, and their answers joined are its answer.
-- Assumes nothing.
use mathlib.Core.Path.{◌≡◌, refl, sym, ap, ◌∙◌}
use mathlib.Core.Bool.{Bool, true, false, not}
use mathlib.Core.List.{List}
use Rattle.std.specs.Prelude.{Option, None, Some}
use Prim.Native.Nat.{ℕ, zero, suc, ◌+◌, ◌-◌, ◌%◌, ◌≤◌, ◌<◌}
use native.Mathlib.Nat.{add-zero, zero-add}
use native.Mathlib.Omega.{arith}
use borrow.Author.Tests.{leb-true, leb-false, ne_eqb, eqb-true, eqb-false}
use lib.Dec.{leb, eqb}
use lib.ListN.{length, take, drop, length-drop}
use lib.Seq.{drop-drop}
use Rattle.lists.specs.Below.{pick, both, either}
use Rattle.wire.specs.Word.{number_at}
use Rattle.lists.proofs.Below.{by_test, true≢false}
use Rattle.lists.proofs.Options.{none≢some, some_is, then_inv}
use Rattle.catalogue.specs.Plain.{Row}
use Rattle.wire.specs.Padding.{padding, zero_at}
use Rattle.wire.proofs.Words.{rest}
use Rattle.tree.specs.Parts.{node_kind, leaf_at, with_leaf, leaf_of}
use Rattle.tree.specs.declared.Parts.{Parts}
use Rattle.tree.proofs.LeafLaws.{pick_inv}
use Rattle.tree.specs.LeafHolds.{leaf_holds}
use Rattle.tree.specs.Limits.{bytes_most, nodes_most, levels_most}
use Rattle.tree.specs.Tree.{Tree, Forest, leaf, and, or, end, further}
use Rattle.tree.specs.TreeHolds.{says, every_says, some_says, tells_of, holds, held_by}
use Rattle.tree.specs.Reader.{TreeRead, ForestRead, Read, read_list, joined, branch_read, negated, not_read, leaf_read, read_tree, restriction, is_tree}
use Rattle.tree.specs.Kinds.{is_branch}
use Rattle.tree.proofs.TreeFacts.{held}
use Rattle.tree.proofs.TreeLaws.{no_levels, no_nodes, no_head, node_branch, node_not, node_leaf}
use Rattle.tree.specs.VerdictTold.{told, decides}
use Rattle.tree.specs.declared.Verdict.{Verdict}
use Rattle.catalogue.specs.CataloguePlaces.{row_of}
use Rattle.catalogue.specs.declared.Fields.{Fields}
use Rattle.tree.specs.LeafPlaces.{relation_in}
use Rattle.tree.specs.HoldTold.{relation_says, leaf_told, Tells, ListHolds}
use Rattle.tree.specs.SizeTold.{leaf_size, Takes, NodeTakes, Rest, RestReady, RestEnds}
use Rattle.tree.specs.HoldReady.{LeafReady, Found}
use Rattle.tree.proofs.Leaves.{leaf_anywhere, leaf_fours, relation_inside, relation_is, relation_size_lem}

told_same : (h k : Bool) (e u : ℕ) → told h e ≡ told k u → (h ≡ k) × (e ≡ u)
told_same h k e u q = (ap (λ (v : Verdict). v.holds) q, ap (λ (v : Verdict). v.used) q)

-- a node that is read has a level, a node and its head
module _ (levels nodes place : ℕ) (s : List ℕ) (r : TreeRead) (e : read_tree levels nodes place s ≡ Some r) where
  pub node_levels : levels ≡ 0 → ⊥
  node_levels q = none≢some (sym (no_levels levels nodes place s q) ∙ e)

  pub node_nodes : nodes ≡ 0 → ⊥
  node_nodes q = none≢some (sym (no_nodes levels nodes place s q) ∙ e)

  pub node_head : 8 ≤ length s
  node_head =
      by_test (leb 8 (length s))
      (λ q. leb-true 8 (length s) q)
      (λ q. absurd (none≢some (sym (no_head levels nodes place s (leb-false 8 (length s) q)) ∙ e)))

-- and it is read by its kind, its first word
module _ (levels nodes place : ℕ) (s : List ℕ) (r : TreeRead) (e : read_tree levels nodes place s ≡ Some r) (kind : ℕ) (k : kind ≡ node_kind s) where
  pub as_branch : is_branch kind ≡ true → branch_read (read_tree (levels - 1)) kind (nodes - 1) place s ≡ Some r
  as_branch b =
      sym (node_branch levels nodes place s (node_levels levels nodes place s r e) (node_nodes levels nodes place s r e) (node_head levels nodes place s r e) kind k b) ∙ e

  pub as_not : is_branch kind ≡ false → kind ≡ 3 → not_read (read_tree (levels - 1)) (nodes - 1) place s ≡ Some r
  as_not b n =
      sym (node_not levels nodes place s (node_levels levels nodes place s r e) (node_nodes levels nodes place s r e) (node_head levels nodes place s r e) kind k b n) ∙ e

  pub as_leaf : is_branch kind ≡ false → (kind ≡ 3 → ⊥) → leaf_read kind (nodes - 1) place s ≡ Some r
  as_leaf b n =
      sym (node_leaf levels nodes place s (node_levels levels nodes place s r e) (node_nodes levels nodes place s r e) (node_head levels nodes place s r e) kind k b n) ∙ e

pub node_inside : (levels : ℕ) (s : List ℕ) → Found (read_tree levels) s → 8 ≤ length s
node_inside levels s f = node_head levels f.nodes f.place s f.node f.is

pub branch_found : (levels : ℕ) (s : List ℕ) → Found (read_tree levels) s → (kind : ℕ) → kind ≡ node_kind s → is_branch kind ≡ true
    → Found (branch_read (read_tree (levels - 1)) kind) s
branch_found levels s f kind k b =
    record {
      short = f.short;
      place = f.place;
      aligned = f.aligned;
      nodes = f.nodes - 1;
      node = f.node;
      is = as_branch levels f.nodes f.place s f.node f.is kind k b;
      inside = f.inside;
    }

pub branch_told : (levels : ℕ) (s : List ℕ) (row : Row) (answer : Verdict) (kind : ℕ) → kind ≡ node_kind s → is_branch kind ≡ true
    → Tells (branch_read (read_tree (levels - 1)) kind) s row answer → Tells (read_tree levels) s row answer
branch_told levels s row answer kind k b tells place nodes r a e =
    tells place (nodes - 1) r a (as_branch levels nodes place s r e kind k b)

-- also by whether it holds and by what it takes
pub branch_tells : (levels : ℕ) (s : List ℕ) (row : Row) (says : Bool) (size kind : ℕ) → kind ≡ node_kind s → is_branch kind ≡ true
    → ListHolds kind s (levels - 1) row says → Takes (read_tree levels) s size → Tells (read_tree levels) s row (told says size)
branch_tells levels s row says size kind k b h takes place nodes r a e =
    rw (h place (nodes - 1) r a (as_branch levels nodes place s r e kind k b), takes place nodes r a e)

-- a kind from 4 on is that of a leaf
pub leaf_kind : (kind : ℕ) → 4 ≤ kind → is_branch kind ≡ false
leaf_kind kind h = rw (ne_eqb kind 1 (λ q. omega (arith, h, q)), ne_eqb kind 2 (λ q. omega (arith, h, q)))

-- a not is answered by its child
module _ (levels : ℕ) (s : List ℕ) (kind : ℕ) (k : kind ≡ node_kind s) (b : is_branch kind ≡ false) (n : kind ≡ 3) where
  not_child : (place nodes : ℕ) (r : TreeRead) → read_tree levels nodes place s ≡ Some r
      → (t : TreeRead)
      × (read_tree (levels - 1) (nodes - 1) (place + 8) (drop 8 s) ≡ Some t)
      × (r ≡ record { tree = Tree.not t.tree; used = 8 + t.used; nodes = t.nodes })
  not_child place nodes r e =
      let j = then_inv (read_tree (levels - 1) (nodes - 1) (place + 8) (drop 8 s)) negated r (as_not levels nodes place s r e kind k b n) in
      (j.0, j.1, sym (some_is j.2))

  pub not_found : Found (read_tree levels) s → Found (read_tree (levels - 1)) (take (length s - 8) (drop 8 s))
  not_found f =
      let j = not_child f.place f.nodes f.node f.is in
      rw (rest 8 s)
      (record {
        short = omega (arith, f.short, length-drop 8 s);
        place = f.place + 8;
        aligned = omega (arith, f.aligned);
        nodes = f.nodes - 1;
        node = j.0;
        is = j.1;
        inside = omega (arith, f.inside, length-drop 8 s, ap (λ (r : TreeRead). r.used) j.2);
      })

  pub not_told : (row : Row) (answer : Verdict) → Tells (read_tree (levels - 1)) (take (length s - 8) (drop 8 s)) row answer
      → Tells (read_tree levels) s row (told (not answer.holds) (8 + answer.used))
  unfolding says
  not_told row answer tells place nodes r a e =
      let j = not_child place nodes r e in
      let t = j.0 in
      let f : Tells (read_tree (levels - 1)) (drop 8 s) row answer = rw (rest 8 s) at tells in
      let turns : told (not answer.holds) (8 + answer.used) ≡ told (holds (Tree.not t.tree) row) (8 + t.used)
      = ap (λ (v : Verdict). told (not v.holds) (8 + v.used)) (f (place + 8) (nodes - 1) t (omega (arith, a)) j.1) in
      turns ∙ ap (λ (x : TreeRead). told (holds x.tree row) x.used) (sym j.2)

  pub not_takes : (size : ℕ) → Takes (read_tree (levels - 1)) (take (length s - 8) (drop 8 s)) size → Takes (read_tree levels) s (8 + size)
  not_takes size takes place nodes r a e =
      let j = not_child place nodes r e in
      let f : Takes (read_tree (levels - 1)) (drop 8 s) size = rw (rest 8 s) at takes in
      omega (arith, f (place + 8) (nodes - 1) j.0 (omega (arith, a)) j.1, ap (λ (x : TreeRead). x.used) j.2)

-- the bytes of a node that is found lie inside
pub takes_inside : (levels : ℕ) (s : List ℕ) (size : ℕ) → Found (read_tree levels) s → Takes (read_tree levels) s size → size ≤ length s
takes_inside levels s size f takes = omega (arith, takes f.place f.nodes f.node f.aligned f.is, f.inside)

-- what is told of a node that is found takes no more than its bytes
pub told_inside : (levels : ℕ) (s : List ℕ) (row : Row) (answer : Verdict) → Found (read_tree levels) s → Tells (read_tree levels) s row answer
    → answer.used ≤ length s
told_inside levels s row answer f tells = rw (tells f.place f.nodes f.node f.aligned f.is) f.inside

-- a leaf is answered as it is read
module _ (levels : ℕ) (s : List ℕ) (kind : ℕ) (k : kind ≡ node_kind s) (b : is_branch kind ≡ false) (n : kind ≡ 3 → ⊥) where
  leaf_there : (place nodes : ℕ) (r : TreeRead) → place % 4 ≡ 0 → read_tree levels nodes place s ≡ Some r
      → (parts : Parts)
      × (used : ℕ)
      × (leaf_at kind s 0 ≡ Some (parts, used))
      × (r ≡ record { tree = leaf place (leaf_of s parts); used = used; nodes = nodes - 1 })
  leaf_there place nodes r a e = go (leaf_at kind s place) refl (as_leaf levels nodes place s r e kind k b n)
    where
      go : (x : Option (Parts × ℕ)) → leaf_at kind s place ≡ x
          → with_leaf x None (λ parts used. Some (record { tree = leaf place (leaf_of s parts); used = used; nodes = nodes - 1 })) ≡ Some r
          → (parts : Parts)
          × (used : ℕ)
          × (leaf_at kind s 0 ≡ Some (parts, used))
          × (r ≡ record { tree = leaf place (leaf_of s parts); used = used; nodes = nodes - 1 })
      go None q e = absurd (none≢some e)
      go (Some (parts, used)) q e = (parts, used, sym (leaf_anywhere kind s place a) ∙ q, sym (some_is e))

  pub leaf_found : Found (read_tree levels) s → LeafReady kind s
  leaf_found f =
      let l = leaf_there f.place f.nodes f.node f.aligned f.is in
      record { parts = l.0; used = l.1; read = l.2 }

  pub leaf_answer : (row : Row) (answer : Verdict) → answer ≡ leaf_told kind s row → Tells (read_tree levels) s row answer
  unfolding says
  leaf_answer row answer q place nodes r a e =
      let l = leaf_there place nodes r a e in
      let same : leaf_told kind s row ≡ told (leaf_holds row (leaf_of s l.0)) l.1 = rw l.2 in
      q ∙ same ∙ ap (λ (x : TreeRead). told (holds x.tree row) x.used) (sym l.3)

  pub leaf_takes : (size : ℕ) → size ≡ leaf_size kind s → Takes (read_tree levels) s size
  leaf_takes size q place nodes r a e =
      let l = leaf_there place nodes r a e in
      let same : leaf_size kind s ≡ l.1 = rw l.2 in
      q ∙ same ∙ ap (λ (x : TreeRead). x.used) (sym l.3)

-- a property leaf takes 44 bytes, and is answered by what its relation says
module _ (levels : ℕ) (s : List ℕ) (f : Found (read_tree levels) s) (k : 5 ≡ node_kind s) where
  property_ready : LeafReady 5 s
  property_ready = leaf_found levels s 5 k refl (λ q. omega (arith, q)) f

  pub property_inside : 44 ≤ length s
  property_inside = relation_inside 5 s property_ready (λ q. omega (arith, q))

  pub property_takes : Takes (read_tree levels) s 44
  property_takes = leaf_takes levels s 5 k refl (λ q. omega (arith, q)) 44 (relation_size_lem 5 s property_ready (λ q. omega (arith, q)))

  pub property_told : (held : List ℕ) (g : Fields) (says : Bool) → says ≡ relation_says (relation_in s) g → Tells (read_tree levels) s (row_of held g) (told says 44)
  property_told held g says e =
      leaf_answer levels s 5 k refl (λ q. omega (arith, q)) (row_of held g) (told says 44)
      (ap (λ (b : Bool). told b 44) e ∙ relation_is 5 s property_ready (λ q. omega (arith, q)) held g)

-- an and holds where it held so far and one child more does, an or where one of the two does
abbrev pub with_child : ℕ → Bool → Bool → Bool
with_child kind before child = pick (eqb kind 1) (both before child) (either before child)

-- what a list of children says
abbrev list_holds : ℕ → Row → Forest → Bool
list_holds kind row g = pick (eqb kind 1) (every_says (tells_of row) g) (some_says (tells_of row) g)

list_first : (kind : ℕ) (row : Row) (t : Tree) (g : Forest) → list_holds kind row (further t g) ≡ with_child kind (holds t row) (list_holds kind row g)
unfolding says
list_first kind row t g = by_test (eqb kind 1) (λ q. rw q) (λ q. rw q)

list_empty : (kind : ℕ) (row : Row) (h : Bool) → with_child kind h (list_holds kind row end) ≡ h
unfolding says
list_empty kind row true = by_test (eqb kind 1) (λ q. rw q) (λ q. rw q)
list_empty kind row false = by_test (eqb kind 1) (λ q. rw q) (λ q. rw q)

child_start : (kind : ℕ) (x : Bool) → with_child kind (eqb kind 1) x ≡ x
child_start kind x = by_test (eqb kind 1) (λ q. rw q) (λ q. rw q)

child_joins : (kind : ℕ) (a b c : Bool) → with_child kind (with_child kind a b) c ≡ with_child kind a (with_child kind b c)
child_joins kind true b c = by_test (eqb kind 1) (λ q. rw q) (λ q. rw q)
child_joins kind false b c = by_test (eqb kind 1) (λ q. rw q) (λ q. rw q)

-- a child that does not decide leaves the answer open, and after one that does no other child changes it
child_open : (kind : ℕ) (b : Bool) → decides kind b ≡ false → with_child kind (eqb kind 1) b ≡ eqb kind 1
child_open kind true d = by_test (eqb kind 1) (λ q. rw q) (λ q. absurd (true≢false (rw q at d)))
child_open kind false d = by_test (eqb kind 1) (λ q. absurd (true≢false (rw q at d))) (λ q. rw q)

child_decides : (kind : ℕ) (b others : Bool) → decides kind b ≡ true → with_child kind (with_child kind (eqb kind 1) b) others ≡ b
child_decides kind true others d = by_test (eqb kind 1) (λ q. absurd (true≢false (sym (rw q at d)))) (λ q. rw q)
child_decides kind false others d = by_test (eqb kind 1) (λ q. rw q) (λ q. absurd (true≢false (sym (rw q at d))))

joined_holds : (row : Row) (kind : ℕ) (f : ForestRead) (r : TreeRead) → joined kind f ≡ Some r → holds r.tree row ≡ list_holds kind row f.forest
unfolding says
joined_holds row kind f r e = go f.forest f.used f.nodes e
  where
    go : (g : Forest) (used nodes : ℕ) → joined kind (record { forest = g; used = used; nodes = nodes }) ≡ Some r
        → holds r.tree row ≡ list_holds kind row g
    go end used nodes e = absurd (none≢some e)
    go (further t g) used nodes e =
        rw (← some_is {a = record { tree = pick (eqb kind 1) (and t g) (or t g); used = 12 + used; nodes = nodes }} e)
        (by_test (eqb kind 1) (λ q. rw q) (λ q. rw q))

joined_used : (kind : ℕ) (f : ForestRead) (r : TreeRead) → joined kind f ≡ Some r → r.used ≡ 12 + f.used
joined_used kind f r e = go f.forest f.used f.nodes e
  where
    go : (g : Forest) (used nodes : ℕ) → joined kind (record { forest = g; used = used; nodes = nodes }) ≡ Some r → r.used ≡ 12 + used
    go end used nodes e = absurd (none≢some e)
    go (further t g) used nodes e = rw (← some_is {a = record { tree = pick (eqb kind 1) (and t g) (or t g); used = 12 + used; nodes = nodes }} e)

-- one child of a list, and those after it, at a place that needs no padding
abbrev First : Read → ℕ → ℕ → List ℕ → ForestRead → ℕ → Type 0
First read count place s f nodes =
    (x : TreeRead)
    × (g : ForestRead)
    × (read nodes place s ≡ Some x)
    × (read_list read count x.nodes (place + x.used) (drop x.used s) ≡ Some g)
    × (f ≡ record { forest = further x.tree g.forest; used = x.used + g.used; nodes = g.nodes })

child_read : (read : Read) (count place : ℕ) (s : List ℕ) (f : ForestRead) (nodes : ℕ) → place % 4 ≡ 0 → read_list read (suc count) nodes place s ≡ Some f
    → First read count place s f nodes
unfolding read_list
child_read read count place s f nodes a e =
    let unpadded : padding 4 place ≡ 0 = omega (arith, a) in
    let i = pick_inv (both (leb 0 (length s)) (zero_at s 0 0)) _ None (Some f) none≢some (rw unpadded at e) in
    let j = then_inv (read nodes (place + 0) s) _ f i.1 in
    let m = then_inv (read_list read count j.0.nodes (place + (0 + j.0.used)) (drop (0 + j.0.used) s)) _ f j.2 in
    plainly j.0 m.0 j.1 m.1 m.2
  where
    plainly : (x : TreeRead) (g : ForestRead) → read nodes (place + 0) s ≡ Some x
        → read_list read count x.nodes (place + (0 + x.used)) (drop (0 + x.used) s) ≡ Some g
        → Some (record { forest = further x.tree g.forest; used = 0 + x.used + g.used; nodes = g.nodes }) ≡ Some f
        → First read count place s f nodes
    plainly x g p q w = (x, g, rw add-zero at p, rw zero-add at q, rw zero-add at (sym (some_is w)))

-- every node takes a multiple of 4, so that none of a list needs padding
abbrev Fours : Read → Type 0
Fours read = (place nodes : ℕ) (s : List ℕ) (r : TreeRead) → place % 4 ≡ 0 → read nodes place s ≡ Some r → r.used % 4 ≡ 0

list_fours : (read : Read) → Fours read → (count place nodes : ℕ) (s : List ℕ) (f : ForestRead) → place % 4 ≡ 0 → read_list read count nodes place s ≡ Some f
    → f.used % 4 ≡ 0
unfolding read_list
list_fours read good zero place nodes s f a e = ap (λ (x : ForestRead). x.used % 4) (sym (some_is {a = record { forest = end; used = 0; nodes = nodes }} e))
list_fours read good (suc count) place nodes s f a e =
    let o = child_read read count place s f nodes a e in
    let x = good place nodes s o.0 a o.2 in
    let g = list_fours read good count (place + o.0.used) o.0.nodes (drop o.0.used s) o.1 (omega (arith, a, x)) o.3 in
    omega (arith, x, g, ap (λ (x : ForestRead). x.used) o.4)

tree_fours : (levels : ℕ) → Fours (read_tree levels)
tree_fours zero place nodes s r a e = absurd (node_levels zero nodes place s r e refl)
tree_fours (suc levels) place nodes s r a e =
    let below : suc levels - 1 ≡ levels = omega arith in
    by_test (is_branch (node_kind s))
    (λ b.
    let q : branch_read (read_tree levels) (node_kind s) (nodes - 1) place s ≡ Some r = rw below at (as_branch (suc levels) nodes place s r e (node_kind s) refl b) in
    let i = pick_inv (leb 12 (length s)) _ None (Some r) none≢some q in
    let j = then_inv (read_list (read_tree levels) (number_at 4 s 8) (nodes - 1) (place + 12) (drop 12 s)) (joined (node_kind s)) r i.1 in
    omega (arith, joined_used (node_kind s) j.0 r j.2, list_fours (read_tree levels) (tree_fours levels) _ (place + 12) (nodes - 1) (drop 12 s) j.0 (omega (arith, a)) j.1))
    (λ b.
    by_test (eqb (node_kind s) 3)
    (λ n.
    let c = not_child (suc levels) s (node_kind s) refl b (eqb-true (node_kind s) 3 n) place nodes r e in
    omega (arith, ap (λ (x : TreeRead). x.used) c.2, tree_fours levels (place + 8) (nodes - 1) (drop 8 s) c.0 (omega (arith, a)) (rw below at c.1)))
    (λ n.
    let l = leaf_there (suc levels) s (node_kind s) refl b (eqb-false (node_kind s) 3 n) place nodes r a e in
    omega (arith, ap (λ (x : TreeRead). x.used) l.3, leaf_fours (node_kind s) s (record { parts = l.0; used = l.1; read = l.2 }))))

module _ (read : Read) (s : List ℕ) (place count at last : ℕ) (l : Rest read s place count at last) where
  first_left : 0 < count → First read (count - 1) (place + at) (drop at s) l.children l.nodes
  first_left h =
      let more : suc (count - 1) ≡ count = omega (arith, h) in
      child_read read (count - 1) (place + at) (drop at s) l.children l.nodes l.aligned (rw more l.is)

  rest_child : 0 < count → length s ≤ bytes_most → last ≤ length s → Found read (drop at s)
  rest_child h short inside =
      let o = first_left h in
      record {
        short = omega (arith, short, length-drop at s);
        place = place + at;
        aligned = l.aligned;
        nodes = l.nodes;
        node = o.0;
        is = o.2;
        inside = omega (arith, inside, length-drop at s, l.ends, ap (λ (f : ForestRead). f.used) o.4);
      }

  abbrev rest_next : Fours read → (size : ℕ) → 0 < count → Takes read (drop at s) size → Rest read s place (count - 1) (at + size) last
  rest_next good size h takes =
      let o = first_left h in
      let x = o.0 in
      let taken : size ≡ x.used = takes (place + at) l.nodes x l.aligned o.2 in
      let after : place + (at + x.used) ≡ place + at + x.used = omega arith in
      record {
        aligned = omega (arith, l.aligned, taken, good (place + at) l.nodes (drop at s) x l.aligned o.2);
        nodes = x.nodes;
        children = o.1;
        is = rw (taken, after, ← drop-drop x.used at s) o.3;
        ends = omega (arith, taken, l.ends, ap (λ (f : ForestRead). f.used) o.4);
      }

  rest_none : count ≡ 0 → (l.children.forest ≡ end) × (at ≡ last)
  unfolding read_list
  rest_none z =
      let e : read_list read 0 l.nodes (place + at) (drop at s) ≡ Some l.children = rw z at l.is in
      let f : record { forest = end; used = 0; nodes = l.nodes } ≡ l.children = some_is e in
      (ap (λ (f : ForestRead). f.forest) (sym f), omega (arith, l.ends, ap (λ (f : ForestRead). f.used) f))

-- the children of an and or an or that is read there
module _ (read : Read) (kind : ℕ) (s : List ℕ) (place nodes : ℕ) (r : TreeRead) (a : place % 4 ≡ 0) (e : branch_read read kind nodes place s ≡ Some r) where
  branch_list : (12 ≤ length s) × ((f : ForestRead) × (read_list read (number_at 4 s 8) nodes (place + 12) (drop 12 s) ≡ Some f) × (joined kind f ≡ Some r))
  branch_list =
      let i = pick_inv (leb 12 (length s)) _ None (Some r) none≢some e in
      let j = then_inv (read_list read (number_at 4 s 8) nodes (place + 12) (drop 12 s)) (joined kind) r i.1 in
      (leb-true 12 (length s) i.0, (j.0, j.1, j.2))

  abbrev rest_first : Rest read s place (number_at 4 s 8) 12 r.used
  rest_first =
      let j = branch_list.1 in
      record {
        aligned = omega (arith, a);
        nodes = nodes;
        children = j.0;
        is = j.1;
        ends = sym (joined_used kind j.0 r j.2);
      }

pub branch_head : (read : Read) (kind : ℕ) (s : List ℕ) → Found (branch_read read kind) s → 12 ≤ length s
branch_head read kind s f = (branch_list read kind s f.place f.nodes f.node f.aligned f.is).0

-- a rest that begins at `from` goes on at `at`, with so many children less
abbrev pub Goes : List ℕ → ℕ → ℕ → ℕ → ℕ → ℕ → Type 0
Goes s levels count from left at = (place last : ℕ) → Rest (read_tree levels) s place count from last → Rest (read_tree levels) s place left at last

-- which is how it is measured, child by child
module _ (s : List ℕ) (levels count from : ℕ) (w : RestReady s levels count from) (left at : ℕ) (goes : Goes s levels count from left at) where
  rest_here : Rest (read_tree levels) s w.place left at w.last
  rest_here = goes w.place w.last w.rest

  pub rest_inside : at ≤ bytes_most
  rest_inside = omega (arith, rest_here.ends, w.inside, w.short)

  pub rest_ended : left ≡ 0 → RestEnds s levels count from at
  rest_ended z place last l = (rest_none (read_tree levels) s place left at last (goes place last l) z).1

  module _ (h : 0 < left) where
    child_here : Found (read_tree levels) (drop at s)
    child_here = rest_child (read_tree levels) s w.place left at w.last rest_here h w.short w.inside

    pub rest_found : Found (read_tree levels) (take (length s - at) (drop at s))
    rest_found = rw (rest at s) child_here

    pub rest_head : at + 8 ≤ length s
    rest_head = omega (arith, node_inside levels (drop at s) child_here, length-drop at s)

    -- the next child's first word stands there
    pub rest_property : 5 ≡ number_at 4 s at → Takes (read_tree levels) (take (length s - at) (drop at s)) 44
    unfolding number_at
    rest_property k = rw (rest at s) (property_takes levels (drop at s) child_here k)

    module _ (size : ℕ) (takes : Takes (read_tree levels) (take (length s - at) (drop at s)) size) where
      pub rest_past : Goes s levels count from (left - 1) (at + size)
      rest_past place last l =
          rest_next (read_tree levels) s place left at last (goes place last l) (tree_fours levels) size h (rw (rest at s) at takes)

      pub rest_room : at + size ≤ bytes_most
      rest_room = omega (arith, (rest_past w.place w.last w.rest).ends, w.inside, w.short)

pub ends_inside : (s : List ℕ) (levels count from : ℕ) → RestReady s levels count from → (size : ℕ) → RestEnds s levels count from size → size ≤ bytes_most
ends_inside s levels count from w size ends = omega (arith, ends w.place w.last w.rest, w.inside, w.short)

-- any two sizes of a node that is found agree, and any two ends of a rest
pub takes_once : (s : List ℕ) (levels size size' : ℕ) → Found (read_tree levels) s → NodeTakes s levels size → NodeTakes s levels size' → size ≡ size'
takes_once s levels size size' f a b = a f.place f.nodes f.node f.aligned f.is ∙ sym (b f.place f.nodes f.node f.aligned f.is)

pub ends_once : (s : List ℕ) (levels count from size size' : ℕ) → RestReady s levels count from → RestEnds s levels count from size → RestEnds s levels count from size'
    → size ≡ size'
ends_once s levels count from size size' w a b = a w.place w.last w.rest ∙ sym (b w.place w.last w.rest)

-- and of a list from its first child on
module _ (levels : ℕ) (s : List ℕ) (kind : ℕ) (k : kind ≡ node_kind s) (b : is_branch kind ≡ true) where
  pub branch_ready : Found (read_tree levels) s → RestReady s (levels - 1) (number_at 4 s 8) 12
  branch_ready f =
      let g = branch_found levels s f kind k b in
      record {
        short = g.short;
        place = g.place;
        last = g.node.used;
        rest = rest_first (read_tree (levels - 1)) kind s g.place g.nodes g.node g.aligned g.is;
        inside = g.inside;
      }

  pub branch_takes : (size : ℕ) → RestEnds s (levels - 1) (number_at 4 s 8) 12 size → Takes (read_tree levels) s size
  branch_takes size ends place nodes r a e =
      ends place r.used (rest_first (read_tree (levels - 1)) kind s place (nodes - 1) r a (as_branch levels nodes place s r e kind k b))

-- what is left of a list, whose children with what holds so far say all that the list says
pub record Left (read : Read) (kind : ℕ) (s : List ℕ) (row : Row) (place count at : ℕ) (held all : Bool) (last : ℕ) : Type 0 where
  pub rest : Rest read s place count at last
  pub says : with_child kind held (list_holds kind row rest.children.forest) ≡ all

-- the same for whatever list the reader finds there
abbrev pub Lasts : Read → ℕ → List ℕ → Row → ℕ → ℕ → Bool → Type 0
Lasts read kind s row count at held =
    (place nodes : ℕ) (r : TreeRead) → place % 4 ≡ 0 → branch_read read kind nodes place s ≡ Some r
    → Left read kind s row place count at held (holds r.tree row) r.used

module _ (read : Read) (kind : ℕ) (s : List ℕ) (row : Row) where
  -- at first all is left
  pub left_first : Lasts read kind s row (number_at 4 s 8) 12 (eqb kind 1)
  left_first place nodes r a e =
      let j = (branch_list read kind s place nodes r a e).1 in
      record {
        rest = rest_first read kind s place nodes r a e;
        says = child_start kind _ ∙ sym (joined_holds row kind j.0 r j.2);
      }

  module _ (place count at : ℕ) (held all : Bool) (last : ℕ) (l : Left read kind s row place count at held all last) where
    left_next : Fours read → (says : Bool) (used : ℕ) → 0 < count → Takes read (drop at s) used → Tells read (drop at s) row (told says used)
        → Left read kind s row place (count - 1) (at + used) (with_child kind held says) all last
    left_next good says used h takes tells =
        let o = first_left read s place count at last l.rest h in
        let x = o.0 in
        let b : says ≡ holds x.tree row = (told_same says (holds x.tree row) used _ (tells (place + at) l.rest.nodes x l.rest.aligned o.2)).0 in
        record {
          rest = rest_next read s place count at last l.rest good used h takes;
          says = rw b (child_joins kind held (holds x.tree row) _ ∙ ap (with_child kind held) (sym (list_first kind row x.tree o.1.forest)) ∙ rw o.4 at l.says);
        }

    left_none : count ≡ 0 → held ≡ all
    left_none z = sym (list_empty kind row held) ∙ (rw (rest_none read s place count at last l.rest z).0 at l.says)

told_takes : (read : Read) (s : List ℕ) (row : Row) (says : Bool) (used : ℕ) → Tells read s row (told says used) → Takes read s used
told_takes read s row says used tells place nodes r a e = (told_same says (holds r.tree row) used r.used (tells place nodes r a e)).1

-- a list of nodes that is found, and what is left of it after children that decide nothing: it lies inside, and so does its next child
module _ (levels kind : ℕ) (s : List ℕ) (row : Row) (f : Found (branch_read (read_tree levels) kind) s) (count at : ℕ) (lasts : Lasts (read_tree levels) kind s row count at (eqb kind 1)) where
  left_here : Left (read_tree levels) kind s row f.place count at (eqb kind 1) (holds f.node.tree row) f.node.used
  left_here = lasts f.place f.nodes f.node f.aligned f.is

  left_ready : RestReady s levels count at
  left_ready = record { short = f.short; place = f.place; last = f.node.used; rest = left_here.rest; inside = f.inside }

  pub left_inside : at ≤ bytes_most
  left_inside = rest_inside s levels count at left_ready count at (λ place last l. l)

  module _ (h : 0 < count) where
    pub next_found : Found (read_tree levels) (take (length s - at) (drop at s))
    next_found = rest_found s levels count at left_ready count at (λ place last l. l) h

    pub next_inside : at + 8 ≤ length s
    next_inside = rest_head s levels count at left_ready count at (λ place last l. l) h

    module _ (says : Bool) (used : ℕ) (tells : Tells (read_tree levels) (take (length s - at) (drop at s)) row (told says used)) where
      tells_here : Tells (read_tree levels) (drop at s) row (told says used)
      tells_here = rw (rest at s) at tells

      takes_here : Takes (read_tree levels) (drop at s) used
      takes_here = told_takes (read_tree levels) (drop at s) row says used tells_here

      next_lasts : Lasts (read_tree levels) kind s row (count - 1) (at + used) (with_child kind (eqb kind 1) says)
      next_lasts place nodes r a e =
          left_next (read_tree levels) kind s row place count at (eqb kind 1) _ r.used (lasts place nodes r a e) (tree_fours levels) says used h takes_here tells_here

      -- where its children after that are only measured
      pub next_ready : RestReady s levels (count - 1) (at + used)
      next_ready =
          record {
            short = f.short;
            place = f.place;
            last = f.node.used;
            rest = (next_lasts f.place f.nodes f.node f.aligned f.is).rest;
            inside = f.inside;
          }

      pub next_ends : at + used ≤ bytes_most
      next_ends = rest_inside s levels (count - 1) (at + used) next_ready (count - 1) (at + used) (λ place last l. l)

      -- a child that does not decide leaves one child less
      pub next_open : decides kind says ≡ false → Lasts (read_tree levels) kind s row (count - 1) (at + used) (eqb kind 1)
      next_open d = rw (child_open kind says d) at next_lasts

      -- one that decides is the answer
      pub next_decides : decides kind says ≡ true → ListHolds kind s levels row says
      next_decides d place nodes r a e =
          let l = next_lasts place nodes r a e in
          sym (child_decides kind says (list_holds kind row l.rest.children.forest) d) ∙ l.says

      pub next_told : decides kind says ≡ true → (size : ℕ) → RestEnds s levels (count - 1) (at + used) size
          → Tells (branch_read (read_tree levels) kind) s row (told says size)
      next_told d size ends place nodes r a e =
          let here : says ≡ holds r.tree row = next_decides d place nodes r a e in
          let there : size ≡ r.used = ends place r.used (next_lasts place nodes r a e).rest in
          rw (here, there)

  -- after the last one it holds where no child decides
  pub none_holds : count ≡ 0 → ListHolds kind s levels row (eqb kind 1)
  none_holds z place nodes r a e = left_none (read_tree levels) kind s row place count at (eqb kind 1) _ r.used (lasts place nodes r a e) z

  pub none_told : count ≡ 0 → Tells (branch_read (read_tree levels) kind) s row (told (eqb kind 1) at)
  none_told z place nodes r a e =
      let l = lasts place nodes r a e in
      rw (none_holds z place nodes r a e, ← (rest_none (read_tree levels) s place count at r.used l.rest z).1)

-- a whole tree is a node at the start of its bytes
pub record Root (s : List ℕ) : Type 0 where
  pub tree : Tree
  pub is : restriction s ≡ Some tree
  pub found : Found (read_tree levels_most) s
  pub same : found.node.tree ≡ tree

pub root : (s : List ℕ) → is_tree (restriction s) ≡ true → Root s
root s e = go (restriction s) refl e
  where
    go : (o : Option Tree) → restriction s ≡ o → is_tree o ≡ true → Root s
    go None q e = absurd (true≢false (sym e))
    go (Some t) q e =
        let h = held s t q in
        record {
          tree = t;
          is = q;
          found =
              record {
                short = h.short;
                place = 0;
                aligned = refl;
                nodes = nodes_most;
                node = record { tree = t; used = length s; nodes = h.left };
                is = h.read;
                inside = omega arith;
              };
          same = refl;
        }

pub root_holds : (s : List ℕ) (row : Row) (answer : Bool) (w : Root s) → answer ≡ holds w.found.node.tree row → answer ≡ held_by (restriction s) row
root_holds s row answer w a = rw (w.is, ← w.same, a)

pub root_answer : (s : List ℕ) (row : Row) (answer : Verdict) (last : ℕ) (w : Root s) → answer ≡ told (holds w.found.node.tree row) last
    → answer.holds ≡ held_by (restriction s) row
root_answer s row answer last w a = root_holds s row answer.holds w (ap (λ (v : Verdict). v.holds) a)
