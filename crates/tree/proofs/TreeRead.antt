-- A tree that was read is as it is written, and its leaves fit. Assumes nothing.
use mathlib.Core.Path.{◌≡◌, refl}
use mathlib.Core.Bool.{true}
use mathlib.Core.List.{List}
use Rattle.std.specs.Prelude.{Some}
use Prim.Native.Nat.{ℕ, ◌+◌, ◌≤◌}
use native.Mathlib.Omega.{arith}
use lib.ListN.{length, drop}
use lib.Seq.{get_or-drop}
use Rattle.wire.specs.Word.{Bytes, number_at}
use Rattle.wire.specs.Padding.{padding, zero_at}
use Rattle.tree.specs.Tree.{Tree, Forest, not, further}
use Rattle.tree.specs.Parts.{node_kind}
use Rattle.tree.specs.Reader.{TreeRead, read_tree}
use Rattle.tree.specs.Writer.{aligned, branch_form, further_ones, tree_form, forest_form, LeavesFit, LeavesFitIn}
use Rattle.tree.proofs.Induction.{Said, Passes, of_every_tree}
use Rattle.tree.proofs.FormLaws.{Stands, stands_on, any_stand, zeros_stand, number_stands, forms_join, forms_end, forms_start, forms_started}
use Rattle.tree.proofs.LeafRead.{leaf_back}

-- what was read: the tree or the children stand as they are written, and their leaves fit
back : Said
back =
    record {
      of_tree = λ l n p s r. Bytes s → Stands (tree_form r.tree p) s 0 r.used × LeavesFit r.tree;
      of_forest = λ l k n p s r. Bytes s → Stands (forest_form r.forest p) s 0 r.used × LeavesFitIn r.forest × (k ≡ further_ones r.forest);
    }

bytes_left : (k : ℕ) (s : List ℕ) → Bytes s → Bytes (drop k s)
bytes_left k s bytes i = rw (get_or-drop k s i 0) (bytes (k + i))

further_stands : (t : Tree) (f : Forest) (place : ℕ) (s : List ℕ) (u v : ℕ)
    → let start = padding 4 place in
    start ≤ length s → zero_at s 0 start ≡ true → Stands (tree_form t (place + start)) (drop start s) 0 u
    → Stands (forest_form f (place + (start + u))) (drop (start + u) s) 0 v → Stands (forest_form (further t f) place) s 0 (start + u + v)
unfolding forest_form
further_stands t f place s u v h z a b =
    let start = padding 4 place in
    let child = stands_on (tree_form t (place + start)) s start u h a in
    let others = stands_on (forest_form f (place + (start + u))) s (start + u) v child.room b in
    forms_started (forest_form (further t f)) place s (start + u + v)
    (forms_join _ _ place s 0 start (start + u + v) (forms_start aligned place s start (zeros_stand start s 0 start (omega arith) h z))
    (forms_join _ _ place s start (start + u) (start + u + v) child
    (forms_join _ _ place s (start + u) (start + u + v) (start + u + v) others (forms_end _ s (start + u + v) others.room))))

branch_stands : (kind : ℕ) (t : Tree) (f : Forest) (place : ℕ) (s : List ℕ) (used : ℕ) → Bytes s → 12 ≤ length s → node_kind s ≡ kind
    → number_at 4 s 8 ≡ 1 + further_ones f → Stands (forest_form (further t f) (place + 12)) (drop 12 s) 0 used → Stands (branch_form kind (1 + further_ones f) (tree_form t) (forest_form f) place) s 0 (12 + used)
unfolding forest_form
branch_stands kind t f place s used bytes h k count w =
    let children = stands_on (forest_form (further t f) (place + 12)) s 12 used h w in
    forms_started (branch_form kind (1 + further_ones f) (tree_form t) (forest_form f)) place s (12 + used)
    (forms_join _ _ place s 0 4 (12 + used) (rw k at (number_stands 4 s 0 4 bytes refl (omega (arith, h))))
    (forms_join _ _ place s 4 8 (12 + used) (any_stand 4 s 4 8 refl (omega (arith, h)))
    (forms_join _ _ place s 8 12 (12 + used) (rw count at (number_stands 4 s 8 12 bytes refl h)) children)))

not_stands : (t : Tree) (place : ℕ) (s : List ℕ) (used : ℕ) → Bytes s → 8 ≤ length s → node_kind s ≡ 3
    → Stands (tree_form t (place + 8)) (drop 8 s) 0 used → Stands (tree_form (not t) place) s 0 (8 + used)
unfolding tree_form
not_stands t place s used bytes h k w =
    let child = stands_on (tree_form t (place + 8)) s 8 used h w in
    forms_started (tree_form (not t)) place s (8 + used)
    (forms_join _ _ place s 0 4 (8 + used) (rw k at (number_stands 4 s 0 4 bytes refl (omega (arith, h))))
    (forms_join _ _ place s 4 8 (8 + used) (any_stand 4 s 4 8 refl h)
    (forms_join _ _ place s 8 (8 + used) (8 + used) child (forms_end _ s (8 + used) child.room))))

back_passes : Passes back
unfolding back tree_form LeavesFit further_ones
back_passes =
    record {
      none_left = λ l n p s bytes. (forms_end p s 0 (omega arith), tt, refl);
      one_more = λ l k n p s t f h z a b bytes.
          let start = padding 4 p in
          let x = a (bytes_left start s bytes) in
          let y = b (bytes_left (start + t.used) s bytes) in
          (further_stands t.tree f.forest p s t.used f.used h z x.0 y.0, (x.1, y.1), omega (arith, y.2));
      of_and = λ l n p s t g used nodes h k o bytes.
          let x = o (bytes_left 12 s bytes) in (branch_stands 1 t g p s used bytes h k x.2 x.0, x.1);
      of_or = λ l n p s t g used nodes h k o bytes.
          let x = o (bytes_left 12 s bytes) in (branch_stands 2 t g p s used bytes h k x.2 x.0, x.1);
      of_not = λ l n p s t h k o bytes. let x = o (bytes_left 8 s bytes) in (not_stands t.tree p s t.used bytes h k x.0, x.1);
      of_leaf = λ l n p s x used e bytes. leaf_back s p x used bytes e;
    }

pub tree_back : (levels nodes place : ℕ) (s : List ℕ) (r : TreeRead) → Bytes s → read_tree levels nodes place s ≡ Some r
    → Stands (tree_form r.tree place) s 0 r.used × LeavesFit r.tree
unfolding back
tree_back levels nodes place s r bytes e = of_every_tree back back_passes levels nodes place s r e bytes
