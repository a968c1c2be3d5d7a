-- The reader of a restriction tree (01, "Restriction trees"; source, 2.2.1.7 and 2.2.1.16): a list of bytes to a tree, or to nothing.
-- Each reader is handed what is unread, with the place of its first byte counted from the tree's origin, and says how many bytes it used.
use Rattle.std.specs.Prelude.{List, ℕ, zero, suc, ◌+◌, leb, eqb, length, drop, Bool, true, false, Option, None, Some}
use Rattle.lists.specs.Below.{pick, both}
use Rattle.wire.specs.Word.{number_at}
use Rattle.tree.specs.Limits.{bytes_most, nodes_most, levels_most}
use Rattle.tree.specs.Tree.{Tree, Forest, leaf, and, or, not, end, further}
use Rattle.wire.specs.Padding.{padding, zero_at}
use Rattle.tree.specs.Parts.{node_kind, leaf_at, with_leaf, leaf_of}
use Rattle.tree.specs.Kinds.{head_size, list_head, is_branch, and_kind, not_kind}
use Rattle.lists.specs.Options.{and_then}

-- what was read: the tree or the children, the bytes that they take, and how many nodes may still come
pub record TreeRead : Type 0 where
  pub tree : Tree
  pub used : ℕ
  pub nodes : ℕ

pub record ForestRead : Type 0 where
  pub forest : Forest
  pub used : ℕ
  pub nodes : ℕ

-- a reader: of the nodes that may still come, the place of the first byte, and the unread bytes
abbrev pub Read : Type 0
Read = ℕ → ℕ → List ℕ → Option TreeRead

-- "Children follow each other": that many, each after padding "such that each structure begins at an offset that is a multiple of 4"
unfoldable pub read_list : Read → ℕ → ℕ → ℕ → List ℕ → Option ForestRead
read_list read zero nodes place s = Some (record { forest = end; used = 0; nodes = nodes })
read_list read (suc k) nodes place s =
    let start = padding 4 place in
    let children : Option ForestRead = and_then (read nodes (place + start) (drop start s)) λ t.
    let next = start + t.used in
    and_then (read_list read k t.nodes (place + next) (drop next s)) λ f.
    Some (record { forest = further t.tree f.forest; used = next + f.used; nodes = f.nodes }) in
    pick (both (leb start (length s)) (zero_at s 0 start)) children None

-- "and 1, or 2": _cNode, then the children; "And/or have at least one child"
abbrev pub joined : ℕ → ForestRead → Option TreeRead
joined kind r = elim r.forest [
  | end ↦ None
  | further t f ↦ Some (record { tree = pick (eqb kind and_kind) (and t f) (or t f); used = list_head + r.used; nodes = r.nodes })
]

abbrev pub branch_read : Read → ℕ → Read
branch_read read kind nodes place s =
    let list : Option TreeRead = and_then (read_list read (number_at 4 s head_size) nodes (place + list_head) (drop list_head s)) (joined kind) in
    pick (leb list_head (length s)) list None

-- "not 3": its child follows
abbrev pub negated : TreeRead → Option TreeRead
negated r = Some (record { tree = not r.tree; used = head_size + r.used; nodes = r.nodes })

abbrev pub not_read : Read → Read
not_read read nodes place s = and_then (read nodes (place + head_size) (drop head_size s)) negated

-- "content 4, property 5"; a leaf's position is the place of its first byte
abbrev pub leaf_read : ℕ → Read
leaf_read kind nodes place s =
    with_leaf (leaf_at kind s place) None λ parts used.
    Some (record { tree = leaf place (leaf_of s parts); used = used; nodes = nodes })

-- "each node a restriction whose kind decides what follows": a node whose children are read by `read`
abbrev pub read_node : Read → Read
read_node read nodes place s =
    let kind = node_kind s in
    let branch = branch_read read kind nodes place s in
    let negation = not_read read nodes place s in
    let own = leaf_read kind nodes place s in
    let node = pick (is_branch kind) branch (pick (eqb kind not_kind) negation own) in
    pick (leb head_size (length s)) node None

-- a tree of so many levels and nodes at most
unfoldable pub read_tree : ℕ → Read
read_tree zero nodes place s = None
read_tree (suc levels) zero place s = None
read_tree (suc levels) (suc nodes) place s = read_node (read_tree levels) nodes place s

-- "all bytes are used"
abbrev pub whole : List ℕ → TreeRead → Option Tree
whole s r = pick (eqb r.used (length s)) (Some r.tree) None

-- the tree that the bytes hold, if they hold one: "Position 0 is the tree's first byte. Limits: 4,096 bytes, 64 nodes, 8 levels"
unfoldable pub restriction : List ℕ → Option Tree
restriction s =
    let read : Option Tree = and_then (read_tree levels_most nodes_most 0 s) (whole s) in
    pick (leb (length s) bytes_most) read None

-- whether there is a tree; 16 "restriction malformed or over a limit" is where there is none
abbrev pub is_tree : Option Tree → Bool
is_tree None = false
is_tree (Some t) = true
