-- The writer of a restriction tree, the reader's other half (01, "Restriction trees"; source, 2.2.1.3, 2.2.1.7, 2.2.1.9 and 2.2.1.16):
-- which bytes hold a tree, by its parts one after the other, and which trees are within the limits.
use Rattle.std.specs.Prelude.{◌≡◌, true, List, [], ◌∷◌, ◌++◌, map, ℕ, ◌+◌, ◌^◌, ◌≤◌, ◌<◌, length, get_or, replicate, Option, None, Some}
use Rattle.lists.specs.Parts.{zeros}
use Rattle.wire.specs.Word.{le}
use Rattle.wire.specs.Padding.{padding}
use Rattle.wire.specs.Property.{is_number, is_text, number_type, number_size}
use Rattle.wire.specs.PropertySpec.{spec}
use Rattle.catalogue.specs.Writer.{unit_bytes}
use Rattle.tree.specs.Limits.{bytes_most, nodes_most, levels_most, phrase_most}
use Rattle.tree.specs.Kinds.{and_kind, or_kind, not_kind, content_kind, property_kind, list_head, head_size}
use Rattle.tree.specs.Leaf.{Leaf, content, relation}
use Rattle.tree.specs.Tree.{Tree, Forest, leaf, and, or, not, end, further, nodes_of, levels_of}

-- what stands from a place on, counted from the tree's first byte: of each byte which it is, or nothing where it may be any
abbrev pub Form : Type 0
Form = ℕ → List (Option ℕ)

abbrev pub given : List ℕ → Form
given bytes place = map Some bytes

abbrev pub word : ℕ → Form
word n = given (le 4 n)

-- "Weight and locale are read and ignored"
abbrev pub ignored : Form
ignored place = replicate 4 None

-- "Padding is zero", "such that the following field begins at an offset that is a multiple of 4"
abbrev pub aligned : Form
aligned place = given (zeros (padding 4 place)) place

-- parts one after the other
unfoldable pub in_order : List Form → Form
in_order [] place = []
in_order (p ∷ ps) place = p place ++ in_order ps (place + length (p place))

-- a content leaf: _ulType, Weight, _Property, Padding1, Cc, _pwcsPhrase, Padding2, Lcid, _ulGenerateMethod; a property leaf: _ulType,
-- Weight, _relop, _Property, vType, vData1 with vData2, vValue
abbrev pub leaf_form : Leaf → Form
leaf_form (content property phrase method) =
    in_order
    (word content_kind ∷ ignored ∷ given (spec property)
    ∷ aligned ∷ word (length phrase) ∷ given (unit_bytes phrase)
    ∷ aligned ∷ ignored ∷ word method ∷ [])
leaf_form (relation relop property value) =
    in_order
    (word property_kind ∷ ignored ∷ word relop ∷ given (spec property)
    ∷ given (le 2 (number_type property)) ∷ given (le 2 0) ∷ given (le (number_size property) value) ∷ [])

-- how many children there are after the first
unfoldable pub further_ones : Forest → ℕ
further_ones end = 0
further_ones (further t f) = 1 + further_ones f

-- an and or an or: _ulType, Weight, _cNode, then the children, each after padding
abbrev pub branch_form : ℕ → ℕ → Form → Form → Form
branch_form kind count first others = in_order (word kind ∷ ignored ∷ word count ∷ aligned ∷ first ∷ others ∷ [])

-- a not: _ulType, Weight, then its child
unfoldable mutual
  pub tree_form : Tree → Form
  tree_form (leaf position l) = leaf_form l
  tree_form (and t f) = branch_form and_kind (1 + further_ones f) (tree_form t) (forest_form f)
  tree_form (or t f) = branch_form or_kind (1 + further_ones f) (tree_form t) (forest_form f)
  tree_form (not t) = in_order (word not_kind ∷ ignored ∷ tree_form t ∷ [])

  pub forest_form : Forest → Form
  forest_form end = in_order []
  forest_form (further t f) = in_order (aligned ∷ tree_form t ∷ forest_form f ∷ [])

-- the bytes of a tree at a place: weight 0, locale 0
abbrev pub written : Option ℕ → ℕ
written None = 0
written (Some b) = b

abbrev pub write : ℕ → Tree → List ℕ
write place t = map written (tree_form t place)

-- where a child begins that is written from a place on, and where it ends
abbrev pub child_at : ℕ → ℕ
child_at place = place + padding 4 place

abbrev pub child_end : ℕ → Tree → ℕ
child_end place t = child_at place + length (tree_form t (child_at place))

-- the tree with its positions, as it is written at a place: a leaf's position is the place of its first byte
unfoldable mutual
  pub positioned : ℕ → Tree → Tree
  positioned place (leaf position l) = leaf place l
  positioned place (and t f) = and (positioned (child_at (place + list_head)) t) (positioned_in (child_end (place + list_head) t) f)
  positioned place (or t f) = or (positioned (child_at (place + list_head)) t) (positioned_in (child_end (place + list_head) t) f)
  positioned place (not t) = not (positioned (place + head_size) t)

  pub positioned_in : ℕ → Forest → Forest
  positioned_in place end = end
  positioned_in place (further t f) = further (positioned (child_at place) t) (positioned_in (child_end place t) f)

-- "Content: properties 5 and 6, phrase of 1 to 64 units, method 0 or 1"
pub record ContentFits (property : ℕ) (phrase : List ℕ) (method : ℕ) : Type 0 where
  pub text : is_text property ≡ true
  pub least : 1 ≤ length phrase
  pub most : length phrase ≤ phrase_most
  pub units : (i : ℕ) → i < length phrase → get_or phrase i 0 < 65536
  pub served : method ≤ 1

-- "Property: relations 0 to 5 .., properties 2 to 4, value type 0x0013": a value of four bytes
pub record RelationFits (relop property value : ℕ) : Type 0 where
  pub served : relop ≤ 5
  pub number : is_number property ≡ true
  pub held : value < 256 ^ number_size property

abbrev pub LeafFits : Leaf → Type 0
LeafFits (content property phrase method) = ContentFits property phrase method
LeafFits (relation relop property value) = RelationFits relop property value

-- each leaf of a tree fits
unfoldable mutual
  pub LeavesFit : Tree → Type 0
  LeavesFit (leaf position l) = LeafFits l
  LeavesFit (and t f) = LeavesFit t × LeavesFitIn f
  LeavesFit (or t f) = LeavesFit t × LeavesFitIn f
  LeavesFit (not t) = LeavesFit t

  pub LeavesFitIn : Forest → Type 0
  LeavesFitIn end = Unit
  LeavesFitIn (further t f) = LeavesFit t × LeavesFitIn f

-- "Limits: 4,096 bytes, 64 nodes, 8 levels (root is 1)"; that "And/or have at least one child", every tree has
pub record Within (t : Tree) : Type 0 where
  pub leaves : LeavesFit t
  pub nodes : nodes_of t ≤ nodes_most
  pub levels : levels_of t ≤ levels_most
  pub bytes : length (write 0 t) ≤ bytes_most

-- bytes of a tree that differ in its weights and locales alone
pub record Alike (t : Tree) (s other : List ℕ) : Type 0 where
  pub size : length s ≡ length other
  pub each : (i b : ℕ) → get_or (tree_form t 0) i None ≡ Some b → get_or s i 0 ≡ get_or other i 0
