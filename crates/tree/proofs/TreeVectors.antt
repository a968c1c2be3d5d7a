-- Worked trees, by computation (01, "Restriction trees" and "Numbers to check against": "Eight levels pass; nine give 16"). Assumes
-- nothing.
use mathlib.Core.Path.{◌≡◌, refl}
use mathlib.Core.Bool.{Bool, true, false}
use mathlib.Core.List.{List, [], ◌∷◌, ◌++◌}
use Rattle.std.specs.Prelude.{Option, None, Some}
use Prim.Native.Nat.{ℕ, zero, suc}
use Rattle.lists.specs.Below.{some_below, every_below}
use Rattle.wire.specs.Word.{number, number_at, le, halves}
use Rattle.catalogue.specs.Plain.{Row}
use Rattle.catalogue.specs.Writer.{unit_bytes}
use Rattle.tree.specs.Phrase.{occurs, occurs_at, stands_at, starts_word, ends_word}
use Rattle.tree.specs.Leaf.{content, relation}
use Rattle.wire.specs.Padding.{zero_at}
use Rattle.wire.specs.PropertySpec.{set_ours, property_at, spec}
use Rattle.tree.specs.Parts.{phrase_at, content_at, relation_at}
use Rattle.tree.specs.Tree.{Tree, leaf, and, or, not, end, further}
use Rattle.tree.specs.TreeHolds.{says, holds}
use Rattle.tree.specs.Reader.{read_list, read_tree, restriction, is_tree}
use Rattle.tree.specs.Examples.{start, re_start, head, related, phrased, several, nots, times}

-- a row whose label is "re start" and which has no note
abbrev pub row : Row
row = record { key = 300; language = 1031; default = 5; label = Some re_start; note = None }

abbrev pub units : ℕ → List ℕ
units zero = []
units (suc n) = 65 ∷ units n

-- the leaf "key = 300", and the leaves "start" in the label and in the note
abbrev pub key : List ℕ
key = related 4 2 300

abbrev pub label : List ℕ
label = phrased 5 start (0 ∷ 0 ∷ []) 0

abbrev pub note : List ℕ
note = phrased 6 start (0 ∷ 0 ∷ []) 1

-- each kind is read as the tree that was meant; leaves have their positions
pub leaves : (restriction key ≡ Some (leaf 0 (relation 4 2 300))) × (restriction label ≡ Some (leaf 0 (content 5 start 0)))
unfolding restriction read_tree relation_at content_at phrase_at property_at set_ours zero_at number_at number halves every_below le unit_bytes
leaves = (refl, refl)

pub branches : (restriction (several 1 2 (key ++ label)) ≡ Some (and (leaf 12 (relation 4 2 300)) (further (leaf 56 (content 5 start 0)) end)))
    × (restriction (several 2 1 (nots 1 note)) ≡ Some (or (not (leaf 20 (content 6 start 1))) end))
unfolding restriction read_tree read_list relation_at content_at phrase_at property_at set_ours zero_at number_at number halves every_below le unit_bytes
branches = (refl, refl)

-- whether a row satisfies the tree that the bytes hold
abbrev pub answer : List ℕ → Option Bool
answer s = told (restriction s)
  where
    told : Option Tree → Option Bool
    told None = None
    told (Some t) = Some (holds t row)

-- the relations, the row's value first: 300 < 300 no, <= yes, > no, >= yes, = yes, not equal no
pub relations : (answer (related 0 2 300) ≡ Some false)
    × (answer (related 1 2 300) ≡ Some true)
    × (answer (related 2 2 300) ≡ Some false)
    × (answer (related 3 2 300) ≡ Some true)
    × (answer (related 4 2 300) ≡ Some true)
    × (answer (related 5 2 300) ≡ Some false)
    × (answer (related 0 3 1032) ≡ Some true)
    × (answer (related 2 4 6) ≡ Some false)
unfolding restriction read_tree relation_at property_at set_ours zero_at number_at number every_below le says
relations = (refl, refl, refl, refl, refl, refl, refl, refl)

-- "Absent text holds no phrase; a not above it is true"
pub phrases : (answer label ≡ Some true)
    × (answer note ≡ Some false)
    × (answer (nots 1 note) ≡ Some true)
    × (answer (several 1 2 (label ++ note)) ≡ Some false)
    × (answer (several 2 2 (note ++ label)) ≡ Some true)
unfolding restriction read_tree read_list content_at phrase_at property_at set_ours zero_at number_at number halves every_below le unit_bytes says occurs occurs_at stands_at starts_word ends_word some_below
phrases = (refl, refl, refl, refl, refl)

-- "8 levels (root is 1)": seven nots above a leaf pass, eight don't
pub levels : (is_tree (restriction (nots 7 key)) ≡ true) × (restriction (nots 8 key) ≡ None)
unfolding restriction read_tree relation_at property_at set_ours zero_at number_at number every_below le
levels = (refl, refl)

-- "64 nodes": an and of 63 leaves passes, one of 64 doesn't
pub nodes : (is_tree (restriction (several 1 63 (times 63 key))) ≡ true) × (restriction (several 1 64 (times 64 key)) ≡ None)
unfolding restriction read_tree read_list relation_at property_at set_ours zero_at number_at number every_below le
nodes = (refl, refl)

-- "4,096 bytes": an and of 24 leaves that has them passes, and one that has four more doesn't
pub bytes : (is_tree (restriction (several 1 24 (times 23 (phrased 5 (units 64) [] 0) ++ phrased 5 (units 42) [] 0))) ≡ true)
    × (restriction (several 1 24 (times 23 (phrased 5 (units 64) [] 0) ++ phrased 5 (units 44) [] 0)) ≡ None)
unfolding restriction read_tree read_list content_at phrase_at property_at set_ours zero_at number_at number halves every_below le unit_bytes
bytes = (refl, refl)

-- what is malformed: bytes left, bytes missing, an and of no children, one child too few, kind 0 and 6
pub no_trees : (restriction (key ++ 0 ∷ []) ≡ None)
    × (restriction [] ≡ None)
    × (restriction (head 3) ≡ None)
    × (restriction (several 1 0 []) ≡ None)
    × (restriction (several 2 2 key) ≡ None)
    × (restriction (several 2 1 (key ++ key)) ≡ None)
    × (restriction (head 0) ≡ None)
    × (restriction (head 6) ≡ None)
unfolding restriction read_tree read_list relation_at content_at phrase_at property_at set_ours zero_at number_at number halves every_below le unit_bytes
no_trees = (refl, refl, refl, refl, refl, refl, refl, refl)

-- and of leaves: relation 6, a text's property in a relation and a number's in a content leaf, property 0, method 2, no units, 65 units,
-- padding that is not zero and padding that is not there
pub no_leaves : (restriction (related 6 2 300) ≡ None)
    × (restriction (related 4 5 300) ≡ None)
    × (restriction (phrased 4 start (0 ∷ 0 ∷ []) 0) ≡ None)
    × (restriction (related 4 0 300) ≡ None)
    × (restriction (phrased 5 start (0 ∷ 0 ∷ []) 2) ≡ None)
    × (restriction (phrased 5 [] [] 0) ≡ None)
    × (is_tree (restriction (phrased 5 (units 64) [] 0)) ≡ true)
    × (restriction (phrased 5 (units 65) (0 ∷ 0 ∷ []) 0) ≡ None)
    × (restriction (phrased 5 start (0 ∷ 1 ∷ []) 0) ≡ None)
    × (restriction (phrased 5 start [] 0) ≡ None)
unfolding restriction read_tree relation_at content_at phrase_at property_at set_ours zero_at number_at number halves every_below le unit_bytes
no_leaves = (refl, refl, refl, refl, refl, refl, refl, refl, refl, refl)

-- padding and positions count from the origin: in a part that begins at its place 2, two bytes stand before the count of two units, and
-- none after them
pub from_place_two :
    read_tree 8 64 2 (head 4 ++ (spec 5 ++ (0 ∷ 0 ∷ le 4 2 ++ (65 ∷ 0 ∷ 66 ∷ 0 ∷ le 4 1033 ++ le 4 0))))
    ≡ Some (record { tree = leaf 2 (content 5 (65 ∷ 66 ∷ []) 0); used = 50; nodes = 63 })
unfolding read_tree content_at phrase_at property_at set_ours zero_at number_at number halves every_below le
from_place_two = refl
