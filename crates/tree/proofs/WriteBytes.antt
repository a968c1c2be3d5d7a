-- What is written of a tree is a list of bytes, whatever its numbers are. Assumes nothing.
use mathlib.Core.List.{List, [], ◌∷◌, ◌++◌, map}
use Rattle.std.specs.Prelude.{Option, None, Some}
use Prim.Native.Nat.{ℕ, zero, suc, ◌+◌, ◌/◌, ◌<◌}
use native.Mathlib.Omega.{arith}
use lib.ListN.{length}
use Rattle.lists.specs.Each.{Each}
use Rattle.lists.specs.Parts.{zeros}
use Rattle.wire.specs.Word.{Bytes, le}
use Rattle.wire.specs.Padding.{padding}
use Rattle.wire.specs.PropertySpec.{spec}
use Rattle.catalogue.specs.Writer.{unit_bytes}
use Rattle.tree.specs.Leaf.{Leaf, content, relation}
use Rattle.tree.specs.Tree.{Tree, Forest, leaf, and, or, not, end, further}
use Rattle.tree.specs.Writer.{Form, given, word, ignored, aligned, in_order, leaf_form, further_ones, branch_form, tree_form, forest_form, written, write}

-- a byte, or one that may be any
abbrev IsByte : Option ℕ → Type 0
IsByte None = Unit
IsByte (Some b) = b < 256

-- a form of such
abbrev AllBytes : Form → Type 0
AllBytes p = (place : ℕ) → Each IsByte (p place)

both_bytes : (p q : List (Option ℕ)) → Each IsByte p → Each IsByte q → Each IsByte (p ++ q)
unfolding Each
both_bytes [] q h k = k
both_bytes (b ∷ p) q h k = (h.0, both_bytes p q h.1 k)

any_bytes : AllBytes ignored
unfolding Each
any_bytes place = omega arith

number_bytes : (n v : ℕ) → AllBytes (given (le n v))
unfolding Each le
number_bytes zero v place = tt
number_bytes (suc n) v place = (omega arith, number_bytes n (v / 256) place)

zero_bytes_lem : (n : ℕ) → AllBytes (given (zeros n))
unfolding Each
zero_bytes_lem zero place = tt
zero_bytes_lem (suc n) place = (omega arith, zero_bytes_lem n place)

pad_bytes : AllBytes aligned
pad_bytes place = zero_bytes_lem (padding 4 place) place

units_bytes : (units : List ℕ) → AllBytes (given (unit_bytes units))
unfolding Each le unit_bytes
units_bytes [] place = tt
units_bytes (u ∷ units) place = (omega arith, (omega arith, units_bytes units place))

spec_bytes : (property : ℕ) → AllBytes (given (spec property))
unfolding Each le
spec_bytes property place = omega arith

-- parts one after the other
form_bytes : (ps : List Form) → Each AllBytes ps → AllBytes (in_order ps)
unfolding Each in_order
form_bytes [] h place = tt
form_bytes (p ∷ ps) h place = both_bytes (p place) (in_order ps (place + length (p place))) (h.0 place) (form_bytes ps h.1 (place + length (p place)))

leaf_bytes : (l : Leaf) → AllBytes (leaf_form l)
unfolding Each
leaf_bytes (content property phrase method) =
    let last : Each AllBytes (aligned ∷ ignored ∷ word method ∷ []) = (pad_bytes, (any_bytes, (number_bytes 4 method, tt))) in
    form_bytes _ (number_bytes 4 4, (any_bytes, (spec_bytes property, (pad_bytes, (number_bytes 4 (length phrase), (units_bytes phrase, last))))))
leaf_bytes (relation relop property value) =
    let last : Each AllBytes (given (le 2 0x0013) ∷ given (le 2 0) ∷ word value ∷ []) = (number_bytes 2 0x0013, (number_bytes 2 0, (number_bytes 4 value, tt))) in
    form_bytes _ (number_bytes 4 5, (any_bytes, (number_bytes 4 relop, (spec_bytes property, last))))

branch_bytes : (kind count : ℕ) (first others : Form) → AllBytes first → AllBytes others → AllBytes (branch_form kind count first others)
unfolding Each
branch_bytes kind count first others a b =
    form_bytes _ (number_bytes 4 kind, (any_bytes, (number_bytes 4 count, (pad_bytes, (a, (b, tt))))))

mutual
  unfolding Each tree_form

  tree_bytes : (t : Tree) → AllBytes (tree_form t)
  tree_bytes (leaf position l) = leaf_bytes l
  tree_bytes (and t f) = branch_bytes 1 (1 + further_ones f) (tree_form t) (forest_form f) (tree_bytes t) (forest_bytes f)
  tree_bytes (or t f) = branch_bytes 2 (1 + further_ones f) (tree_form t) (forest_form f) (tree_bytes t) (forest_bytes f)
  tree_bytes (not t) = form_bytes _ (number_bytes 4 3, (any_bytes, (tree_bytes t, tt)))

  forest_bytes : (f : Forest) → AllBytes (forest_form f)
  forest_bytes end = form_bytes [] tt
  forest_bytes (further t f) = form_bytes _ (pad_bytes, (tree_bytes t, (forest_bytes f, tt)))

bytes_of : (p : List (Option ℕ)) → Each IsByte p → Bytes (map written p)
unfolding Each
bytes_of [] h i = omega arith
bytes_of (None ∷ p) h zero = omega arith
bytes_of (None ∷ p) h (suc i) = bytes_of p h.1 i
bytes_of (Some b ∷ p) h zero = h.0
bytes_of (Some b ∷ p) h (suc i) = bytes_of p h.1 i

pub write_bytes : (place : ℕ) (t : Tree) → Bytes (write place t)
write_bytes place t = bytes_of (tree_form t place) (tree_bytes t place)
