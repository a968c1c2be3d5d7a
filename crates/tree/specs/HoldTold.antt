-- What the code says of a leaf, of a node and of a list of nodes, handed the unread bytes from its first one on. Nodes begin at multiples of
-- 4, so that their padding counts from their own first byte: no place is handed on with the bytes.
-- proofs/Leaves.antt shows that these are the words of the leaf that is read there.
use Rattle.std.specs.Prelude.{◌≡◌, Bool, false, List, ℕ, ◌+◌, ◌%◌, Some}
use Rattle.catalogue.specs.Plain.{Row}
use Rattle.catalogue.specs.CataloguePlaces.{text_of}
use Rattle.catalogue.specs.declared.Fields.{Fields}
use Rattle.tree.specs.VerdictTold.{told}
use Rattle.tree.specs.declared.Verdict.{Verdict}
use Rattle.wire.specs.Property.{of_numbers, of_texts}
use Rattle.tree.specs.declared.Content.{Content}
use Rattle.tree.specs.declared.Relation.{Relation}
use Rattle.tree.specs.LeafHolds.{relation_holds, phrase_holds, leaf_holds}
use Rattle.tree.specs.Parts.{leaf_at, with_leaf, phrase_of, leaf_of}
use Rattle.tree.specs.LeafPlaces.{relation_in, locale_at, content_in}
use Rattle.tree.specs.TreeHolds.{holds}
use Rattle.tree.specs.Reader.{TreeRead, Read, branch_read, read_tree}

-- a property leaf: its relation, its property and its value
abbrev pub relation_says : Relation → Fields → Bool
relation_says r f = relation_holds r.relop (of_numbers r.property f.key f.language f.default) r.value

abbrev pub relation_told : List ℕ → Fields → Verdict
relation_told s f = told (relation_says (relation_in s) f) 44

-- a content leaf: its phrase, its method and its property
abbrev pub content_says : List ℕ → Content → List ℕ → Fields → Bool
content_says s c held f = phrase_holds c.method (phrase_of s c) (text_of held (of_texts c.property f.label f.note))

abbrev pub content_told : List ℕ → List ℕ → Fields → Verdict
content_told s held f = told (content_says s (content_in s 0) held f) (locale_at s 0 + 8)

-- the leaf that is read there
abbrev pub leaf_told : ℕ → List ℕ → Row → Verdict
leaf_told kind s row = with_leaf (leaf_at kind s 0) (told false 0) λ parts used. told (leaf_holds row (leaf_of s parts)) used

-- the answer for a row is that of whatever node the reader finds there, at any place that is a multiple of 4
abbrev pub Tells : Read → List ℕ → Row → Verdict → Type 0
Tells read s row answer =
    (place nodes : ℕ) (r : TreeRead) → place % 4 ≡ 0 → read nodes place s ≡ Some r → answer ≡ told (holds r.tree row) r.used

-- of a node of so many levels at most, and of an and or an or over nodes of so many levels
abbrev pub NodeTold : List ℕ → ℕ → Row → Verdict → Type 0
NodeTold s levels row answer = Tells (read_tree levels) s row answer

abbrev pub ListTold : ℕ → List ℕ → ℕ → Row → Verdict → Type 0
ListTold kind s levels row answer = Tells (branch_read (read_tree levels) kind) s row answer

-- whether that list holds for a row
abbrev pub ListHolds : ℕ → List ℕ → ℕ → Row → Bool → Type 0
ListHolds kind s levels row answer =
    (place nodes : ℕ) (r : TreeRead) → place % 4 ≡ 0 → branch_read (read_tree levels) kind nodes place s ≡ Some r → answer ≡ holds r.tree row
