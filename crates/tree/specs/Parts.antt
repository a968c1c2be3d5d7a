-- Leaves on the wire (source, 2.2.1.3 and 2.2.1.9), each after its node's _ulType and weight. All indexes count from the node's first
-- byte, which has the place `place` counted from the tree's origin.
use Rattle.std.specs.Prelude.{Option, None, Some, List, ℕ, ◌+◌, ◌*◌, leb, eqb, length, take, drop}
use Rattle.lists.specs.Below.{pick, both}
use Rattle.wire.specs.Word.{number_at, halves}
use Rattle.wire.specs.Property.{is_number, number_type, number_size, is_text}
use Rattle.tree.specs.Limits.{phrase_most}
use Rattle.tree.specs.Leaf.{Leaf, content, relation}
use Rattle.wire.specs.Padding.{padding, zero_at}
use Rattle.wire.specs.PropertySpec.{spec_size, property_at}
use Rattle.tree.specs.declared.Content.{Content}
use Rattle.tree.specs.declared.Parts.{Parts}
use Rattle.tree.specs.declared.Parts.TheVariants.{OfContent, OfRelation}
use Rattle.tree.specs.declared.PhraseAt.{PhraseAt}
use Rattle.lists.specs.Options.{and_then}
use Rattle.tree.specs.Kinds.{content_kind, property_kind, head_size}

-- _ulType
abbrev pub node_kind : List ℕ → ℕ
node_kind s = number_at 4 s 0

-- Padding1, Cc, _pwcsPhrase, Padding2, where Padding1 takes `before` bytes and Cc is `count`: where the units begin, how many they are,
-- and where Lcid begins. "phrase of 1 to 64 units", "Padding is zero"
abbrev pub phrase_sized : List ℕ → ℕ → ℕ → ℕ → ℕ → Option PhraseAt
phrase_sized s place at before count =
    let start = at + before + 4 in
    let end = start + 2 * count in
    let after = padding 4 (place + end) in
    pick
    (both (leb (end + after) (length s))
    (both (both (leb 1 count) (leb count phrase_most)) (both (zero_at s at before) (zero_at s end after))))
    (Some (record { start = start; count = count; next = end + after }))
    None

-- the phrase that begins, with its padding, at a place
unfoldable pub phrase_at : List ℕ → ℕ → ℕ → Option PhraseAt
phrase_at s place at = let before = padding 4 (place + at) in phrase_sized s place at before (number_at 4 s (at + before))

-- _Property, the phrase, Lcid, _ulGenerateMethod; "properties 5 and 6", "method 0 or 1"; "locale .. read and ignored"
abbrev pub content_spec_at : ℕ
content_spec_at = head_size

abbrev pub phrase_from : ℕ
phrase_from = content_spec_at + spec_size

abbrev pub content_from : List ℕ → PhraseAt → Option (Parts × ℕ)
content_from s p =
    let method = number_at 4 s (p.next + 4) in
    pick
    (both (leb (p.next + 8) (length s)) (both (is_text (property_at s content_spec_at)) (leb method 1)))
    (Some (OfContent (record { property = property_at s content_spec_at; start = p.start; count = p.count; method = method }), p.next + 8))
    None

unfoldable pub content_at : List ℕ → ℕ → Option (Parts × ℕ)
content_at s place = and_then (phrase_at s place phrase_from) (content_from s)

-- _relop, _Property, then vType, vData1 with vData2, and vValue (source, 2.2.1.1): "relations 0 to 5 .., properties 2 to 4, value type
-- 0x0013, its two data bytes zero"
abbrev pub relop_at : ℕ
relop_at = head_size

abbrev pub relation_spec_at : ℕ
relation_spec_at = relop_at + 4

abbrev pub value_type_at : ℕ
value_type_at = relation_spec_at + spec_size

abbrev pub value_data_at : ℕ
value_data_at = value_type_at + 2

abbrev pub value_at : ℕ
value_at = value_data_at + 2

abbrev pub relation_size : ℕ → ℕ
relation_size property = value_at + number_size property

unfoldable pub relation_at : List ℕ → Option (Parts × ℕ)
relation_at s =
    let property = property_at s relation_spec_at in
    pick
    (both (leb (relation_size property) (length s))
    (both
    (both (leb (number_at 4 s relop_at) 5) (is_number property))
    (both (eqb (number_at 2 s value_type_at) (number_type property)) (eqb (number_at 2 s value_data_at) 0))))
    (Some (
      OfRelation (record { relop = number_at 4 s relop_at; property = property; value = number_at (number_size property) s value_at }),
      relation_size property,
    ))
    None

-- "content 4, property 5"
abbrev pub leaf_at : ℕ → List ℕ → ℕ → Option (Parts × ℕ)
leaf_at kind s place =
    let content = content_at s place in
    let relation = relation_at s in
    pick (eqb kind content_kind) content (pick (eqb kind property_kind) relation None)

-- what is read of a leaf is handed on, with the bytes that it takes
abbrev pub with_leaf : {A : Type 0} → Option (Parts × ℕ) → A → (Parts → ℕ → A) → A
with_leaf None bad next = bad
with_leaf (Some (parts, used)) bad next = next parts used

-- the units of a content leaf's phrase, and a leaf as data
abbrev pub phrase_of : List ℕ → Content → List ℕ
phrase_of s c = halves (take (2 * c.count) (drop c.start s))

abbrev pub leaf_of : List ℕ → Parts → Leaf
leaf_of s (OfContent c) = content c.property (phrase_of s c) c.method
leaf_of s (OfRelation r) = relation r.relop r.property r.value
