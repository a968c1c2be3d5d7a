-- The words of a leaf by their places, counted from its first byte, which has the place `place` in the tree: what the code follows.
-- proofs/LeafWords.antt shows that these are the words of the leaf that is read there.
use Rattle.std.specs.Prelude.{List, ℕ, ◌+◌, ◌*◌}
use Rattle.wire.specs.Word.{number_at}
use Rattle.wire.specs.Padding.{padding}
use Rattle.wire.specs.PropertySpec.{pr_spec_at}
use Rattle.tree.specs.Parts.{content_spec_at, phrase_from, relop_at, relation_spec_at, value_at}
use Rattle.tree.specs.declared.Content.{Content}
use Rattle.tree.specs.declared.Relation.{Relation}

-- a property leaf
abbrev pub relation_in : List ℕ → Relation
relation_in s =
    record { relop = number_at 4 s relop_at; property = number_at 4 s (relation_spec_at + pr_spec_at); value = number_at 4 s value_at }

-- a content leaf: where its count of units stands, where they end, and where its locale stands
abbrev pub count_at : ℕ → ℕ
count_at place = phrase_from + padding 4 (place + phrase_from)

abbrev pub units_end : List ℕ → ℕ → ℕ
units_end s place = count_at place + 4 + 2 * number_at 4 s (count_at place)

abbrev pub locale_at : List ℕ → ℕ → ℕ
locale_at s place = units_end s place + padding 4 (place + units_end s place)

abbrev pub content_in : List ℕ → ℕ → Content
content_in s place =
    record {
      property = number_at 4 s (content_spec_at + pr_spec_at);
      start = count_at place + 4;
      count = number_at 4 s (count_at place);
      method = number_at 4 s (locale_at s place + 4);
    }
