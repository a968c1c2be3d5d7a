-- Worked selections, by computation, of the two rows of 01's whole case ("Numbers to check against"). Assumes nothing.
use mathlib.Core.Path.{◌≡◌, refl}
use mathlib.Core.List.{[], ◌∷◌}
use Rattle.lists.specs.Below.{some_below, every_below}
use Rattle.wire.specs.Word.{number, number_at, le, halves}
use Rattle.catalogue.specs.Groups.{groups}
use Rattle.catalogue.specs.Groups as Groups
use Rattle.catalogue.specs.Plain.{text, row, rows, catalogue}
use Rattle.catalogue.specs.Writer.{unit_bytes}
use Rattle.tree.specs.Phrase.{occurs, occurs_at, stands_at, starts_word, ends_word}
use Rattle.wire.specs.Padding.{zero_at}
use Rattle.wire.specs.PropertySpec.{set_ours, property_at}
use Rattle.tree.specs.Parts.{phrase_at, content_at, relation_at}
use Rattle.tree.specs.TreeHolds.{says}
use Rattle.tree.specs.Reader.{read_tree, restriction}
use Rattle.tree.specs.Examples.{related, phrased, nots}
use Rattle.tree.specs.Select.{numbers_from, selected}
use Rattle.catalogue.specs.Examples.{case_bytes}

pub numbers_selected : (selected (related 4 2 300) case_bytes ≡ 0 ∷ [])
    × (selected (nots 1 (related 4 2 300)) case_bytes ≡ 1 ∷ [])
    × (selected (related 3 2 0) case_bytes ≡ 0 ∷ 1 ∷ [])
    × (selected (related 2 3 1031) case_bytes ≡ [])
unfolding catalogue rows row text Groups.number groups halves every_below restriction read_tree relation_at property_at set_ours zero_at number_at number le says numbers_from
numbers_selected = (refl, refl, refl, refl)

-- "Absent text holds no phrase; a not above it is true"
pub texts_selected : (selected (phrased 5 (0x4F ∷ 0x4B ∷ []) [] 0) case_bytes ≡ 0 ∷ [])
    × (selected (nots 1 (phrased 6 (0x4F ∷ 0x4B ∷ []) [] 0)) case_bytes ≡ 0 ∷ 1 ∷ [])
unfolding catalogue rows row text Groups.number groups halves every_below restriction read_tree content_at phrase_at property_at set_ours zero_at number_at number le unit_bytes says occurs occurs_at stands_at starts_word ends_word some_below numbers_from
texts_selected = (refl, refl)

-- bytes that hold no tree select nothing
pub no_tree_selected : selected [] case_bytes ≡ []
unfolding restriction read_tree
no_tree_selected = refl
