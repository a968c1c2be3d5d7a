-- Which rows a leaf holds for (01, "Restriction trees").
use Rattle.std.specs.Prelude.{Bool, false, not, List, ℕ, leb, ltb, eqb, Option, None, Some}
use Rattle.lists.specs.Below.{pick}
use Rattle.catalogue.specs.Plain.{Row}
use Rattle.tree.specs.Phrase.{occurs}
use Rattle.wire.specs.Property.{of_numbers, of_texts}
use Rattle.tree.specs.Leaf.{Leaf, content, relation}

-- "relations 0 to 5 (<, <=, >, >=, =, not equal), unsigned": the row's value, the relation, the tree's value
abbrev pub relation_holds : ℕ → ℕ → ℕ → Bool
relation_holds relop mine yours =
    pick (eqb relop 0) (ltb mine yours)
    (pick (eqb relop 1) (leb mine yours)
    (pick (eqb relop 2) (ltb yours mine)
    (pick (eqb relop 3) (leb yours mine)
    (pick (eqb relop 4) (eqb mine yours) (not (eqb mine yours))))))

-- "Absent text holds no phrase"
abbrev pub phrase_holds : ℕ → List ℕ → Option (List ℕ) → Bool
phrase_holds method phrase None = false
phrase_holds method phrase (Some units) = occurs method phrase units

-- a leaf holds for a row: the text or the number that its property names is asked
abbrev pub leaf_holds : Row → Leaf → Bool
leaf_holds row (content property phrase method) = phrase_holds method phrase (of_texts property row.label row.note)
leaf_holds row (relation relop property value) = relation_holds relop (of_numbers property row.key row.language row.default) value
