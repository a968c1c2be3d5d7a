-- The rows that a tree selects: their numbers, counted from 0 in the catalogue's order (01, "What the base serves": "row numbers of each
-- selection"; "Restriction trees").
use Rattle.std.specs.Prelude.{Bool, List, [], ◌∷◌, ℕ, ◌+◌, Option, None, Some}
use Rattle.lists.specs.Below.{pick}
use Rattle.catalogue.specs.Plain.{Row, catalogue}
use Rattle.tree.specs.Tree.{Tree}
use Rattle.tree.specs.TreeHolds.{holds}
use Rattle.tree.specs.Reader.{restriction}

-- the numbers of the rows that pass a test, where the first row has the number n
unfoldable pub numbers_from : ℕ → (Row → Bool) → List Row → List ℕ
numbers_from n test [] = []
numbers_from n test (r ∷ rows) = let others = numbers_from (n + 1) test rows in pick (test r) (n ∷ others) others

-- the selection of a tree
abbrev pub selection : Tree → List Row → List ℕ
selection t rows = numbers_from 0 (holds t) rows

-- what is selected by a list of bytes: nothing, where it holds no tree or the catalogue is malformed
abbrev pub selected_by : Option Tree → Option (List Row) → List ℕ
selected_by None rows = []
selected_by (Some t) None = []
selected_by (Some t) (Some rows) = selection t rows

abbrev pub selected : List ℕ → List ℕ → List ℕ
selected tree s = selected_by (restriction tree) (catalogue s)
