-- Which rows a tree holds for (01, "Restriction trees"). What a leaf says is apart from what a tree makes of it.
use Rattle.std.specs.Prelude.{Bool, true, false, ℕ, Option, None, Some}
use Rattle.std.proofs.Math.Bool as Truth
use Rattle.lists.specs.Below.{both, either}
use Rattle.catalogue.specs.Plain.{Row}
use Rattle.tree.specs.Leaf.{Leaf}
use Rattle.tree.specs.LeafHolds.{leaf_holds}
use Rattle.tree.specs.Tree.{Tree, Forest, leaf, and, or, not, end, further}

-- "Absent text holds no phrase; a not above it is true": what a tree says where each leaf, told by its position and its content, says
-- what it is given to say
unfoldable mutual
  pub says : (ℕ → Leaf → Bool) → Tree → Bool
  says tells (leaf position l) = tells position l
  says tells (and t f) = both (says tells t) (every_says tells f)
  says tells (or t f) = either (says tells t) (some_says tells f)
  says tells (not t) = Truth.not (says tells t)

  pub every_says : (ℕ → Leaf → Bool) → Forest → Bool
  every_says tells end = true
  every_says tells (further t f) = both (says tells t) (every_says tells f)

  pub some_says : (ℕ → Leaf → Bool) → Forest → Bool
  some_says tells end = false
  some_says tells (further t f) = either (says tells t) (some_says tells f)

-- the tree holds for a row where it says so with each leaf as the row makes it
abbrev pub tells_of : Row → ℕ → Leaf → Bool
tells_of row position l = leaf_holds row l

abbrev pub holds : Tree → Row → Bool
holds t row = says (tells_of row) t

-- whether a row is held by a tree, if there is one
abbrev pub held_by : Option Tree → Row → Bool
held_by None row = false
held_by (Some t) row = holds t row
