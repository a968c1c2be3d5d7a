-- What an accepted opening does (01: "opening takes the lowest free handle, with position 0 and no bindings"; demand 2: "A query selects
-- exactly the rows its tree describes, in order").
use Rattle.std.specs.Prelude.{◌≡◌, true, ◌↔◌, ◌⊎◌, ℕ, ◌<◌, length, None, Some}
use mathlib.Core.List.{List, Memᴰ}
use Rattle.catalogue.specs.Plain.{Row, catalogue, row_in}
use Rattle.tree.specs.Tree.{Tree}
use Rattle.tree.specs.TreeHolds.{holds}
use Rattle.tree.specs.Reader.{restriction}
use Rattle.lists.specs.Rising.{Rises}
use Rattle.table.specs.Seat.{Seat, opened}
use Rattle.call.specs.Step.{Outcome, seat_held}
use Rattle.promises.specs.Client.{version_of, held_cursor}

-- the numbers of the rows that a tree holds for, all of them and no others, rising
pub record Selects (rows : List Row) (tree : Tree) (selection : List ℕ) : Type 0 where
  pub has : (k : ℕ) → Memᴰ k selection ↔ ((k < length rows) × (holds tree (row_in rows k) ≡ true))
  pub rises : Rises selection

pub record Opens (s t : List ℕ) (seat : ℕ) (bytes : List ℕ) (o : Outcome) : Type 0 where
  pub rows : List Row
  pub tree : Tree
  pub selection : List ℕ
  pub parsed : catalogue s ≡ Some rows
  pub read : restriction bytes ≡ Some tree
  pub selects : Selects rows tree selection
  -- the lowest free handle
  pub free : held_cursor t seat o.handle ≡ None
  pub lowest : (o.handle ≡ 1) ⊎ ((o.handle ≡ 2) × (held_cursor t seat 1 ≡ None → ⊥))
  -- the seat stays connected with its version, and has a cursor on that selection, at position 0 and without bindings
  pub version : (k : Seat) × (seat_held t seat ≡ Some k) × (version_of (seat_held o.words seat) ≡ Some k.version)
  pub cursor : held_cursor o.words seat o.handle ≡ Some (opened selection)
