-- What selecting rows answers, and what it leaves of the words that it was lent.
use Rattle.std.specs.Prelude.{List, ◌++◌, ◌≡◌, ℕ, length, drop}
use Rattle.tree.specs.Select.{selected}

-- a list of words that begins with the selection, and has after it what it had, and the count of the selection
pub record Selected (tree s before : List ℕ) (count : ℕ) (after : List ℕ) : Type 0 where
  pub counted : count ≡ length (selected tree s)
  pub laid : after ≡ selected tree s ++ drop (length (selected tree s)) before
