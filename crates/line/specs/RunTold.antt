-- What a function that passes a run of bytes answers.
use Rattle.std.specs.Prelude.{◌≡◌, Bool, List, ℕ, ◌+◌, ◌≤◌, length, drop}
use Rattle.line.specs.Runs.{run}

-- the place after the run of one kind of bytes that begins at a place
pub record Passed (kind : ℕ → Bool) (bytes : List ℕ) (at r : ℕ) : Type 0 where
  pub place : r ≡ at + run kind (drop at bytes)
  pub onward : at ≤ r
  pub inside : r ≤ length bytes
