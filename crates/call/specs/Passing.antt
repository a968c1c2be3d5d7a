-- A table that refusals 2 and 3 let pass, in any call.
use Rattle.std.specs.Prelude.{◌≡◌, true, List, ℕ}
use Rattle.table.specs.Well.{table_well}
use Rattle.call.specs.Step.{Sources, rows_hold}

-- a table that 2 and 3 let pass
pub record Passing (src : Sources) (t : List ℕ) : Type 0 where
  pub well : table_well t ≡ true
  pub holds : rows_hold src.rows t ≡ true
