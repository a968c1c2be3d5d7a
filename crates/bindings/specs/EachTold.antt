-- What a test of columns answers, by the test of one column, or of two, that is handed over.
use Rattle.std.specs.Prelude.{◌≡◌, Bool, List}
use Rattle.lists.specs.Every.{every, pairwise}
use Rattle.bindings.specs.declared.Column.{Column}

-- where each call of what is handed over answers a test, the answer is that each column passes it
pub record EachTold (called : Column → Bool → Type 0) (columns : List Column) (r : Bool) : Type 0 where
  pub told : (test : Column → Bool) → ((c : Column) (answer : Bool) → called c answer → answer ≡ test c) → r ≡ every test columns

-- the same of any two, the earlier one first
pub record PairsTold (called : Column → Column → Bool → Type 0) (columns : List Column) (r : Bool) : Type 0 where
  pub told : (test : Column → Column → Bool) → ((c d : Column) (answer : Bool) → called c d answer → answer ≡ test c d) → r ≡ pairwise test columns
