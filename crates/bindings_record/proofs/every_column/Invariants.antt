use mathlib.Core.Bool.{Bool}
use Prim.Native.Nat.{◌+◌, ◌-◌}
use Rattle.bindings.specs.Column.{columns_from}
use Rattle.bindings.specs.EachTold.{EachTold}
use Rattle.bindings_record.proofs.every_column.Given as goal

-- what is told of the columns that are left is told of all
abbrev pub invariant-loop-k : goal.invariant-loop-k
invariant-loop-k g l =
    (r : Bool) → EachTold (goal.F-post g l.test) (columns_from (l.from + l.count - l.k) l.k l.records) r
    → EachTold (goal.F-post g l.test) (columns_from l.count l.from l.records) r
