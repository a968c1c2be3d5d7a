-- The first column that is left and those after it decide, or the others do. Assumes nothing.
use Rattle.std.proofs.Common.{◌+◌, ◌-◌, true, false, rules}
use native.Mathlib.Omega.{arith}
use Rattle.bindings.proofs.Columns.{each_by, pairs_stop, pairs_more, pairs_none}
use Rattle.bindings_record.proofs.every_pair.Goals as goal

pub returns-then-not-every_column : goal.returns-then-not-every_column
returns-then-not-every_column g c =
    let a = c.args in
    let k = c.loop-k.k in
    c.loop-k.invariant false
    (pairs_stop _ (a.count - k) (a.count - (k + 1)) k a.records.now (omega arith)
    (each_by (rw c.if-not-every_column.true at c.every_column.ensures) (λ d answer e. rw (← c.column_at-column.ensures) (search rules))))

pub loop-k-preserved : goal.loop-k-preserved
loop-k-preserved g c = λ r t.
    let a = c.args in
    let k = c.loop-k.k in
    c.loop-k.invariant r
    (pairs_more _ (a.count - k) (a.count - (k + 1)) k a.records.now (omega arith)
    (each_by (rw c.if-not-every_column.false at c.every_column.ensures) (λ d answer e. rw (← c.column_at-column.ensures) (search rules))) r t)

pub returns : goal.returns
returns g c =
    let a = c.args in
    let k = c.loop-k.k in
    c.loop-k.invariant true (pairs_none (a.count - k) k a.records.now (omega arith) _)
