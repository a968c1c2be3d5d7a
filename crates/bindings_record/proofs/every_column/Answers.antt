-- The first column that is left decides, or the others do. Assumes nothing.
use Rattle.std.proofs.Common.{◌+◌, ◌-◌, true, false}
use native.Mathlib.Omega.{arith}
use Rattle.bindings.proofs.Columns.{each_stop, each_more, each_none}
use Rattle.bindings_record.proofs.every_column.Goals as goal

pub returns-then-not-test : goal.returns-then-not-test
returns-then-not-test g c =
    let a = c.args in
    let k = c.loop-k.k in
    c.loop-k.invariant false
    (each_stop _ (a.from + a.count - k) (a.from + a.count - (k + 1)) k a.records.now (omega arith)
    (rw (c.column_at.ensures, c.if-not-test.true) at c.test.ensures))

pub loop-k-preserved : goal.loop-k-preserved
loop-k-preserved g c = λ r t.
    let a = c.args in
    let k = c.loop-k.k in
    c.loop-k.invariant r
    (each_more _ (a.from + a.count - k) (a.from + a.count - (k + 1)) k a.records.now (omega arith)
    (rw (c.column_at.ensures, c.if-not-test.false) at c.test.ensures) r t)

pub returns : goal.returns
returns g c =
    let a = c.args in
    let k = c.loop-k.k in
    c.loop-k.invariant true (each_none (a.from + a.count - k) k a.records.now (omega arith) _)
