-- `table_bindings::bound_well` meets its contract: the three tests are made one after the other. Assumes nothing.
use mathlib.Core.Path.{sym, ◌∙◌}
use native.Mathlib.Omega.{arith}
use Rattle.table.proofs.Judging.{fit_count}
use Rattle.table_bindings.proofs.bound_well.Goals as goal

pub all_tidy-requires : goal.all_tidy-requires
all_tidy-requires c =
    let a = c.args in
    fit_count a.width a.count a.records.now (sym c.fit.ensures ∙ c.if-not-fit.false)

pub slice_bounds-all_zero-count : goal.slice_bounds-all_zero-count
slice_bounds-all_zero-count c =
    let a = c.args in
    omega (arith, fit_count a.width a.count a.records.now (sym c.fit.ensures ∙ c.if-not-fit.false))

pub slice_bounds-all_zero-start : goal.slice_bounds-all_zero-start
slice_bounds-all_zero-start c =
    let a = c.args in
    omega (arith, fit_count a.width a.count a.records.now (sym c.fit.ensures ∙ c.if-not-fit.false))
