-- Any two spans are two of a column, or one of a column and one of a later one. Assumes nothing.
use Rattle.std.proofs.Common.{rules, ◌≡◌}
use Rattle.lists.specs.Every.{every, pairwise}
use Rattle.bindings.specs.Column.{columns_of}
use Rattle.bindings.proofs.Spans.{own, clear, spans_pairs}
use Rattle.bindings_columns.proofs.none_meet.Goals as goal

pub returns-then-every_column : goal.returns-then-every_column
returns-then-every_column c =
    let a = c.args in
    let s = columns_of a.columns a.records.now in
    let each : c.every_column.result ≡ every own s = c.every_column.ensures.told own (λ d answer e. search rules) in
    let pairs : c.every_pair.result ≡ pairwise clear s = c.every_pair.ensures.told clear (λ d other answer e. search rules) in
    rw (spans_pairs s, ← each, ← pairs, c.if-every_column.true)

pub returns-else-every_column : goal.returns-else-every_column
returns-else-every_column c =
    let a = c.args in
    let s = columns_of a.columns a.records.now in
    let each : c.every_column.result ≡ every own s = c.every_column.ensures.told own (λ d answer e. search rules) in
    rw (spans_pairs s, ← each, c.if-every_column.false)
