use mathlib.Core.Path.{◌≡◌}
use Prim.Native.Nat.{◌+◌, ◌-◌}
use Rattle.bindings.specs.Column.{columns_from, columns_of}
use Rattle.page.specs.CellPlaces.{texts_sent}
use Rattle.page_row.proofs.texts_sent.Given as goal

abbrev pub invariant-loop-k : goal.invariant-loop-k
invariant-loop-k l =
    ((texts_sent (columns_of l.bound l.records)).labels ≡ l.labels + (texts_sent (columns_from (l.bound - l.k) l.k l.records)).labels)
    × ((texts_sent (columns_of l.bound l.records)).notes ≡ l.notes + (texts_sent (columns_from (l.bound - l.k) l.k l.records)).notes)
