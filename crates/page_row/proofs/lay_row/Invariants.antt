use mathlib.Core.Path.{◌≡◌}
use Prim.Native.Nat.{◌-◌, ◌≤◌}
use lib.ListN.{length}
use Rattle.catalogue.specs.CataloguePlaces.{row_of}
use Rattle.bindings.specs.Column.{columns_from, columns_of}
use Rattle.wire.specs.Laid.{lays}
use Rattle.page.specs.Rows.{blocks, row_spans}
use Rattle.page_row.proofs.lay_row.Given as goal

abbrev pub invariant-loop-k : goal.invariant-loop-k
invariant-loop-k l =
    (length l.reply ≡ length l.initial.reply)
    × (l.place ≤ l.top)
    × (blocks (columns_from (l.sheet.bound - l.k) l.k l.records) (row_of l.catalogue l.fields) ≤ l.place)
    × (l.place - blocks (columns_from (l.sheet.bound - l.k) l.k l.records) (row_of l.catalogue l.fields) ≡ l.top - blocks (columns_of l.sheet.bound l.records) (row_of l.catalogue l.fields))
    × (lays l.reply (row_spans l.sheet.base l.row l.place (columns_from (l.sheet.bound - l.k) l.k l.records) (row_of l.catalogue l.fields))
    ≡ lays l.initial.reply (row_spans l.sheet.base l.row l.top (columns_of l.sheet.bound l.records) (row_of l.catalogue l.fields)))
