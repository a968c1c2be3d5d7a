use Rattle.page.specs.Rows.{returned, rows_spans}
use Rattle.page.specs.RowPlaces.{rows_at}
use Rattle.page.specs.declared.Sheet.{Sheet}
use Rattle.wire.specs.Laid.{lays}
use Rattle.bindings.specs.Column.{columns_of}
use lib.ListN.{length, take, drop}
use Prim.Native.Nat.{ℕ, ◌+◌, ◌-◌, ◌≤◌}
use mathlib.Core.List.{List}
use mathlib.Core.Path.{◌≡◌}
use Rattle.page_write.proofs.lay_rows.Given as goal

-- how many rows are sent in all, and how many of those that are left with so much room
abbrev in_all : Sheet → List ℕ → List ℕ → List ℕ → List ℕ → ℕ
in_all sheet records s places numbers =
    returned sheet.width (columns_of sheet.bound records) sheet.asked (sheet.size - sheet.from) (rows_at s places numbers)

abbrev pub still_sent : Sheet → List ℕ → List ℕ → List ℕ → List ℕ → ℕ → ℕ → ℕ
still_sent sheet records s places numbers sent room =
    returned sheet.width (columns_of sheet.bound records) (sheet.asked - sent) room (rows_at s places (drop sent numbers))

abbrev pub invariant-loop-sent : goal.invariant-loop-sent
invariant-loop-sent l =
    (length l.reply ≡ length l.initial.reply)
    × (l.top ≤ l.sheet.size)
    × (l.row ≤ l.top)
    × (in_all l.sheet l.records l.catalogue l.places l.numbers ≡ l.sent + still_sent l.sheet l.records l.catalogue l.places l.numbers l.sent (l.top - l.row))
    × (lays l.reply (rows_spans l.sheet.base l.sheet.width l.row l.top (columns_of l.sheet.bound l.records) (take (still_sent l.sheet l.records l.catalogue l.places l.numbers l.sent (l.top - l.row)) (rows_at l.catalogue l.places (drop l.sent l.numbers))))
    ≡ lays l.initial.reply (rows_spans l.sheet.base l.sheet.width l.sheet.from l.sheet.size (columns_of l.sheet.bound l.records) (take (in_all l.sheet l.records l.catalogue l.places l.numbers) (rows_at l.catalogue l.places l.numbers))))
