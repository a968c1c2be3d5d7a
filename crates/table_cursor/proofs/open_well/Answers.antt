-- `table_cursor::open_well` meets its contract: the four tests are made one after the other. Assumes nothing.
use mathlib.Core.Path.{◌≡◌}
use Rattle.std.proofs.lemmas.Grind.{common_steps}
use native.Mathlib.Omega.{arith}
use lib.ListN.{take, drop, length-drop}
use lib.Seq.{take_all}
use Rattle.table_cursor.proofs.open_well.Goals as goal

pub returns-then-bindings_well : goal.returns-then-bindings_well
returns-then-bindings_well c =
    let b = c.args.cursor.now in
    let rows : take 1024 (drop 50 b) ≡ drop 50 b = take_all 1024 (drop 50 b) (omega (arith, length-drop 50 b)) in
    let s = rw rows at c.selection_well.ensures in
    grind (arith, common_steps, s)
