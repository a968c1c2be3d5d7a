-- `query_open::fill` meets its contract: the selection is written into its part of a closed cursor's words, and two words are set. Assumes nothing.
use mathlib.Core.Path.{ap, ◌∙◌}
use Prim.Native.Nat.{ℕ}
use mathlib.Core.List.{List}
use lib.ListN.{set}
use Rattle.tree.specs.Select.{selected}
use Rattle.query.proofs.OpenLaws.{selected_few, filled}
use Rattle.query_open.proofs.fill.Goals as goal

pub returns : goal.returns
returns c =
    c.open.ensures
    ∙ ap (λ (x : List ℕ). set (set x 0 1) 2 c.select-count.result) c.in-Some.ensures.cases.same
    ∙ filled c.args.cursor.now (selected c.args.tree.now c.args.catalogue.now) _ c.requires.0
    (selected_few c.args.tree.now c.args.catalogue.now _ _ c.requires.2)
    c.select-count.ensures.laid
    _
    c.select-count.ensures.counted
