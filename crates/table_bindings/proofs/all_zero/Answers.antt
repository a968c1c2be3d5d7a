-- `table_bindings::all_zero` meets its contract. The loop's invariant: what is joined is zero where each of the first words is. Assumes nothing.
use mathlib.Core.Path.{sym, ◌∙◌, ap}
use lib.Dec.{eqb}
use lib.ListN.{get_or}
use Rattle.lists.specs.Below.{both}
use Rattle.lists.proofs.Below.{every_more, every_start}
use Rattle.lists.proofs.Bits.{or_zero}
use Rattle.table_bindings.proofs.all_zero.Goals as goal

pub loop-word-init : goal.loop-word-init
loop-word-init c = sym (every_start _)

pub loop-word-preserved : goal.loop-word-preserved
loop-word-preserved c =
    let l = c.loop-word in
    let word = get_or c.args.words.now l.word-index 0 in
    or_zero l.joined word ∙ ap (both (eqb word 0)) l.invariant ∙ sym (every_more l.word-index _)
