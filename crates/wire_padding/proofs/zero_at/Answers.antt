-- All of the part is zero where each of its places is. Assumes nothing.
use borrow.Author.Rules.{rules}
use borrow.Author.Tests.{tests}
use mathlib.Core.Path.{ap, ◌∙◌}
use mathlib.Core.List.{List}
use Prim.Native.Nat.{ℕ}
use lib.Dec.{eqb}
use Rattle.std.specs.List.{list_all}
use Rattle.std.proofs.lemmas.Iterator.{YieldsList-from_slice}
use Rattle.std.proofs.lemmas.Iterator.Search.{all_from_yields_List}
use Rattle.lists.proofs.Library.{part_all}
use Rattle.lists.proofs.Parts.{part_is}
use Rattle.wire.specs.Padding.{zero_at}
use Rattle.wire_padding.proofs.zero_at.Goals as goal

pub returns : goal.returns
unfolding zero_at
returns c =
    let a = c.args in
    let zero = λ (b : ℕ). eqb b 0 in
    all_from_yields_List zero _ _ c.all.result c.all.ensures.ran (YieldsList-from_slice _ c.iter.ensures.rest) (λ x b q k. search (rules, tests))
    ∙ ap (λ (t : List ℕ). list_all zero t) (part_is a.bytes.now a.at a.count)
    ∙ part_all a.bytes.now a.at a.count c.requires zero
