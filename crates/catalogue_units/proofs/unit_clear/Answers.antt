-- `catalogue_units::unit_clear` meets its contract. Assumes nothing.
use borrow.Author.Rules.{rules}
use mathlib.Core.Path.{ap, ◌∙◌}
use mathlib.Core.Bool.{not}
use lib.Dec.{eqb}
use Rattle.catalogue.proofs.TextLaws.{unit_at}
use Rattle.catalogue_units.proofs.unit_clear.Goals as goal

pub returns : goal.returns
returns c =
    let a = c.args in
    ap (λ u. not (eqb u 0)) c.half.ensures ∙ unit_at a.units.now a.index (search rules)
