-- `catalogue_end::number_end` meets its contract: the first three groups decide, or all are read. Assumes nothing.
use Rattle.std.proofs.Common.{rules, arith, sym, ap, ◌+◌}
use Rattle.catalogue.specs.CataloguePlaces.{end_of}
use Rattle.catalogue.proofs.Carry.{reading_one}
use Rattle.catalogue.proofs.EndLaws.{end_two, end_three}
use Rattle.std.proofs.lemmas.Grind.{common_steps}
use Rattle.catalogue_end.proofs.number_end.Goals as goal

pub returns-then-catalogue-at-lt128 : goal.returns-then-catalogue-at-lt128
returns-then-catalogue-at-lt128 c =
    let a = c.args in
    sym (ap end_of (reading_one a.limit a.catalogue.now a.at (omega arith) (omega arith) (omega arith)))

pub returns-then-contains : goal.returns-then-contains
returns-then-contains c =
    let a = c.args in
    end_two a.limit a.catalogue.now a.at (search rules) (search rules)
    (omega (arith, c.type_inv.catalogue a.at))
    (omega arith)
    (grind (arith, common_steps))
    (search rules)

pub returns-then-contains-2 : goal.returns-then-contains-2
returns-then-contains-2 c =
    let a = c.args in
    end_three a.limit a.catalogue.now a.at (search rules) (search rules)
    (omega (arith, c.type_inv.catalogue a.at))
    (omega arith)
    (omega (arith, c.type_inv.catalogue (a.at + 1)))
    (omega arith)
    (grind (arith, common_steps))
    (search rules)
