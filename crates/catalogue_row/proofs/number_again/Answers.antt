-- `catalogue_row::number_again` meets its contract: a number that stands is told by its groups. Assumes nothing.
use borrow.Author.Rules.{rules}
use native.Mathlib.Omega.{arith}
use Rattle.catalogue.proofs.Standing.{first_inside, one_standing, second_inside, two_standing}
use Rattle.catalogue_row.proofs.number_again.Goals as goal

pub bounds-catalogue-at : goal.bounds-catalogue-at
bounds-catalogue-at c = first_inside c.args.limit c.args.catalogue.now c.args.at c.requires

pub overflow_add-result : goal.overflow_add-result
overflow_add-result c = omega (arith, c.well_formed, first_inside c.args.limit c.args.catalogue.now c.args.at c.requires)

pub returns-then-first-lt128 : goal.returns-then-first-lt128
returns-then-first-lt128 c = one_standing c.args.limit c.args.catalogue.now c.args.at c.requires c.if-first-lt128.true

pub bounds-catalogue-at-2 : goal.bounds-catalogue-at-2
bounds-catalogue-at-2 c =
    omega (arith, second_inside c.args.limit c.args.catalogue.now c.args.at c.requires (search rules))

pub returns-then-second-lt128 : goal.returns-then-second-lt128
returns-then-second-lt128 c =
    two_standing c.args.limit c.args.catalogue.now c.args.at c.requires (search rules) c.if-second-lt128.true

pub unwrap-requires : goal.unwrap-requires
unwrap-requires c = rw (c.read.ensures, c.requires.2) (search rules)
