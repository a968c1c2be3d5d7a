-- `catalogue_row::key_again` meets its contract: a number of three groups is told by these, any other as before. Assumes nothing.
use native.Mathlib.Omega.{arith}
use Rattle.catalogue.proofs.Standing.{first_inside, second_inside, third_inside, three_standing}
use Rattle.catalogue_row.proofs.key_again.Goals as goal

pub bounds-catalogue-at : goal.bounds-catalogue-at
bounds-catalogue-at c = first_inside c.args.limit c.args.catalogue.now c.args.at c.requires

pub bounds-catalogue-at-then-first-ge128 : goal.bounds-catalogue-at-then-first-ge128
bounds-catalogue-at-then-first-ge128 c =
    omega (arith, second_inside c.args.limit c.args.catalogue.now c.args.at c.requires c.if-first-ge128.true)

pub bounds-catalogue-at-then-second-ge128 : goal.bounds-catalogue-at-then-second-ge128
bounds-catalogue-at-then-second-ge128 c =
    omega (arith, third_inside c.args.limit c.args.catalogue.now c.args.at c.requires c.if-first-ge128.true c.if-second-ge128.true)

pub returns-then-third-lt128 : goal.returns-then-third-lt128
returns-then-third-lt128 c =
    three_standing c.args.limit c.args.catalogue.now c.args.at c.requires c.if-first-ge128.true c.if-second-ge128.true c.if-third-lt128.true
