-- `catalogue_end::numbers_end` meets its contract: one number after the other, of five bytes at most, so that each finds two. Assumes nothing.
use Rattle.std.proofs.Common.{rules, arith}
use Rattle.catalogue.specs.Limits.{key_most, number_most}
use Rattle.catalogue.proofs.EndLaws.{five_on}
use Rattle.catalogue_end.proofs.numbers_end.Goals as goal

pub number_end-requires-2 : goal.number_end-requires-2
number_end-requires-2 c =
    let a = c.args in
    let on = five_on key_most a.catalogue.now a.at c.in_ok-at1.at1 (search rules) c.in_ok-at1.ensures in
    (omega (arith, on), search rules)

pub number_end-requires-3 : goal.number_end-requires-3
number_end-requires-3 c =
    let a = c.args in
    let on = five_on key_most a.catalogue.now a.at c.in_ok-at1.at1 (search rules) c.in_ok-at1.ensures in
    let further = five_on number_most a.catalogue.now c.in_ok-at1.at1 c.in_ok-at2.at2 (search rules) c.in_ok-at2.ensures in
    (omega (arith, on, further), search rules)
