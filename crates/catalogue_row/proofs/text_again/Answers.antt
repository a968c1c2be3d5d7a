-- `catalogue_row::text_again` meets its contract: a text that stands is known by its size. Assumes nothing.
use Rattle.std.proofs.Common.{arith, sym}
use Rattle.catalogue.proofs.Inside.{reading_read}
use Rattle.catalogue.proofs.RowLaws.{size_there, text_known}
use Rattle.catalogue_row.proofs.text_again.Goals as goal

pub number_again-told-requires : goal.number_again-told-requires
number_again-told-requires c = size_there c.args.catalogue.now c.args.at c.requires

pub units_end-end-requires : goal.units_end-end-requires
units_end-end-requires c =
    let n = c.number_again-told in
    let r = reading_read 2049 c.args.catalogue.now c.args.at n.result.0 n.result.1 (sym n.ensures) in
    (omega (arith, r.inside, c.well_formed), r.small)

pub returns : goal.returns
returns c =
    let n = c.number_again-told in
    rw c.units_end-end.ensures (sym (text_known c.args.catalogue.now c.args.at n.result.0 n.result.1 (sym n.ensures) c.requires))
