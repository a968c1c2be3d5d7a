-- `catalogue_end::text_end` meets its contract: the units run past the end, or they are a part whose zero units decide. Assumes nothing.
use Rattle.std.proofs.Common.{arith, sym, ◌∙◌}
use Rattle.catalogue.proofs.Inside.{reading_read}
use Rattle.catalogue.specs.CataloguePlaces.{text_at}
use Rattle.catalogue.proofs.TextLaws.{end_absent, end_short, end_clear, end_zero}
use Rattle.catalogue_end.proofs.text_end.Goals as goal
use Rattle.catalogue_end.proofs.text_end.Goals.{else-end-catalogue-via-then-end-catalogue+else-none_zero, else-end-catalogue-via-else-end-catalogue}

pub returns-in_err-size : goal.returns-in_err-size
unfolding text_at
returns-in_err-size c = rw (c.from_residual.ensures, sym c.in_err-size.ensures)

pub returns-then-size-eq0 : goal.returns-then-size-eq0
returns-then-size-eq0 c =
    end_absent c.args.catalogue.now c.args.at c.in_ok-size.size c.in_ok-size.start (sym c.in_ok-size.ensures) c.if-size-eq0.true

pub units_end-end-requires : goal.units_end-end-requires
units_end-end-requires c =
    let r = reading_read 2049 c.args.catalogue.now c.args.at c.in_ok-size.size c.in_ok-size.start (sym c.in_ok-size.ensures) in
    (omega (arith, r.inside, c.well_formed), r.small)

pub returns-then-none_zero : goal.returns-then-none_zero
returns-then-none_zero c =
    end_clear c.args.catalogue.now c.args.at c.in_ok-size.size c.in_ok-size.start c.units_end-end.result (sym c.in_ok-size.ensures)
    c.units_end-end.ensures
    c.if-end-catalogue.true
    c.if-none_zero.ensures

pub returns-else-end-catalogue : goal.returns-else-end-catalogue
returns-else-end-catalogue c =
    let e = sym c.in_ok-size.ensures in
    let r = reading_read 2049 c.args.catalogue.now c.args.at c.in_ok-size.size c.in_ok-size.start e in
    elim c.else-end-catalogue.branch [
      | else-end-catalogue-via-then-end-catalogue+else-none_zero w ↦
          end_zero c.args.catalogue.now c.args.at c.in_ok-size.size c.in_ok-size.start c.units_end-end.result e
          c.units_end-end.ensures
          w.if-end-catalogue.true
          (sym w.if-none_zero.false ∙ w.none_zero.ensures)
      | else-end-catalogue-via-else-end-catalogue w ↦ end_short c.args.catalogue.now c.args.at c.in_ok-size.size c.in_ok-size.start e r.inside (omega arith)
    ]
