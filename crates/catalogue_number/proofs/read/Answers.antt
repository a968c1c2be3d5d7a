-- `catalogue_number::read` meets its contract: the first byte decides which way reading goes, and each way is a law. Assumes nothing.
use Rattle.std.proofs.Common.{rules, arith, ◌≡◌, sym, ◌∙◌, get_or}
use Rattle.catalogue.proofs.Carry.{reading_end_lem, reading_over, reading_one, reading_more}
use Rattle.catalogue_number.proofs.read.Goals as goal

pub returns-in_err-first : goal.returns-in_err-first
returns-in_err-first c = let a = c.args in rw c.from_residual.ensures (sym (reading_end_lem a.limit a.catalogue.now a.at (search rules)))

pub returns-then-limit-first : goal.returns-then-limit-first
returns-then-limit-first c = let a = c.args in
    let first : c.in_ok-first.field-0.now ≡ get_or a.catalogue.now a.at 0 = c.in_ok-first.ensures.lookup.3.1 0 in
    sym (reading_over a.limit a.catalogue.now a.at (search rules) (omega arith) (omega arith))

pub returns-else-limit-first : goal.returns-else-limit-first
returns-else-limit-first c = let a = c.args in
    let first : c.in_ok-first.field-0.now ≡ get_or a.catalogue.now a.at 0 = c.in_ok-first.ensures.lookup.3.1 0 in
    rw first (sym (reading_one a.limit a.catalogue.now a.at (search rules) (omega arith) (omega arith)))

pub returns : goal.returns
returns c = let a = c.args in
    let first : c.in_ok-first.field-0.now ≡ get_or a.catalogue.now a.at 0 = c.in_ok-first.ensures.lookup.3.1 0 in
    c.read_further.ensures ∙ rw first (sym (reading_more a.limit a.catalogue.now a.at (search rules) (omega arith)))
