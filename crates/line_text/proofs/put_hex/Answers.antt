-- No bytes, or some. Assumes nothing.
use mathlib.Core.Path.{sym, ◌∙◌}
use native.Mathlib.Omega.{arith}
use mathlib.Core.Path.{refl}
use borrow.Author.Tests.{eqb-true, eqb-false}
use Rattle.line.proofs.TextLaws.{pairs_length, text_none, text_some}
use Rattle.line_text.proofs.put_hex.Goals as goal

pub returns-then-is_empty : goal.returns-then-is_empty
returns-then-is_empty c = rw (text_none c.args.bytes.now (eqb-true _ _ (sym c.is_empty.ensures ∙ c.if-is_empty.true))) c.put.ensures

pub returns-else-is_empty : goal.returns-else-is_empty
returns-else-is_empty c =
    rw (text_some c.args.bytes.now (eqb-false _ _ (sym c.is_empty.ensures ∙ c.if-is_empty.false)))
    record {
      put = record { next = omega (arith, pairs_length c.args.bytes.now); laid = c.lay_pairs.ensures };
      stays = record { long = c.lay_pairs.auto.out; same = refl };
    }
