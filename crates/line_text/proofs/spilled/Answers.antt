-- What was found so far is whether a byte so far changed. Assumes nothing.
use Rattle.std.proofs.Common.{arith, rules, tests, ◌≡◌, ◌∙◌, refl, drop, length}
use Rattle.std.proofs.lemmas.Iterator.{YieldsList-from_slice}
use Rattle.std.proofs.lemmas.Slice.{between_to_end}
use Rattle.std.proofs.lemmas.Fn.{fold_over, fronts}
use Rattle.line.specs.Text.{changed}
use Rattle.line.proofs.TextLaws.{changed_snoc, drop_past}
use Rattle.line_text.proofs.spilled.Goals as goal

pub returns : goal.returns
unfolding changed
returns c =
    let s = c.args.reply.now in
    let from : c.iter.result.rest.now ≡ drop c.args.count s =
    c.iter.ensures.rest ∙ between_to_end s c.min.result (length s) (omega arith) ∙ drop_past s c.args.count c.min.result (omega arith) in
    fold_over fronts (λ y. y.now) _ (λ ys found. found ≡ changed ys) _
    (λ ys a x b f j k. let more = changed_snoc ys x.now in search (rules, tests))
    c.iter.result (drop c.args.count s) _ _ (YieldsList-from_slice (drop c.args.count s) from).runs refl c.fold.ensures.ran
