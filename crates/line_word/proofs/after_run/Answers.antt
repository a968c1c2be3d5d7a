-- The bytes that `take_while` gives are the run. Assumes nothing.
use Rattle.std.proofs.Common.{arith, rules, tests, Iter, ℕ, ap, ◌≡◌, ◌∙◌, length, length-drop, take, drop}
use Rattle.std.specs.List.{prefix_len}
use Rattle.std.proofs.lemmas.Iterator.{YieldsList-from_slice}
use Rattle.std.proofs.lemmas.Iterator.Consumers.{count_from_yields_List}
use Rattle.std.proofs.lemmas.Iterator.Search.{YieldsList-from_take_while}
use Rattle.std.proofs.lemmas.List.Folds.{length-prefix_len}
use Rattle.std.proofs.lemmas.Slice.{between_to_end}
use Rattle.line.specs.Runs.{run}
use Rattle.line.proofs.Fitting.{part_length}
use Rattle.line.proofs.RunLaws.{run_is}
use Rattle.line_word.proofs.after_run.Goals as goal

pub returns : goal.returns
returns g c kind h =
    let s = drop c.args.at c.args.bytes.now in
    let from : c.take_while.result.iter.rest.now ≡ s = ap (λ (i : Iter ℕ). i.rest.now) c.take_while.ensures.source ∙ c.iter.ensures.rest ∙ between_to_end c.args.bytes.now c.args.at (length c.args.bytes.now) (omega arith) in
    let counted : c.count.result ≡ length (take (prefix_len kind s) s) =
    count_from_yields_List c.take_while.result c.count.result c.count.ensures.ran
    (YieldsList-from_take_while _ kind (YieldsList-from_slice s from) c.take_while.ensures.closure c.take_while.ensures.done (λ x b q k. search (rules, tests, h))) in
    let here : c.count.result ≡ run kind s = rw (run_is kind s, ← length-prefix_len kind s) counted in
    record {
      place = rw here;
      onward = omega arith;
      inside = omega (arith, counted, part_length (prefix_len kind s) s, length-drop c.args.at c.args.bytes.now);
    }
