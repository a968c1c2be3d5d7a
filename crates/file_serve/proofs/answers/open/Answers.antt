-- The answer tells what the tree's digits open. Assumes nothing.
use Rattle.std.proofs.Common.{◌-◌, arith}
use Rattle.file.proofs.Serving.{loaded, served_open}
use Rattle.file_serve.proofs.answers.open.Goals as goal

pub returns-in-Ok : goal.returns-in-Ok
returns-in-Ok c =
    let l = c.load-size in
    let k = rw (loaded c.args.digits.now _ (l.result - 0) (omega (arith, l.ensures.counted))) at (rw l.ensures.laid at c.in-Ok.ensures) in
    served_open _ _ _ _ _ _ k c.put_open.ensures

pub returns-in-Err : goal.returns-in-Err
returns-in-Err c =
    let l = c.load-size in
    let k = rw (loaded c.args.digits.now _ (l.result - 0) (omega (arith, l.ensures.counted))) at (rw l.ensures.laid at c.in-Err.ensures) in
    served_open _ _ _ _ _ _ k (rw c.number_of-refusal.ensures at c.put_open-in-Err.ensures)
