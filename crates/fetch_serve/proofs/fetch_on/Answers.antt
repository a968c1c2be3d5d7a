-- `fetch_serve::fetch_on` meets its contract: the request is judged, the rows are sent, and the cursor is moved past them. Assumes nothing.
use Rattle.fetch.proofs.Fetching.{early_refused, early_passed, late_refused, fetch_done}
use Rattle.fetch.proofs.Sending.{sent_most}
use Rattle.fetch.proofs.Facts.{count_most}
use Rattle.std.proofs.lemmas.Result.{err_from_is_err_and}
use native.Mathlib.Omega.{arith}
use mathlib.Core.Path.{sym}
use Rattle.fetch_serve.proofs.fetch_on.Goals as goal

pub returns-in_err-judge : goal.returns-in_err-judge
returns-in_err-judge c =
    let p = err_from_is_err_and c.from_residual.result c.from_residual.ensures.1 in
    rw (p.1, p.2) (early_refused c.args.cursor.now c.args.catalogue.now c.args.request _ c.args.reply.now c.in_err-judge.ensures)

pub returns-then-first_unfit : goal.returns-then-first_unfit
returns-then-first_unfit c = late_refused c.args.cursor.now c.args.catalogue.now c.args.request (early_passed c.args.cursor.now c.args.request c.in_ok-judge.ensures) c.args.reply.now (sym c.if-first_unfit.ensures)

pub overflow_cast-carried : goal.overflow_cast-carried
overflow_cast-carried c = omega (arith, c.send-carried.ensures.counted, sent_most _ _ _ _ _ c.requires, count_most _ _ _ _ _ c.requires)

pub overflow_add-position : goal.overflow_add-position
overflow_add-position c = omega (arith, c.send-carried.ensures.counted, sent_most _ _ _ _ _ c.requires, count_most _ _ _ _ _ c.requires)

pub returns : goal.returns
returns c = fetch_done c.args.cursor.now c.args.catalogue.now c.args.request (early_passed c.args.cursor.now c.args.request c.in_ok-judge.ensures) _ _ c.args.reply.now _ c.requires.held (sym c.if-first_unfit.ensures) c.send-carried.ensures.counted c.move_to.ensures c.send-carried.ensures.written
