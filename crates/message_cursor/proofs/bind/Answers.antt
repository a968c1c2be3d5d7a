-- `message_cursor::bind` meets its contract: the body is read to values, the handle and the bindings are judged, then the cursor is bound. Assumes nothing.
use Rattle.refusal.specs.declared.Refusal.TheVariants.{BodyMalformed}
use Rattle.refusal.proofs.Numbers.{refused_number, given_number, judged_default}
use mathlib.Core.Bool.{false}
use mathlib.Core.Path.{sym, ◌∙◌}
use Rattle.message.proofs.Answering.{refused_by_lem}
use Rattle.message.proofs.Binding.{unread_causes, found_causes, found_under, found_answers}
use Rattle.message_cursor.proofs.bind.Goals as goal

pub returns-in_default : goal.returns-in_default
returns-in_default c = λ rows.
    let b = c.args.seat.now in
    let m = c.args.message.now in
    refused_by_lem b m c.args.reply.now c.args.msg 3 c.requires rows BodyMalformed
    (sym (unread_causes b m c.args.reply.now c.args.msg c.requires rows _ (rw c.in_default.is at c.read.ensures)))
    _ _ _ c.refuse_for.ensures

pub returns-in-Err : goal.returns-in-Err
returns-in-Err c = λ rows.
    let b = c.args.seat.now in
    let m = c.args.message.now in
    refused_by_lem b m c.args.reply.now c.args.msg 3 c.requires rows c.in-Err.refusal
    (sym (found_causes b m c.args.reply.now c.args.msg c.requires rows _ _ (rw c.in-Some.is at c.read.ensures) _ _ c.is_open-opens.ensures c.fit-fits.ensures)
    ∙ refused_number _ tt c.in-Err.refusal (found_under false c.is_open-opens.result c.fit-fits.result) c.in-Err.ensures)
    _ _ _ c.refuse_for-in-Err.ensures

pub returns : goal.returns
returns c = λ rows.
    found_answers c.args.seat.now c.args.message.now c.args.reply.now c.args.msg c.requires rows _ _ (rw c.in-Some.is at c.read.ensures) _ _ c.is_open-opens.ensures c.fit-fits.ensures
    (given_number _ tt tt (found_under false c.is_open-opens.result c.fit-fits.result) (judged_default c.first_of.result c.in_default-first_of.not-Err ∙ c.first_of.ensures)) _ _ c.rebind.ensures c.lay_header.ensures
