-- The answer tells the reply alone. Assumes nothing.
use mathlib.Core.Path.{ap, ◌∙◌}
use Rattle.std.proofs.Common.{length}
use Rattle.message.specs.Message.{count_of}
use Rattle.file.proofs.Serving.{served_message}
use Rattle.file_serve.proofs.answers.reply.Goals as goal

pub returns-in-Ok : goal.returns-in-Ok
returns-in-Ok c =
    let n = length c.args.space.now in
    let k = rw c.fill.auto.reply at c.in-Ok.ensures in
    let q = c.count-count.ensures ∙ ap count_of c.in-Ok.is in
    served_message _ _ _ _ _ _ _ n _ _ c.requires.0 c.fill.ensures k c.message-answered.auto.reply (rw q at c.put_message.ensures)

pub returns-in-Err : goal.returns-in-Err
returns-in-Err c =
    let n = length c.args.space.now in
    let k = rw c.fill.auto.reply at c.in-Err.ensures in
    let q = c.count-count.ensures ∙ ap count_of c.in-Err.is in
    served_message _ _ _ _ _ _ _ n _ _ c.requires.0 c.fill.ensures k c.message-answered.auto.reply (rw (c.number_of-refusal.ensures, q) at c.put_message-in-Err.ensures)
