-- The bytes laid are those of the number. Assumes nothing.
use mathlib.Core.Path.{ap, ◌∙◌}
use Rattle.wire.specs.Laid.{lay}
use Rattle.wire.proofs.Encoded.{long_le}
use Rattle.wire_lay_word.proofs.lay_long.Goals as goal

pub returns : goal.returns
returns c =
    let a = c.args in
    c.lay_few.ensures ∙ ap (lay a.reply.now a.at) (c.to_le_bytes.ensures ∙ long_le a.value)
