-- The bytes laid are those of the number's low part. Assumes nothing.
use mathlib.Core.Path.{ap, ◌∙◌}
use Rattle.wire.specs.Laid.{lay}
use Rattle.wire.proofs.Encoded.{bytes_le}
use Rattle.wire_lay_word.proofs.lay_half.Goals as goal

pub returns : goal.returns
returns c =
    let a = c.args in
    c.lay_few.ensures ∙ ap (lay a.reply.now a.at) (c.to_le_bytes.ensures ∙ bytes_le 2 a.value)
