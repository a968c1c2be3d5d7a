-- A store of one byte lays that byte. Assumes nothing.
use Rattle.wire.proofs.Lay.{stores}
use mathlib.Core.List.{◌∷◌, []}
use Rattle.wire_lay.proofs.lay_byte.Goals as goal

pub returns : goal.returns
returns c = stores c.args.reply.now c.args.at (c.args.value ∷ []) c.requires
