-- `table_write::connect` meets its contract: the words of an unconnected seat, with two of them set. Assumes nothing.
use Rattle.table.proofs.Writes.{connect_words}
use Rattle.table_write.proofs.connect.Goals as goal

pub returns : goal.returns
returns c = connect_words c.args.seat.now c.args.version c.requires
