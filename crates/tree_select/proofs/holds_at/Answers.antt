-- The row is there, so what holds of its fields is what is asked. Assumes nothing.
use Rattle.catalogue.proofs.RowLaws.{seen_stand}
use Rattle.tree_select.proofs.holds_at.Goals as goal

pub holds-requires : goal.holds-requires
holds-requires c =
    (c.requires.0, rw c.fields_at-row.ensures (seen_stand c.args.catalogue.now c.args.place))
