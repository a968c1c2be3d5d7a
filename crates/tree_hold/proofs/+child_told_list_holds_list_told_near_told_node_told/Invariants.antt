use Prim.Native.Nat.{◌+◌, ◌*◌}
use lib.Dec.{eqb}
use Rattle.catalogue.specs.CataloguePlaces.{row_of}
use Rattle.tree.specs.Reader.{read_tree}
use Rattle.tree.proofs.Nodes.{Lasts}
use Rattle.tree_hold.proofs.+child_told_list_holds_list_told_near_told_node_told.Given as goal

abbrev pub decreases-node_told : goal.decreases-node_told
decreases-node_told l = l.levels * 5

abbrev pub decreases-child_told : goal.decreases-child_told
decreases-child_told l = l.levels * 5 + 1

abbrev pub decreases-list_told : goal.decreases-list_told
decreases-list_told l = l.levels * 5 + 2

abbrev pub decreases-near_told : goal.decreases-near_told
decreases-near_told l = l.levels * 5 + 3

abbrev pub decreases-list_holds : goal.decreases-list_holds
decreases-list_holds l = l.levels * 5 + 4

abbrev pub invariant-list_told-loop-left : goal.invariant-list_told-loop-left
invariant-list_told-loop-left l = Lasts (read_tree l.levels) l.kind l.unread (row_of l.catalogue l.row) l.left l.at (eqb l.kind 1)

abbrev pub invariant-list_holds-loop-more : goal.invariant-list_holds-loop-more
invariant-list_holds-loop-more l = Lasts (read_tree l.levels) l.kind l.unread (row_of l.catalogue l.row) l.more l.at (eqb l.kind 1)

abbrev pub decreases-list_told-loop-left : goal.decreases-list_told-loop-left
decreases-list_told-loop-left l = l.left

abbrev pub decreases-list_holds-loop-more : goal.decreases-list_holds-loop-more
decreases-list_holds-loop-more l = l.more
