use Prim.Native.Nat.{◌+◌, ◌-◌, ◌*◌}
use Rattle.tree.proofs.Nodes.{Goes}
use Rattle.tree_size.proofs.+list_end_node_size.Given as goal

abbrev pub decreases-list_end : goal.decreases-list_end
decreases-list_end l = l.levels * 2 + 1

abbrev pub decreases-node_size : goal.decreases-node_size
decreases-node_size l = l.levels * 2

abbrev pub invariant-list_end-loop-measured : goal.invariant-list_end-loop-measured
invariant-list_end-loop-measured l = Goes l.unread l.levels l.count l.from (l.count - l.measured) l.at
