use Prim.Native.Nat.{◌+◌, ◌*◌, ◌^◌}
use Rattle.tree_node.proofs.+branch_children_node.Given as goal

abbrev pub decreases-branch : goal.decreases-branch
decreases-branch l = l.levels * 2 ^ 33 + 2 ^ 32 + 1

abbrev pub decreases-children : goal.decreases-children
decreases-children l = l.levels * 2 ^ 33 + l.count + 1

abbrev pub decreases-node : goal.decreases-node
decreases-node l = l.levels * 2 ^ 33
