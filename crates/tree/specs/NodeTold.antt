-- What the code answers of a tree that it reads: the bytes that a node takes and how many nodes may still come, or that there is none.
use Rattle.std.specs.Prelude.{Option, None, Some, ℕ, ◌+◌}
use Rattle.tree.specs.Reader.{TreeRead, ForestRead}

-- a node, and a list of children
abbrev pub node_answer : Option TreeRead → Option (ℕ × ℕ)
node_answer None = None
node_answer (Some r) = Some (r.used, r.nodes)

abbrev pub list_answer : Option ForestRead → Option (ℕ × ℕ)
list_answer None = None
list_answer (Some r) = Some (r.used, r.nodes)

-- the bytes that either takes (0 where there is none)
abbrev pub used_of : Option (ℕ × ℕ) → ℕ
used_of None = 0
used_of (Some (used, nodes)) = used

-- what is answered of what has so many bytes before it, which are taken with it: a not's head before its child, an and's or an or's before
-- its children, a child before those after it
abbrev pub with_before : ℕ → Option (ℕ × ℕ) → Option (ℕ × ℕ)
with_before n None = None
with_before n (Some (used, nodes)) = Some (n + used, nodes)
