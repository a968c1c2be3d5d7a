-- What the code says of a node: whether it holds, and the bytes that it takes.
use Rattle.std.specs.Prelude.{Bool, not, ℕ, eqb}
use Rattle.lists.specs.Below.{pick}
use Rattle.tree.specs.Kinds.{and_kind}
use Rattle.tree.specs.declared.Verdict.{Verdict}

abbrev pub told : Bool → ℕ → Verdict
told holds used = record { holds = holds; used = used }

-- the same bytes with the other answer
abbrev pub turned : Verdict → Verdict
turned verdict = told (not verdict.holds) verdict.used

-- a child that settles the answer of its list, whatever the others say: one that fails in an and, one that holds in an or
abbrev pub decides : ℕ → Bool → Bool
decides kind child = pick (eqb kind and_kind) (not child) child
