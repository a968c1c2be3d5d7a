-- The words before a place are those that are copied. Assumes nothing.
use Rattle.std.proofs.Common.{◌≡◌, ◌++◌}
use lib.ListN.{take, drop}
use Rattle.table_write.proofs.copy.Given as goal

abbrev pub invariant-loop-i : goal.invariant-loop-i
invariant-loop-i l = l.into ≡ take l.i l.from ++ drop l.i l.initial.into
