use Rattle.std.proofs.Common.{◌≡◌, ◌-◌}
use Rattle.bindings.specs.BindingsPlaces.{columns_at, columns_on, keeping}
use Rattle.bindings_read.proofs.read_columns.Given as goal

-- the columns that are left leave of the records as they stand what all of them leave of those at first
abbrev pub invariant-loop-k : goal.invariant-loop-k
invariant-loop-k l = keeping 0 l.initial.records (columns_on l.count l.message columns_at) ≡ keeping l.k l.records (columns_on (l.count - l.k) l.message l.at)
