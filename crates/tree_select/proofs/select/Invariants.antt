use mathlib.Core.Path.{◌≡◌}
use Prim.Native.Nat.{◌+◌, ◌≤◌}
use lib.ListN.{length}
use lib.Seq.{sets}
use Rattle.tree.proofs.SelectLaws.{left}
use Rattle.tree_select.proofs.select.Given as goal

abbrev pub invariant-loop-number : goal.invariant-loop-number
invariant-loop-number l =
    record {
      few : l.count ≤ l.number;
      room : length l.into ≡ length l.initial.into;
      counted : l.count + length (left l.tree l.catalogue l.number) ≡ length (left l.tree l.catalogue 0);
      laid : sets l.into l.count (left l.tree l.catalogue l.number) ≡ sets l.initial.into 0 (left l.tree l.catalogue 0);
    }
