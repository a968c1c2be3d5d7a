use Rattle.std.proofs.Common.{◌≡◌, ◌++◌, take, drop}
use Rattle.line.specs.Digits.{hex_bytes}
use Rattle.line_word.proofs.hex_bytes.Given as goal

abbrev pub invariant-loop-i : goal.invariant-loop-i
invariant-loop-i l = l.out ≡ take l.i (hex_bytes l.digits) ++ drop l.i l.initial.out
