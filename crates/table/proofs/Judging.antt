-- Laws that the judgement of a table uses. Assumes nothing.
use mathlib.Core.Path.{◌≡◌}
use mathlib.Core.Bool.{Bool, true, false}
use mathlib.Core.List.{List}
use Prim.Native.Nat.{ℕ, ◌≤◌}
use native.Mathlib.Omega.{arith}
use borrow.Author.Tests.{eq-eqb, ne_eqb}
use Rattle.bindings.specs.Column.{columns_of, columns_most}
use Rattle.bindings.specs.Fit.{fit}
use Rattle.bindings.proofs.Columns.{from_length}
use Rattle.bindings.proofs.Sound.{fit_sound}
use Rattle.table.specs.Well.{by_flag}

-- fit bindings have at most five columns
pub fit_count : (width n : ℕ) (records : List ℕ) → fit width (columns_of n records) ≡ true → n ≤ columns_most
fit_count width n records e = omega (arith, (fit_sound width (columns_of n records) e).count.1, from_length n 0 records)

-- the three ways that a flag can be
pub flag_unset : (flag : ℕ) (unset set : Bool) → flag ≡ 0 → by_flag flag unset set ≡ unset
flag_unset flag unset set e = rw (eq-eqb flag 0 e)

pub flag_set : (flag : ℕ) (unset set : Bool) → flag ≡ 1 → by_flag flag unset set ≡ set
flag_set flag unset set e = rw e

pub flag_bad : (flag : ℕ) (unset set : Bool) → (flag ≡ 0 → ⊥) → (flag ≡ 1 → ⊥) → by_flag flag unset set ≡ false
flag_bad flag unset set z o = rw (ne_eqb flag 0 z, ne_eqb flag 1 o)
