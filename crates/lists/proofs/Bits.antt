-- Numbers joined bit by bit are zero where each of them is. Assumes nothing.
use mathlib.Core.Path.{◌≡◌}
use Prim.Native.Nat.{ℕ, ◌≤◌}
use native.Mathlib.Omega.{arith}
use lib.Bits.{bit_or, or_add_and, and_le_l, and_le_r, or_zero_l}
use lib.Dec.{eqb}
use borrow.Author.Tests.{eqb-true, eqb-false, ne_eqb}
use Rattle.lists.specs.Below.{both}
use Rattle.lists.proofs.Below.{by_test}

-- what is joined is at least each of the two
or_left : (a b : ℕ) → a ≤ bit_or a b
or_left a b = omega (arith, or_add_and a b, and_le_r a b)

or_right : (a b : ℕ) → b ≤ bit_or a b
or_right a b = omega (arith, or_add_and a b, and_le_l a b)

pub or_zero : (a b : ℕ) → eqb (bit_or a b) 0 ≡ both (eqb b 0) (eqb a 0)
or_zero a b =
    by_test (eqb b 0)
    (λ q.
    by_test (eqb a 0)
    (λ p. rw (p, q, eqb-true a 0 p, or_zero_l b) q)
    (λ p. rw (p, q) (ne_eqb (bit_or a b) 0 λ e. eqb-false a 0 p (omega (arith, e, or_left a b)))))
    (λ q. rw q (ne_eqb (bit_or a b) 0 λ e. eqb-false b 0 q (omega (arith, e, or_right a b))))
