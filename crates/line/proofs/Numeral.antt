-- The fewest digits that hold a number are its decimal text. Assumes nothing.
use mathlib.Core.Path.{◌≡◌}
use mathlib.Core.Bool.{Bool, true, false}
use mathlib.Core.List.{[], ◌∷◌, ◌++◌}
use Prim.Native.Nat.{ℕ, zero, suc, ◌+◌, ◌*◌, ◌-◌, ◌/◌, ◌%◌, ◌^◌, ◌≤◌, ◌<◌}
use native.Mathlib.Nat.{pow-suc, div-lt_iff_lt-mul, le-div_iff_mul-le}
use native.Mathlib.Omega.{arith}
use lib.Dec.{ltb}
use lib.ListN.{length, length-append}
use borrow.Author.Tests.{lt-ltb, le-ltb}
use Rattle.lists.specs.Below.{pick}
use Rattle.io.specs.Digits.{last_digits, IsDigitCount}
use Rattle.line.specs.Text.{numeral}

-- a power of ten is no less than ten, but the first
tens : (i : ℕ) → 10 ≤ 10 ^ suc i
tens zero = omega arith
tens (suc i) = let e : 10 ^ suc (suc i) ≡ 10 ^ suc i * 10 = pow-suc 10 (suc i) in omega (arith, e, tens i)

pub numeral_is : (k j n : ℕ) → j ≤ k → IsDigitCount 10 1 n j → last_digits 10 j n ≡ numeral k n
unfolding numeral
numeral_is k zero n h f = absurd (omega (arith, f.0))
numeral_is zero (suc j) n h f = absurd (omega arith)
numeral_is (suc k) (suc zero) n h f =
    let small : n < 10 = f.1 in
    let same : n % 10 ≡ n = omega arith in
    rw (same, lt-ltb n 10 small)
numeral_is (suc k) (suc (suc i)) n h f =
    let less : suc (suc i) - 1 ≡ suc i = omega arith in
    let lesser : suc i - 1 ≡ i = omega arith in
    let low : 10 ^ suc i ≤ n = rw less at (f.2 (omega arith)) in
    let ten : 10 ≤ n = omega (arith, low, tens i) in
    let digit : n % 10 < 10 = omega arith in
    let high : n / 10 < 10 ^ suc i = (div-lt_iff_lt-mul {k = 10} {x = n} {y = 10 ^ suc i} (omega arith)).1 (rw pow-suc at f.1) in
    let more : last_digits 10 (suc i) (n / 10) ≡ numeral k (n / 10) = numeral_is k (suc i) (n / 10) (omega arith)
    (omega arith, high, λ _. rw lesser ((le-div_iff_mul-le {k = 10} {x = 10 ^ i} {y = n} (omega arith)).1 (rw pow-suc at low))) in
    rw (le-ltb n 10 ten, lt-ltb (n % 10) 10 digit, more)

-- and it has no more than so many
pub numeral_short : (k n : ℕ) → length (numeral k n) ≤ k
unfolding numeral
numeral_short zero n = omega arith
numeral_short (suc k) n = go (ltb n 10) (numeral_short k (n / 10))
  where
    go : (b : Bool) → length (numeral k (n / 10)) ≤ k → length (pick b ((48 + n) ∷ []) (numeral k (n / 10) ++ ((48 + n % 10) ∷ []))) ≤ suc k
    go true h = omega arith
    go false h = omega (arith, length-append (numeral k (n / 10)) ((48 + n % 10) ∷ []))
