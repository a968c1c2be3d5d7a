-- What a test over the numbers below n says, and what shows it. Assumes nothing.
use mathlib.Core.Path.{◌≡◌, refl, sym, ap, ◌∙◌}
use mathlib.Core.Bool.{Bool, true, false}
use mathlib.Core.Logic.{◌⊎◌, ⊎_elim}
use Prim.Native.Nat.{ℕ, zero, suc, ◌+◌, ◌≤◌, ◌<◌}
use native.Mathlib.Nat.{not-suc-le-zero, le_of_suc-le-suc, eq-or-lt_of_le}
use native.Mathlib.Numerals.{add-one}
use native.Mathlib.Omega.{arith}
use Rattle.lists.specs.Below.{both, some_below, every_below}

-- a proof for each value of a test
pub by_test {ℓ} : {P : Type ℓ} (b : Bool) → (b ≡ true → P) → (b ≡ false → P) → P
by_test true y n = y refl
by_test false y n = n refl

pub true≢false : true ≡ false → ⊥
true≢false e = let z : ◌≡◌ {A = ℕ} 0 1 = cc e in omega arith

pub both_left : (a b : Bool) → both a b ≡ true → a ≡ true
both_left true b e = refl
both_left false b e = absurd (true≢false (sym e))

pub both_right : (a b : Bool) → both a b ≡ true → b ≡ true
both_right true b e = e
both_right false b e = absurd (true≢false (sym e))

pub both_true : (a b : Bool) → a ≡ true → b ≡ true → both a b ≡ true
both_true a b p q = rw (p, q)

-- some number below n passes: the number, and that it does
pub some_found : (n : ℕ) (test : ℕ → Bool) → some_below n test ≡ true → (k : ℕ) × (k < n) × (test k ≡ true)
unfolding some_below
some_found zero test e = absurd (true≢false (sym e))
some_found (suc n) test e = by_test (test n) (λ q. (n, omega arith, q)) (λ q. up (some_found n test (rw q at e)))
  where
    up : (k : ℕ) × (k < n) × (test k ≡ true) → (k : ℕ) × (k < suc n) × (test k ≡ true)
    up f = (f.0, omega (arith, f.1), f.2)

pub some_shown : (n : ℕ) (test : ℕ → Bool) (k : ℕ) → k < n → test k ≡ true → some_below n test ≡ true
unfolding some_below
some_shown zero test k h e = absurd (not-suc-le-zero h)
some_shown (suc n) test k h e =
    by_test (test n)
    (λ q. rw q)
    (λ q. rw q (some_shown n test k (less (eq-or-lt_of_le (le_of_suc-le-suc h)) q) e))
  where
    less : (k ≡ n) ⊎ (k < n) → test n ≡ false → k < n
    less w q = ⊎_elim (λ (p : k ≡ n). absurd (true≢false (sym e ∙ ap test p ∙ q))) (λ (p : k < n). p) w

-- each number below n passes
pub every_at : (n : ℕ) (test : ℕ → Bool) → every_below n test ≡ true → (k : ℕ) → k < n → test k ≡ true
unfolding every_below
every_at zero test e k h = absurd (not-suc-le-zero h)
every_at (suc n) test e k h =
    ⊎_elim
    (λ (p : k ≡ n). ap test p ∙ both_left (test n) (every_below n test) e)
    (λ (p : k < n). every_at n test (both_right (test n) (every_below n test) e) k p)
    (eq-or-lt_of_le (le_of_suc-le-suc h))

pub every_shown : (n : ℕ) (test : ℕ → Bool) → ((k : ℕ) → k < n → test k ≡ true) → every_below n test ≡ true
unfolding every_below
every_shown zero test f = refl
every_shown (suc n) test f = both_true (test n) (every_below n test) (f n (omega arith)) (every_shown n test (λ k h. f k (omega arith)))

-- none below n passes, each below n passes: what a search has when it ends, and when it stops early
pub some_none : (n : ℕ) (test : ℕ → Bool) → ((k : ℕ) → k < n → test k ≡ false) → some_below n test ≡ false
unfolding some_below
some_none zero test f = refl
some_none (suc n) test f = rw (f n (omega arith)) (some_none n test (λ k h. f k (omega arith)))

pub every_broken : (n : ℕ) (test : ℕ → Bool) (k : ℕ) → k < n → test k ≡ false → every_below n test ≡ false
every_broken n test k h e = by_test (every_below n test) (λ q. absurd (true≢false (sym (every_at n test q k h) ∙ e))) (λ q. q)

-- fewer numbers pass where more do; and a flag that says as much as the test of each is that test
pub every_fewer : (m n : ℕ) (test : ℕ → Bool) → m ≤ n → every_below n test ≡ true → every_below m test ≡ true
every_fewer m n test h e = every_shown m test (λ k l. every_at n test e k (omega arith))

pub every_is : (a : Bool) (n : ℕ) (test : ℕ → Bool) → (a ≡ true → (k : ℕ) → k < n → test k ≡ true) → (every_below n test ≡ true → a ≡ true) → a ≡ every_below n test
every_is a n test f g =
    by_test a
    (λ q. q ∙ sym (every_shown n test (f q)))
    (λ q. by_test (every_below n test) (λ t. absurd (true≢false (sym (g t) ∙ q))) (λ t. q ∙ sym t))

-- one number more: what a loop that goes on has
pub every_more : (n : ℕ) (test : ℕ → Bool) → every_below (n + 1) test ≡ both (test n) (every_below n test)
unfolding every_below
every_more n test = rw add-one

pub every_next : (n : ℕ) (test : ℕ → Bool) → test n ≡ true → every_below (n + 1) test ≡ every_below n test
unfolding every_below
every_next n test e = rw (add-one, e)

pub every_next_not : (n : ℕ) (test : ℕ → Bool) → test n ≡ false → every_below (n + 1) test ≡ false
unfolding every_below
every_next_not n test e = rw (add-one, e)

pub every_start : (test : ℕ → Bool) → every_below 0 test ≡ true
unfolding every_below
every_start test = refl

-- tests in another order
pub both_assoc : (a b c : Bool) → both (both a b) c ≡ both a (both b c)
both_assoc true b c = refl
both_assoc false b c = refl

pub both_last : (a : Bool) → both a true ≡ a
both_last true = refl
both_last false = refl

pub both_swap : (a b c d : Bool) → both (both a b) (both c d) ≡ both (both a c) (both b d)
both_swap true b c d = both_middle b c d
  where
    both_middle : (b c d : Bool) → both b (both c d) ≡ both c (both b d)
    both_middle true true d = refl
    both_middle true false d = refl
    both_middle false true d = refl
    both_middle false false d = refl
both_swap false b c d = refl

-- one test after another: the first fails, or the others decide
pub both_stop : {a : Bool} (b : Bool) → a ≡ false → both a b ≡ false
both_stop b e = rw e

pub both_go : {a : Bool} (b : Bool) → a ≡ true → both a b ≡ b
both_go b e = rw e
