-- Laws of answers by their numbers. Assumes nothing.
use mathlib.Core.Path.{◌≡◌, refl, sym, ap, ◌∙◌}
use Rattle.std.specs.Prelude.{Result, Ok, Err}
use Prim.Native.Nat.{ℕ, ◌<◌}
use native.Mathlib.Omega.{arith}
use Rattle.refusal.specs.declared.Refusal.{Refusal}
use Rattle.refusal.specs.Numbers.{refusal_number, refusing, number_of}

-- the numbers are 1 to 16
pub number_most : (r : Refusal) → refusal_number r < 17
number_most r = grind arith

pub number_least : (r : Refusal) → refusal_number r ≡ 0 → ⊥
number_least r e = grind arith

pub answer_most : {A : Type 0} (r : Result A Refusal) → number_of r < 17
answer_most (Ok a) = omega arith
answer_most (Err r) = number_most r

-- each number is that of its refusal
pub number_back : {A : Type 0} (r : Refusal) (a : A) → refusing (refusal_number r) a ≡ Err r
number_back r a = grind arith

pub number_given : {A : Type 0} (n : ℕ) (a : A) → n < 17 → number_of (refusing n a) ≡ n
number_given n a h = grind arith

-- an answer with a number, by its cases
pub refused_number : {A : Type 0} (n : ℕ) (a : A) (r : Refusal) → n < 17 → Err r ≡ refusing n a → n ≡ refusal_number r
refused_number n a r h e = sym (number_given n a h) ∙ ap number_of (sym e)

pub given_number : {A : Type 0} (n : ℕ) (a b : A) → n < 17 → Ok b ≡ refusing n a → n ≡ 0
given_number n a b h e = sym (number_given n a h) ∙ ap number_of (sym e)

pub given_is : {A : Type 0} (a b : A) → ◌≡◌ {A = Result A Refusal} (Ok a) (Ok b) → a ≡ b
given_is a b e = cc e

-- two refusals with the same number are the same
pub refusal_same : (r r' : Refusal) → refusal_number r ≡ refusal_number r' → r ≡ r'
refusal_same r r' e = of (sym (number_back r tt) ∙ ap (λ (n : ℕ). refusing n tt) e ∙ number_back r' tt)
  where
    of : {a b : Refusal} → ◌≡◌ {A = Result Unit Refusal} (Err a) (Err b) → a ≡ b
    of p = cc p

-- two answers with the same number and no value are the same
pub judged_same : (r r' : Result Unit Refusal) → number_of r ≡ number_of r' → r ≡ r'
judged_same (Ok a) (Ok b) e = refl
judged_same (Ok a) (Err r') e = absurd (number_least r' (sym e))
judged_same (Err r) (Ok a) e = absurd (number_least r e)
judged_same (Err r) (Err r') e = ap Err (refusal_same r r' e)

-- an answer that is no refusal
pub judged_default : (r : Result Unit Refusal) → ((x : Refusal) → r ≡ Err x → ⊥) → Ok tt ≡ r
judged_default (Ok a) n = refl
judged_default (Err x) n = absurd (n x refl)
