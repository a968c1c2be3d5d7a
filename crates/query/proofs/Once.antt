-- Any two outcomes that the statement of `judge` allows agree. Assumes nothing.
use mathlib.Core.Path.{◌≡◌, sym, ◌∙◌}
use mathlib.Core.List.{List}
use Rattle.std.specs.Prelude.{Option, Result}
use Prim.Native.Nat.{ℕ, zero, suc}
use native.Mathlib.Omega.{arith}
use Rattle.table.specs.Seat.{Seat}
use Rattle.refusal.specs.Refusal.{first_cause}
use Rattle.refusal.specs.declared.Refusal.{Refusal}
use Rattle.refusal.specs.Numbers.{number_of}
use Rattle.table.specs.declared.Handle.{Handle}
use Rattle.query.specs.Open.{open_causes, handle_in}
use Rattle.query.specs.OpenTold.{Judged}

-- the same refusal and the same handle
pub judged_once : (held : Option Seat) (tree : List ℕ) (r r' : Result Handle Refusal) → Judged held tree r → Judged held tree r'
    → (number_of r ≡ number_of r') × (handle_in r ≡ handle_in r')
judged_once held tree r r' j k = (j.refused ∙ sym k.refused, handles (first_cause (open_causes held tree)) j.refused k.refused)
  where
    handles : (n : ℕ) → number_of r ≡ n → number_of r' ≡ n → handle_in r ≡ handle_in r'
    handles zero p q = j.given p ∙ sym (k.given q)
    handles (suc n) p q =
        j.none_given (λ z. let e : 0 ≡ suc n = sym z ∙ p in omega (arith, e)) ∙ sym (k.none_given (λ z. let e : 0 ≡ suc n = sym z ∙ q in omega (arith, e)))
