-- Worked searches, by computation (01, "Numbers to check against", M8 to M10, and "Mistakes seen before": "Stopping a phrase
-- search at the first place that fails its right edge"). Assumes nothing.
use mathlib.Core.Path.{◌≡◌, refl}
use mathlib.Core.Bool.{true, false}
use mathlib.Core.List.{List, [], ◌∷◌}
use Prim.Native.Nat.{ℕ, ◌+◌, ◌≤◌}
use native.Mathlib.Omega.{arith}
use lib.ListN.{length}
use Rattle.lists.specs.Below.{some_below, every_below}
use Rattle.tree.specs.Phrase.{stands_at, starts_word, ends_word, occurs_at, occurs}
use Rattle.lists.proofs.Says.{says_not}
use Rattle.tree.proofs.Phrase.{occurs_says}
use Rattle.tree.specs.Examples.{start, starting, restart, re_start, re_starting_start, a_re_start_b}

-- M8: "start" in "starting", method 0 no, 1 yes
pub m8 : (occurs 0 start starting ≡ false) × (occurs 1 start starting ≡ true)
unfolding occurs occurs_at stands_at starts_word ends_word some_below every_below
m8 = (refl, refl)

-- M9: in "restart", neither
pub m9 : (occurs 0 start restart ≡ false) × (occurs 1 start restart ≡ false)
unfolding occurs occurs_at stands_at starts_word ends_word some_below every_below
m9 = (refl, refl)

-- M10: in "re start", both
pub m10 : (occurs 0 start re_start ≡ true) × (occurs 1 start re_start ≡ true)
unfolding occurs occurs_at stands_at starts_word ends_word some_below every_below
m10 = (refl, refl)

-- the first place that has the units fails its right edge, and a later one does not
pub later : (stands_at start re_starting_start 3 ≡ true)
    × (occurs_at 0 start re_starting_start 3 ≡ false)
    × (occurs 0 start re_starting_start ≡ true)
unfolding occurs occurs_at stands_at starts_word ends_word some_below every_below
later = (refl, refl, refl)

-- a phrase of two words, within others
pub two_words : (occurs 0 re_start a_re_start_b ≡ true) × (occurs 1 re_start a_re_start_b ≡ true)
unfolding occurs occurs_at stands_at starts_word ends_word some_below every_below
two_words = (refl, refl)

-- a phrase longer than the text does not occur, whatever the method: so a text of no units holds no phrase that has one
pub too_long : (m : ℕ) (p t : List ℕ) → length t + 1 ≤ length p → occurs m p t ≡ false
too_long m p t h = says_not (occurs m p t) (occurs_says m p t) (λ w. omega (arith, w.1.room))

pub empty_text : (m u : ℕ) (p : List ℕ) → occurs m (u ∷ p) [] ≡ false
empty_text m u p = too_long m (u ∷ p) [] (omega arith)
