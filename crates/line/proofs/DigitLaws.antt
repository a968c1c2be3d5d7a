-- How digits are read one after the other. Assumes nothing.
use mathlib.Core.Path.{◌≡◌, refl, sym}
use mathlib.Core.Bool.{Bool, true, false, ◌&&◌, ◌||◌}
use mathlib.Core.List.{List, [], ◌∷◌, ◌++◌}
use Rattle.std.specs.Prelude.{None, Some, is_some}
use Rattle.std.specs.Char.{is_ascii_hexdigit}
use Rattle.std.specs.List.{list_all}
use Rattle.std.specs.Int.{IsOutOfRange}
use Rattle.std.specs.Simd.{first_chunks}
use mathlib.Core.Logic.{inl, inr}
use Prim.Native.Nat.{ℕ, zero, suc, ◌+◌, ◌-◌, ◌*◌, ◌/◌, ◌%◌, ◌≤◌, ◌<◌}
use native.Mathlib.Numerals.{add-one}
use native.Mathlib.Omega.{arith}
use lib.Dec.{eqb, leb}
use lib.ListN.{length, get_or, take, drop, set, drop_of_length-le}
use lib.Seq.{drop-cons, set_at, take-suc, append_snoc, length-take-le}
use borrow.Author.Tests.{le-leb, lt-leb}
use Rattle.lists.specs.Below.{pick, both}
use Rattle.lists.proofs.Below.{by_test}
use Rattle.line.specs.Runs.{same_bytes}
use Rattle.line.specs.Digits.{spelled, number_most, within, is_hex_digit, is_hex, is_dash, pair_byte, hex_bytes}

-- a value past the limit stays past it
pub stays_past : (s : List ℕ) (v : ℕ) → number_most < v → within (spelled v s) ≡ None
unfolding spelled
stays_past [] v h = rw (lt-leb v number_most h)
stays_past (b ∷ s) v h =
    by_test (both (leb 48 b) (leb b 57))
    (λ q. rw q (stays_past s (v * 10 + (b - 48)) (omega arith)))
    (λ q. rw q)

module _ (s : List ℕ) (v i : ℕ) (h : i < length s) where
  -- a byte that is no digit, and a digit
  pub no_digit : IsOutOfRange 48 57 (get_or s i 0) → within (spelled v (drop i s)) ≡ None
  unfolding spelled
  no_digit (inl below) = rw (drop-cons s i 0 h, lt-leb 48 (get_or s i 0) below)
  no_digit (inr above) = rw (drop-cons s i 0 h, le-leb 48 (get_or s i 0) (omega arith), lt-leb (get_or s i 0) 57 above)

  pub digit_more : 48 ≤ get_or s i 0 → get_or s i 0 ≤ 57 → spelled v (drop i s) ≡ spelled (v * 10 + (get_or s i 0 - 48)) (drop (i + 1) s)
  unfolding spelled
  digit_more m l = rw (add-one, drop-cons s i 0 h, le-leb 48 (get_or s i 0) m, le-leb (get_or s i 0) 57 l)

pub digits_end : (s : List ℕ) (v i : ℕ) → length s ≤ i → v ≤ number_most → within (spelled v (drop i s)) ≡ Some v
unfolding spelled
digits_end s v i h l = rw (drop_of_length-le s h, le-leb v number_most l)

-- what the library's test of a hex digit says
pub hexdigit_is : (b : ℕ) → is_ascii_hexdigit b ≡ is_hex_digit b
hexdigit_is b = rw (both_is (leb 48 b) (leb b 57), both_is (leb 65 b) (leb b 70), both_is (leb 97 b) (leb b 102)) (any (leb 48 b && leb b 57) (leb 65 b && leb b 70) (leb 97 b && leb b 102) _ _ _)
  where
    both_is : (p q : Bool) → both p q ≡ (p && q)
    both_is true q = refl
    both_is false q = refl

    any : (p q r : Bool) (x y z : ℕ) → ((p || q) || r) ≡ is_some (pick p (Some x) (pick q (Some y) (pick r (Some z) None)))
    any true q r x y z = refl
    any false true r x y z = refl
    any false false true x y z = refl
    any false false false x y z = refl

-- all of it is pairs where there is an even number of bytes and each is a digit
pub hex_all : (s : List ℕ) → is_hex s ≡ both (eqb (length s % 2) 0) (list_all is_hex_digit s)
unfolding is_hex
hex_all [] = refl
hex_all (a ∷ []) = refl
hex_all (a ∷ b ∷ s) =
    let even : suc (suc (length s)) % 2 ≡ length s % 2 = omega arith in
    rw (even, hex_all s) (apart (is_hex_digit a) (is_hex_digit b) (eqb (length s % 2) 0) (list_all is_hex_digit s))
  where
    apart : (a b e l : Bool) → both a (both b (both e l)) ≡ both e (a && (b && l))
    apart true true true l = refl
    apart true true false l = refl
    apart true false true l = refl
    apart true false false l = refl
    apart false b true l = refl
    apart false b false l = refl

-- the word of no bytes
pub dash_is : (s : List ℕ) → is_dash s ≡ same_bytes s (45 ∷ [])
unfolding is_dash same_bytes
dash_is [] = refl
dash_is (b ∷ []) = last (eqb b 45)
  where
    last : (t : Bool) → t ≡ both t true
    last true = refl
    last false = refl
dash_is (b ∷ a ∷ s) = last (eqb b 45)
  where
    last : (t : Bool) → false ≡ both t false
    last true = refl
    last false = refl

-- the bytes that pairs spell: how many, and which stands where
pub hex_count : (s : List ℕ) → length (hex_bytes s) ≡ length s / 2
unfolding hex_bytes
hex_count [] = refl
hex_count (a ∷ []) = refl
hex_count (a ∷ b ∷ s) = let e = hex_count s in omega arith

-- a byte is what a pair spells
pub hex_at : (s : List ℕ) (k i : ℕ) → k ≡ length s / 2 → i < k → get_or (hex_bytes s) i 0
    ≡ pair_byte (get_or (get_or (first_chunks 2 k s) i []) 0 0) (get_or (get_or (first_chunks 2 k s) i []) 1 0)
unfolding hex_bytes
hex_at s zero i e h = absurd (omega arith)
hex_at [] (suc k) i e h = absurd (omega arith)
hex_at (a ∷ []) (suc k) i e h = absurd (omega arith)
hex_at (a ∷ b ∷ s) (suc k) zero e h = refl
hex_at (a ∷ b ∷ s) (suc k) (suc i) e h = hex_at s k i (omega arith) (omega arith)

-- one more of a list laid over another
pub laid_more : (h d : List ℕ) (i : ℕ) → i < length h → i < length d → set (take i h ++ drop i d) i (get_or h i 0) ≡ take (i + 1) h ++ drop (i + 1) d
laid_more h d i p q =
    rw (add-one, drop-cons d i 0 q, set_at (take i h) (get_or d i 0) (drop (suc i) d) (get_or h i 0) i (length-take-le i h (omega arith)), take-suc h i 0 p)
    (sym (append_snoc (take i h) (get_or h i 0) (drop (suc i) d)))
