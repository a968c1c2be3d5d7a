-- Laws of a text's units: none of those passed is zero, nor of blocks of them. Assumes nothing.
use mathlib.Core.Path.{◌≡◌, refl, sym, ap, ◌∙◌}
use mathlib.Core.Bool.{Bool, true, false, not, ◌&&◌}
use mathlib.Core.List.{List}
use Rattle.std.specs.Prelude.{None, Some}
use Prim.Native.Nat.{ℕ, ◌+◌, ◌-◌, ◌*◌, ◌/◌, ◌≤◌, ◌<◌}
use native.Mathlib.Omega.{arith}
use borrow.Author.Tests.{le-leb, lt-leb, ltb-true, ltb-false}
use lib.Dec.{eqb, ltb}
use lib.ListN.{length, take, drop}
use Rattle.lists.specs.Below.{pick, both, every_below}
use Rattle.wire.specs.Word.{number_at, halves}
use Rattle.lists.proofs.Below.{by_test, true≢false, both_left, both_right, both_true, every_at, every_shown, every_start, every_more, every_fewer, every_is}
use Rattle.wire.proofs.Halves.{halves_length, halves_at}
use Rattle.catalogue.specs.Plain.{none_zero}
use Rattle.catalogue.specs.NumberPlaces.{reading_at}
use Rattle.catalogue.specs.Limits.{size_most}
use Rattle.catalogue.specs.CataloguePlaces.{text_after_at, text_at, end_of, unit_bytes_of, unit_clear, clear_from}
use Rattle.catalogue.proofs.Inside.{reading_read}

-- a unit is by the number at its bytes
pub unit_at : (units : List ℕ) (i : ℕ) → 2 * i + 1 < length units → not (eqb (number_at 2 units (2 * i)) 0) ≡ unit_clear units i
unit_at units i h = ap (λ (u : ℕ). not (eqb u 0)) (sym (halves_at units i h))

-- none of the first n units is zero
abbrev pub clear_below : List ℕ → ℕ → Bool
clear_below units n = every_below n (unit_clear units)

pub clear_all : (units : List ℕ) (n : ℕ) → n ≡ length units / 2 → clear_below units n ≡ none_zero (halves units)
clear_all units n e = ap (clear_below units) (e ∙ sym (halves_length units))

clear_at : (units : List ℕ) (first n k : ℕ) → clear_from units first n ≡ true → first ≤ k → k < first + n → unit_clear units k ≡ true
clear_at units first n k e l h = ap (unit_clear units) here ∙ every_at n _ e (k - first) (omega arith)
  where
    here : k ≡ first + (k - first)
    here = omega arith

-- two blocks with one unit more of each
blocks_joined : (a b c d : Bool) → both c d && (b && a) ≡ both (both a c) (both b d)
blocks_joined true true true true = refl
blocks_joined true true true false = refl
blocks_joined true true false d = refl
blocks_joined true false true true = refl
blocks_joined true false true false = refl
blocks_joined true false false d = refl
blocks_joined false true true true = refl
blocks_joined false true true false = refl
blocks_joined false true false d = refl
blocks_joined false false true true = refl
blocks_joined false false true false = refl
blocks_joined false false false d = refl

pub blocks_more : (units : List ℕ) (first second i : ℕ) (clear one other : Bool) → clear ≡ both (clear_from units first i) (clear_from units second i)
    → one ≡ unit_clear units (first + i) → other ≡ unit_clear units (second + i)
    → clear && (other && one) ≡ both (clear_from units first (i + 1)) (clear_from units second (i + 1))
blocks_more units first second i clear one other e p q =
    rw (every_more i (λ k. unit_clear units (first + k)), every_more i (λ k. unit_clear units (second + k)), e, p, q)
    (blocks_joined (unit_clear units (first + i)) (unit_clear units (second + i)) (clear_from units first i) (clear_from units second i))

-- two blocks of a size that begin within the units passed and end at the n-th: all n units
pub clear_two : (units : List ℕ) (size passed first second n : ℕ) → clear_below units passed ≡ true → first ≤ passed → first ≤ second → second ≤ first + size → second + size ≡ n
    → both (clear_from units first size) (clear_from units second size) ≡ clear_below units n
clear_two units size passed first second n p f o m e = every_is _ n (unit_clear units) each part
  where
    each : both (clear_from units first size) (clear_from units second size) ≡ true → (k : ℕ) → k < n → unit_clear units k ≡ true
    each q k h =
        by_test (ltb k passed)
        (λ t. every_at passed (unit_clear units) p k (ltb-true k passed t))
        (λ t.
        by_test (ltb k (first + size))
        (λ r.
        clear_at units first size k (both_left _ (clear_from units second size) q)
        (omega (arith, ltb-false k passed t))
        (ltb-true k (first + size) r))
        (λ r.
        clear_at units second size k (both_right (clear_from units first size) _ q)
        (omega (arith, ltb-false k (first + size) r))
        (omega arith)))

    part : clear_below units n ≡ true → both (clear_from units first size) (clear_from units second size) ≡ true
    part q =
        both_true _ _
        (every_shown size _ (λ k h. every_at n (unit_clear units) q (first + k) (omega arith)))
        (every_shown size _ (λ k h. every_at n (unit_clear units) q (second + k) (omega arith)))

-- a zero unit among the first ones
pub clear_broken : (units : List ℕ) (m n : ℕ) → m ≤ n → clear_below units m ≡ false → clear_below units n ≡ false
clear_broken units m n h e =
    by_test (clear_below units n)
    (λ q. absurd (true≢false (sym (every_fewer m n (unit_clear units) h q) ∙ e)))
    (λ q. q)

-- the ways that the units of a text can be read: they run past the end; or they are there, and the answer is by the zero units
pub units_short : (s : List ℕ) (size start : ℕ) → start ≤ length s → length s < start + unit_bytes_of size → text_after_at s size start ≡ None
units_short s size start l h = rw (lt-leb (unit_bytes_of size) (length s - start) (omega arith))

pub units_there : (s : List ℕ) (size start end : ℕ) (clear : Bool) → end ≡ start + unit_bytes_of size → end ≤ length s
    → clear ≡ none_zero (halves (take (end - start) (drop start s)))
    → text_after_at s size start ≡ pick clear (Some (record { size = size; start = start }, end)) None
units_there s size start end clear e h q =
    rw (le-leb (unit_bytes_of size) (length s - start) (omega arith), q, e, same)
  where
    same : start + unit_bytes_of size - start ≡ unit_bytes_of size
    same = omega arith

-- the place after a text whose size was read
pub end_absent : (s : List ℕ) (at size start : ℕ) → reading_at size_most s at ≡ Some (size, start) → size ≡ 0 → Some start ≡ end_of (text_at s at)
unfolding text_at halves
end_absent s at size start e z = rw (e, z, units_there s 0 start start true (omega arith) (reading_read size_most s at size start e).inside (sym (none_of (start - start) (omega arith))))
  where
    none_of : (n : ℕ) → n ≡ 0 → none_zero (halves (take n (drop start s))) ≡ true
    none_of n h = rw h (every_start _)

pub end_short : (s : List ℕ) (at size start : ℕ) → reading_at size_most s at ≡ Some (size, start) → start ≤ length s → length s < start + unit_bytes_of size
    → None ≡ end_of (text_at s at)
unfolding text_at
end_short s at size start e l h = rw (e, units_short s size start l h)

module _ (s : List ℕ) (at size start end : ℕ) (e : reading_at size_most s at ≡ Some (size, start)) (p : end ≡ start + unit_bytes_of size) (h : end ≤ length s) where
  pub end_clear : true ≡ none_zero (halves (take (end - start) (drop start s))) → Some end ≡ end_of (text_at s at)
  unfolding text_at
  end_clear q = rw (e, units_there s size start end true p h q)

  pub end_zero : false ≡ none_zero (halves (take (end - start) (drop start s))) → None ≡ end_of (text_at s at)
  unfolding text_at
  end_zero q = rw (e, units_there s size start end false p h q)
