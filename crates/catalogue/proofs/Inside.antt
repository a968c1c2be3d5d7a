-- What a number that was read says of the bytes: how many it took, and that they were there. Assumes nothing.
use mathlib.Core.Path.{◌≡◌, refl, sym}
use mathlib.Core.List.{List, [], ◌∷◌}
use Rattle.std.specs.Prelude.{Option, None, Some}
use Prim.Native.Nat.{ℕ, zero, suc, ◌+◌, ◌-◌, ◌*◌, ◌^◌, ◌≤◌, ◌<◌}
use native.Mathlib.Omega.{arith}
use borrow.Author.Tests.{eqb-false, leb-true}
use lib.Dec.{ltb, leb, eqb}
use lib.ListN.{length, drop, length-drop}
use Rattle.lists.proofs.Below.{by_test}
use Rattle.lists.proofs.Options.{none≢some, pair_is}
use Rattle.catalogue.specs.Groups.{groups, further, within}
use Rattle.catalogue.specs.NumberPlaces.{placed, reading_at}

-- what the groups after a group must have held
pub further_inv : (low : ℕ) (g : Option (ℕ × ℕ)) (v n : ℕ) → further low g ≡ Some (v, n)
    → (r : ℕ × ℕ) × (g ≡ Some r) × (r.0 ≡ 0 → ⊥) × (v ≡ low + 128 * r.0) × (n ≡ r.1 + 1)
further_inv low None v n e = absurd (none≢some e)
further_inv low (Some r) v n e =
    by_test (eqb r.0 0)
    (λ q. absurd (none≢some (rw q at e)))
    (λ q.
    let t : Some (low + 128 * r.0, r.1 + 1) ≡ Some (v, n) = rw q at e in
    (r, refl, eqb-false r.0 0 q, sym (pair_is t).0, sym (pair_is t).1))

-- at least one byte, and no more than there are
pub groups_used : (s : List ℕ) (v n : ℕ) → groups s ≡ Some (v, n) → (0 < n) × (n ≤ length s)
unfolding groups
groups_used [] v n e = absurd (none≢some e)
groups_used (b ∷ s) v n e =
    by_test (ltb b 128)
    (λ q.
    let t : Some (b, 1) ≡ Some (v, n) = rw q at e in
    let m : 1 ≡ n = (pair_is t).1 in
    (omega arith, omega arith))
    (λ q.
    let f = further_inv (b - 128) (groups s) v n (rw q at e) in
    let u = groups_used s f.0.0 f.0.1 f.1 in
    (omega (arith, f.4), omega (arith, f.4, u.1)))

-- a value that k + 1 groups can hold takes no more of them: each further group stands for a factor of 128
groups_few : (k : ℕ) (s : List ℕ) (v n : ℕ) → groups s ≡ Some (v, n) → v < 128 * 128 ^ k → n ≤ k + 1
unfolding groups
groups_few k [] v n e h = absurd (none≢some e)
groups_few zero (b ∷ s) v n e h =
    by_test (ltb b 128)
    (λ q. let t : Some (b, 1) ≡ Some (v, n) = rw q at e in omega (arith, (pair_is t).1))
    (λ q. let f = further_inv (b - 128) (groups s) v n (rw q at e) in absurd (f.2 (omega (arith, f.3))))
groups_few (suc k) (b ∷ s) v n e h =
    by_test (ltb b 128)
    (λ q. let t : Some (b, 1) ≡ Some (v, n) = rw q at e in omega (arith, (pair_is t).1))
    (λ q.
    let f = further_inv (b - 128) (groups s) v n (rw q at e) in
    omega (arith, f.4, groups_few k s f.0.0 f.0.1 f.1 (omega (arith, f.3, h))))

-- a number that was read is at most the limit, and the place after it is past its own and within the bytes
pub record Read (limit : ℕ) (s : List ℕ) (at value next : ℕ) : Type 0 where
  pub small : value ≤ limit
  pub past : at < next
  pub inside : next ≤ length s

found : (limit : ℕ) (s : List ℕ) (at value next : ℕ) (r : ℕ × ℕ) → groups (drop at s) ≡ Some r → r.0 ≤ limit → ◌≡◌ {A = Option (ℕ × ℕ)} (Some (r.0, at + r.1)) (Some (value, next))
    → Read limit s at value next
found limit s at value next r p h e =
    let v : r.0 ≡ value = (pair_is e).0 in
    let n : at + r.1 ≡ next = (pair_is e).1 in
    let u = groups_used (drop at s) r.0 r.1 p in
    record {
      small = omega (arith, h);
      past = omega (arith, u.0);
      inside = omega (arith, u.0, u.1, length-drop at s);
    }

pub reading_read : (limit : ℕ) (s : List ℕ) (at value next : ℕ) → reading_at limit s at ≡ Some (value, next) → Read limit s at value next
unfolding reading_at
reading_read limit s at value next e = go (groups (drop at s)) refl e
  where
    go : (g : Option (ℕ × ℕ)) → groups (drop at s) ≡ g → placed at (within limit g) ≡ Some (value, next) → Read limit s at value next
    go None p q = absurd (none≢some q)
    go (Some r) p q =
        by_test (leb r.0 limit)
        (λ t. found limit s at value next r p (leb-true r.0 limit t) (rw t at q))
        (λ t. absurd (none≢some (rw t at q)))

-- below 2 to the 35th a number takes at most five bytes
pub reading_five : (limit : ℕ) (s : List ℕ) (at value next : ℕ) → limit < 2 ^ 35 → reading_at limit s at ≡ Some (value, next) → next ≤ at + 5
unfolding reading_at
reading_five limit s at value next l e = go (groups (drop at s)) refl e
  where
    go : (g : Option (ℕ × ℕ)) → groups (drop at s) ≡ g → placed at (within limit g) ≡ Some (value, next) → next ≤ at + 5
    go None p q = absurd (none≢some q)
    go (Some r) p q =
        by_test (leb r.0 limit)
        (λ t.
        let f : ◌≡◌ {A = Option (ℕ × ℕ)} (Some (r.0, at + r.1)) (Some (value, next)) = rw t at q in
        let n : at + r.1 ≡ next = (pair_is f).1 in
        omega (arith, n, groups_few 4 (drop at s) r.0 r.1 p (omega (arith, l, leb-true r.0 limit t))))
        (λ t. absurd (none≢some (rw t at q)))
