-- What is left to read once some groups are passed: the groups so far have a value, the next one has a weight, and the groups
-- to come may hold at most the room. Assumes nothing.
use mathlib.Core.Path.{◌≡◌, refl, ap, ap₂, ◌∙◌}
use mathlib.Core.List.{List}
use Rattle.std.specs.Prelude.{Option, None, Some}
use Prim.Native.Nat.{ℕ, ◌+◌, ◌-◌, ◌*◌, ◌/◌, ◌≤◌, ◌<◌}
use native.Mathlib.Nat.{mul-le-mul_left}
use native.Mathlib.Omega.{arith}
use native.Mathlib.Numerals.{add-one}
use borrow.Author.Tests.{lt-ltb, le-ltb, le-leb, lt-leb, leb-true, leb-false, ne_eqb, eqb-false}
use lib.Dec.{leb, eqb}
use lib.ListN.{length, get_or, drop, drop_of_length-le}
use lib.Seq.{drop-cons}
use Rattle.lists.specs.Below.{pick}
use Rattle.lists.proofs.Below.{by_test}
use Rattle.catalogue.specs.Groups.{groups, further, within}
use Rattle.catalogue.specs.NumberPlaces.{placed, reading_at}

abbrev pub carry : ℕ → ℕ → ℕ → ℕ → Option (ℕ × ℕ) → Option (ℕ × ℕ)
carry value weight room i None = None
carry value weight room i (Some r) =
    pick (eqb r.0 0) None (pick (leb r.0 room) (Some (value + weight * r.0, i + r.1)) None)

-- a group with its top bit set, which the room takes
pub carry_more : (value weight room i bits : ℕ) (more : Option (ℕ × ℕ)) → bits ≤ room
    → carry value weight room i (further bits more) ≡ carry (value + weight * bits) (weight * 128) ((room - bits) / 128) (i + 1) more
carry_more value weight room i bits None h = refl
carry_more value weight room i bits (Some r) h =
    by_test (eqb r.0 0)
    (λ q. rw q)
    (λ q.
    rw (q, ne_eqb (bits + 128 * r.0) 0 (λ e. eqb-false r.0 0 q (omega arith)))
    (by_test (leb r.0 ((room - bits) / 128))
    (λ t.
    rw (t, le-leb (bits + 128 * r.0) room (omega (arith, leb-true r.0 ((room - bits) / 128) t)))
    (ap₂ (λ (v n : ℕ). Some (v, n)) (omega arith) (omega arith)))
    (λ t. rw (t, lt-leb (bits + 128 * r.0) room (omega (arith, leb-false r.0 ((room - bits) / 128) t))))))

-- one that the room does not take
pub carry_over : (value weight room i bits : ℕ) (more : Option (ℕ × ℕ)) → room < bits → carry value weight room i (further bits more) ≡ None
carry_over value weight room i bits None h = refl
carry_over value weight room i bits (Some r) h =
    by_test (eqb r.0 0)
    (λ q. rw q)
    (λ q.
    rw (q, ne_eqb (bits + 128 * r.0) 0 (λ e. eqb-false r.0 0 q (omega arith)), lt-leb (bits + 128 * r.0) room (omega arith)))

-- no room at all: groups to come hold at least one
pub carry_full : (value weight i : ℕ) (more : Option (ℕ × ℕ)) → carry value weight 0 i more ≡ None
carry_full value weight i None = refl
carry_full value weight i (Some r) =
    by_test (eqb r.0 0)
    (λ q. rw q)
    (λ q. rw (q, lt-leb r.0 0 (omega (arith, eqb-false r.0 0 q))))

-- nothing passed yet
pub carry_start : (limit at low : ℕ) (more : Option (ℕ × ℕ)) → placed at (within limit (further low more)) ≡ carry 0 1 limit at (further low more)
carry_start limit at low None = refl
carry_start limit at low (Some r) =
    by_test (eqb r.0 0)
    (λ q. rw q)
    (λ q.
    rw (q, ne_eqb (low + 128 * r.0) 0 (λ e. eqb-false r.0 0 q (omega arith)))
    (by_test (leb (low + 128 * r.0) limit) (λ t. rw t (ap₂ (λ (v n : ℕ). Some (v, n)) (omega arith) refl)) (λ t. rw t)))

pub carry_begin : (limit at low : ℕ) (more : Option (ℕ × ℕ)) → low ≤ limit
    → placed at (within limit (further low more)) ≡ carry low 128 ((limit - low) / 128) (at + 1) more
carry_begin limit at low more h =
    carry_start limit at low more
    ∙ carry_more 0 1 limit at low more h
    ∙ ap (λ (v : ℕ). carry v 128 ((limit - low) / 128) (at + 1) more) (omega arith)

pub begin_over : (limit at low : ℕ) (more : Option (ℕ × ℕ)) → limit < low → placed at (within limit (further low more)) ≡ None
begin_over limit at low more h = carry_start limit at low more ∙ carry_over 0 1 limit at low more h

pub begin_full : (limit at low : ℕ) (more : Option (ℕ × ℕ)) → low ≤ limit → (limit - low) / 128 ≡ 0 → placed at (within limit (further low more)) ≡ None
begin_full limit at low more h e = carry_begin limit at low more h ∙ rw e (carry_full low 128 (at + 1) more)

-- what the bytes from a place on begin with
pub groups_end : (s : List ℕ) (i : ℕ) → length s ≤ i → groups (drop i s) ≡ None
unfolding groups
groups_end s i h = rw (drop_of_length-le s h)

pub groups_last : (s : List ℕ) (i : ℕ) → i < length s → get_or s i 0 < 128 → groups (drop i s) ≡ Some (get_or s i 0, 1)
unfolding groups
groups_last s i h b = rw (drop-cons s i 0 h, lt-ltb (get_or s i 0) 128 b)

pub groups_more : (s : List ℕ) (i : ℕ) → i < length s → 128 ≤ get_or s i 0 → groups (drop i s) ≡ further (get_or s i 0 - 128) (groups (drop (i + 1) s))
unfolding groups
groups_more s i h b = rw (add-one, drop-cons s i 0 h, le-ltb (get_or s i 0) 128 b)

-- a group with its top bit set before groups that do not hold zero
pub groups_on : (s : List ℕ) (i j v n : ℕ) → j ≡ i + 1 → i < length s → 128 ≤ get_or s i 0 → groups (drop j s) ≡ Some (v, n) → (v ≡ 0 → ⊥)
    → groups (drop i s) ≡ Some (get_or s i 0 - 128 + 128 * v, n + 1)
groups_on s i j v n p h b e z = groups_more s i h b ∙ rw (← p, e, ne_eqb v 0 z)

-- the ways a step can go: the bytes end; a last group; a group with its top bit set
module _ (value weight room : ℕ) (s : List ℕ) (i : ℕ) where
  pub carry_end : length s ≤ i → carry value weight room i (groups (drop i s)) ≡ None
  carry_end h = rw (groups_end s i h)

  pub carry_zero : i < length s → get_or s i 0 ≡ 0 → carry value weight room i (groups (drop i s)) ≡ None
  carry_zero h e = rw (groups_last s i h (omega arith), e)

  pub carry_last_over : i < length s → get_or s i 0 < 128 → room < get_or s i 0 → carry value weight room i (groups (drop i s)) ≡ None
  carry_last_over h b o = rw (groups_last s i h b, ne_eqb (get_or s i 0) 0 (λ e. omega arith), lt-leb (get_or s i 0) room o)

  pub carry_last : i < length s → get_or s i 0 < 128 → (get_or s i 0 ≡ 0 → ⊥) → get_or s i 0 ≤ room
      → carry value weight room i (groups (drop i s)) ≡ Some (value + weight * get_or s i 0, i + 1)
  carry_last h b n o = rw (groups_last s i h b, ne_eqb (get_or s i 0) 0 n, le-leb (get_or s i 0) room o)

  pub carry_group_over : i < length s → 128 ≤ get_or s i 0 → room < get_or s i 0 - 128 → carry value weight room i (groups (drop i s)) ≡ None
  carry_group_over h b o = rw (groups_more s i h b) (carry_over value weight room i (get_or s i 0 - 128) (groups (drop (i + 1) s)) o)

  pub carry_group : i < length s → 128 ≤ get_or s i 0 → get_or s i 0 - 128 ≤ room
      → carry value weight room i (groups (drop i s))
      ≡ carry (value + weight * (get_or s i 0 - 128)) (weight * 128) ((room - (get_or s i 0 - 128)) / 128) (i + 1) (groups (drop (i + 1) s))
  carry_group h b o = rw (groups_more s i h b) (carry_more value weight room i (get_or s i 0 - 128) (groups (drop (i + 1) s)) o)

  pub carry_group_full : i < length s → 128 ≤ get_or s i 0 → get_or s i 0 - 128 ≤ room → (room - (get_or s i 0 - 128)) / 128 ≡ 0
      → carry value weight room i (groups (drop i s)) ≡ None
  carry_group_full h b o e =
      carry_group h b o
      ∙ rw e (carry_full (value + weight * (get_or s i 0 - 128)) (weight * 128) (i + 1) (groups (drop (i + 1) s)))

-- what the groups to come add stays within the limit, and so does their weight
pub added_fits : (value weight room limit bits : ℕ) → value + weight * room ≤ limit → bits ≤ room → value + weight * bits ≤ limit
added_fits value weight room limit bits h b = omega (arith, mul-le-mul_left weight b)

pub room_kept : (value weight room limit bits left : ℕ) → value + weight * room ≤ limit → bits + 128 * left ≤ room
    → value + weight * bits + weight * 128 * left ≤ limit
room_kept value weight room limit bits left h b = omega (arith, mul-le-mul_left weight b)

pub weight_fits : (value weight limit left : ℕ) → value + weight * left ≤ limit → 1 ≤ left → weight ≤ limit
weight_fits value weight limit left h b = omega (arith, mul-le-mul_left weight b)

-- the ways that reading a number at a place can go
module _ (limit : ℕ) (s : List ℕ) (at : ℕ) where
  pub reading_end_lem : length s ≤ at → reading_at limit s at ≡ None
  unfolding reading_at
  reading_end_lem h = rw (groups_end s at h)

  pub reading_over : at < length s → get_or s at 0 < 128 → limit < get_or s at 0 → reading_at limit s at ≡ None
  unfolding reading_at
  reading_over h b o = rw (groups_last s at h b, lt-leb (get_or s at 0) limit o)

  pub reading_one : at < length s → get_or s at 0 < 128 → get_or s at 0 ≤ limit → reading_at limit s at ≡ Some (get_or s at 0, at + 1)
  unfolding reading_at
  reading_one h b o = rw (groups_last s at h b, le-leb (get_or s at 0) limit o)

  pub reading_more : at < length s → 128 ≤ get_or s at 0
      → reading_at limit s at ≡ placed at (within limit (further (get_or s at 0 - 128) (groups (drop (at + 1) s))))
  unfolding reading_at
  reading_more h b = rw (groups_more s at h b)

  pub reading_groups : (value count : ℕ) → groups (drop at s) ≡ Some (value, count) → value ≤ limit → reading_at limit s at ≡ Some (value, at + count)
  unfolding reading_at
  reading_groups value count e o = rw (e, le-leb value limit o)
