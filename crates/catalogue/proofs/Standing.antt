-- A number that is known to stand at a place is told by its groups: neither the end of the bytes nor the limit is asked for
-- again. Assumes nothing.
use mathlib.Core.Path.{◌≡◌, ap, ap₂, ◌∙◌}
use mathlib.Core.List.{List}
use Rattle.std.specs.Prelude.{Option, None, Some}
use Prim.Native.Nat.{ℕ, ◌+◌, ◌-◌, ◌*◌, ◌≤◌, ◌<◌}
use native.Mathlib.Omega.{arith}
use lib.Dec.{leb, eqb}
use borrow.Author.Tests.{leb-true, leb-false, eqb-false, ne_eqb}
use lib.ListN.{length, get_or, drop}
use Rattle.lists.proofs.Below.{by_test}
use Rattle.lists.proofs.Options.{none≢some}
use Rattle.catalogue.specs.Groups.{groups, further}
use Rattle.catalogue.specs.NumberPlaces.{placed, reading_at}
use Rattle.catalogue.specs.CatalogueReady.{NumberAtReady}
use Rattle.catalogue.proofs.Carry.{groups_end, groups_last, groups_more}
use Rattle.catalogue.proofs.Inside.{reading_read}

module _ (limit : ℕ) (s : List ℕ) (at : ℕ) (there : NumberAtReady limit s at) where
  -- its groups have a value, which is its own
  of_groups : (g : Option (ℕ × ℕ)) → groups (drop at s) ≡ g → placed at g ≡ reading_at limit s at
  unfolding reading_at
  of_groups None p = rw p
  of_groups (Some r) p =
      by_test (leb r.0 limit)
      (λ t. rw (p, t))
      (λ t. absurd (none≢some (rw (p, t) at there.2)))

  pub first_inside : at < length s
  first_inside = let r = reading_read limit s at there.0 there.1 there.2 in omega (arith, r.past, r.inside)

  pub one_standing : get_or s at 0 < 128 → Some (get_or s at 0, at + 1) ≡ reading_at limit s at
  one_standing b = of_groups (Some (get_or s at 0, 1)) (groups_last s at first_inside b)

  pub second_inside : 128 ≤ get_or s at 0 → at + 2 ≤ length s
  second_inside b = by_test (leb (at + 2) (length s)) (λ t. leb-true (at + 2) (length s) t) (λ t. absurd (none≢some (cut (leb-false (at + 2) (length s) t) ∙ there.2)))
    where
      cut : length s < at + 2 → None ≡ reading_at limit s at
      cut h = of_groups None (groups_more s at first_inside b ∙ ap (further (get_or s at 0 - 128)) (groups_end s (at + 1) (omega arith)))

  pub two_standing : 128 ≤ get_or s at 0 → get_or s (at + 1) 0 < 128 → Some (get_or s at 0 - 128 + get_or s (at + 1) 0 * 128, at + 2) ≡ reading_at limit s at
  two_standing a b =
      by_test (eqb (get_or s (at + 1) 0) 0)
      (λ t. absurd (none≢some (of_groups None (two ∙ rw t) ∙ there.2)))
      (λ t. ap₂ (λ (v n : ℕ). Some (v, n)) (omega arith) (omega arith) ∙ of_groups (Some (get_or s at 0 - 128 + 128 * get_or s (at + 1) 0, 2)) (two ∙ rw t))
    where
      two : groups (drop at s) ≡ further (get_or s at 0 - 128) (Some (get_or s (at + 1) 0, 1))
      two = groups_more s at first_inside a ∙ ap (further (get_or s at 0 - 128)) (groups_last s (at + 1) (omega (arith, second_inside a)) b)

  -- two groups with their top bits set, and what comes after them
  after_two : 128 ≤ get_or s at 0 → 128 ≤ get_or s (at + 1) 0 → (g : Option (ℕ × ℕ)) → groups (drop (at + 2) s) ≡ g
      → groups (drop at s) ≡ further (get_or s at 0 - 128) (further (get_or s (at + 1) 0 - 128) g)
  after_two a b g e =
      let on : at + 1 + 1 ≡ at + 2 = omega arith in
      groups_more s at first_inside a
      ∙ ap (further (get_or s at 0 - 128))
      (groups_more s (at + 1) (omega (arith, second_inside a)) b
      ∙ ap (further (get_or s (at + 1) 0 - 128)) (ap (λ (i : ℕ). groups (drop i s)) on ∙ e))

  pub third_inside : 128 ≤ get_or s at 0 → 128 ≤ get_or s (at + 1) 0 → at + 3 ≤ length s
  third_inside a b = by_test (leb (at + 3) (length s)) (λ t. leb-true (at + 3) (length s) t) (λ t. absurd (none≢some (cut (leb-false (at + 3) (length s) t) ∙ there.2)))
    where
      cut : length s < at + 3 → None ≡ reading_at limit s at
      cut h = of_groups None (after_two a b None (groups_end s (at + 2) (omega arith)))

  pub three_standing : 128 ≤ get_or s at 0 → 128 ≤ get_or s (at + 1) 0 → get_or s (at + 2) 0 < 128
      → Some (get_or s at 0 - 128 + (get_or s (at + 1) 0 - 128) * 128 + get_or s (at + 2) 0 * 16384, at + 3) ≡ reading_at limit s at
  three_standing a b d =
      by_test (eqb (get_or s (at + 2) 0) 0)
      (λ t. absurd (none≢some (of_groups None (three ∙ rw t) ∙ there.2)))
      (λ t.
      ap₂ (λ (v n : ℕ). Some (v, n)) (omega arith) (omega arith)
      ∙ of_groups (Some (get_or s at 0 - 128 + 128 * (get_or s (at + 1) 0 - 128 + 128 * get_or s (at + 2) 0), 3)) (three ∙ rw (t, ne_eqb (get_or s (at + 1) 0 - 128 + 128 * get_or s (at + 2) 0) 0 (λ z. omega (arith, eqb-false (get_or s (at + 2) 0) 0 t)))))
    where
      three : groups (drop at s) ≡ further (get_or s at 0 - 128) (further (get_or s (at + 1) 0 - 128) (Some (get_or s (at + 2) 0, 1)))
      three = after_two a b (Some (get_or s (at + 2) 0, 1)) (groups_last s (at + 2) (omega (arith, third_inside a b)) d)
