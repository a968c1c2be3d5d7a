-- Laws of the place after a number, after texts and after a row. Assumes nothing.
use mathlib.Core.Path.{◌≡◌, refl, sym, ap}
use mathlib.Core.List.{List}
use Rattle.std.specs.Prelude.{Some}
use Prim.Native.Nat.{ℕ, suc, ◌+◌, ◌-◌, ◌*◌, ◌^◌, ◌≤◌, ◌<◌}
use lib.ListN.{length, get_or}
use Rattle.lists.specs.Options.{and_then}
use native.Mathlib.Omega.{arith}
use Rattle.catalogue.specs.NumberPlaces.{reading_at}
use Rattle.catalogue.specs.Limits.{key_most, number_most}
use Rattle.catalogue.specs.CataloguePlaces.{text_at, row_at, end_of, numbers_end, texts_end}
use Rattle.catalogue.proofs.Carry.{groups_last, groups_on, reading_groups}
use Rattle.catalogue.proofs.Inside.{reading_five}
use Rattle.catalogue.proofs.Found.{there, ends_on, ends_further}

-- the place after a number of two groups and of three, that cannot pass the limit; the last group is not zero
module _ (limit : ℕ) (s : List ℕ) (at : ℕ) (inside : at + 3 ≤ length s) (few : 128 ^ 3 ≤ limit) (byte : get_or s at 0 < 256) (more : 128 ≤ get_or s at 0) where
  pub end_two : 1 ≤ get_or s (at + 1) 0 → get_or s (at + 1) 0 ≤ 127 → Some (at + 2) ≡ end_of (reading_at limit s at)
  end_two l h =
      let last = groups_last s (at + 1) (omega arith) (omega arith) in
      sym
      (ap end_of
      (reading_groups limit s at (get_or s at 0 - 128 + 128 * get_or s (at + 1) 0) 2
      (groups_on s at (at + 1) (get_or s (at + 1) 0) 1 refl (omega arith) more last (λ z. omega arith))
      (omega arith)))

  pub end_three : get_or s (at + 1) 0 < 256 → 128 ≤ get_or s (at + 1) 0 → 1 ≤ get_or s (at + 2) 0 → get_or s (at + 2) 0 ≤ 127
      → Some (at + 3) ≡ end_of (reading_at limit s at)
  end_three b m l h =
      let last = groups_last s (at + 2) (omega arith) (omega arith) in
      let two = groups_on s (at + 1) (at + 2) (get_or s (at + 2) 0) 1 (omega arith) (omega arith) m last (λ z. omega arith) in
      sym
      (ap end_of
      (reading_groups limit s at (get_or s at 0 - 128 + 128 * (get_or s (at + 1) 0 - 128 + 128 * get_or s (at + 2) 0)) 3
      (groups_on s at (at + 1) (get_or s (at + 1) 0 - 128 + 128 * get_or s (at + 2) 0) 2 refl (omega arith) more two (λ z. omega arith))
      (omega arith)))

-- the place after a number below 2 to the 35th is at most five bytes on
pub five_on : (limit : ℕ) (s : List ℕ) (at n : ℕ) → limit < 2 ^ 35 → Some n ≡ end_of (reading_at limit s at) → n ≤ at + 5
five_on limit s at n l e = let t = there (reading_at limit s at) n e in reading_five limit s at t.0 n l t.1

-- a row ends where the two texts after its numbers end
pub row_ends : (s : List ℕ) (at : ℕ) → end_of (row_at s at) ≡ and_then (numbers_end s at) (texts_end 2 s)
unfolding row_at texts_end
row_ends s at =
    ends_further (reading_at key_most s at) _ _ _ λ key.
    ends_further (reading_at number_most s key.1) _ _ _ λ language.
    ends_on (reading_at number_most s language.1) _ _ λ default.
    ends_on (text_at s default.1) _ _ λ label.
    ends_on (text_at s label.1) _ _ λ note. refl

-- texts one after the other, where some are left, and where none is
pub texts_more : (left more : ℕ) (s : List ℕ) (at : ℕ) → left ≡ suc more → texts_end left s at ≡ and_then (end_of (text_at s at)) (texts_end more s)
unfolding texts_end
texts_more left more s at e = rw e

pub texts_none : (left : ℕ) (s : List ℕ) (at : ℕ) → left ≡ 0 → texts_end left s at ≡ Some at
unfolding texts_end
texts_none left s at e = rw e
