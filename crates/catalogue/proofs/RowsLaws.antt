-- Laws of rows one after the other. Assumes nothing.
use mathlib.Core.Path.{◌≡◌, sym, ap, ◌∙◌}
use mathlib.Core.Bool.{false}
use mathlib.Core.List.{List}
use Rattle.std.specs.Prelude.{None, Some}
use Prim.Native.Nat.{ℕ, suc, ◌+◌}
use native.Mathlib.Numerals.{add-one}
use lib.Dec.{eqb}
use lib.ListN.{length, set}
use lib.Seq.{sets}
use Rattle.catalogue.specs.CataloguePlaces.{row_at, rows_end, places_from}
use Rattle.catalogue.specs.declared.Fields.{Fields}

-- the rows that are left, where there are some: one that was read, with its place noted, and then the others
module _ (left more : ℕ) (s : List ℕ) (at : ℕ) (places : List ℕ) (i : ℕ) (left_is : left ≡ suc more) where
  pub rows_more : (f : Fields) (next : ℕ) → row_at s at ≡ Some (f, next) → rows_end more s next ≡ rows_end left s at
  unfolding rows_end
  rows_more f next e = sym (ap (λ (n : ℕ). rows_end n s at) left_is ∙ rw e)

  pub places_more : (f : Fields) (next : ℕ) → row_at s at ≡ Some (f, next)
      → sets (set places i at) (i + 1) (places_from more s next) ≡ sets places i (places_from left s at)
  unfolding places_from
  places_more f next e = sym (ap (λ (n : ℕ). sets places i (places_from n s at)) left_is ∙ rw (e, add-one))

  -- or one that is malformed
  pub rows_bad : row_at s at ≡ None → rows_end left s at ≡ false
  unfolding rows_end
  rows_bad e = ap (λ (n : ℕ). rows_end n s at) left_is ∙ rw e

  pub places_bad : row_at s at ≡ None → sets places i (places_from left s at) ≡ set places i at
  unfolding places_from
  places_bad e = ap (λ (n : ℕ). sets places i (places_from n s at)) left_is ∙ rw e

-- and where none is left
pub rows_none : (left : ℕ) (s : List ℕ) (at : ℕ) → left ≡ 0 → rows_end left s at ≡ eqb at (length s)
unfolding rows_end
rows_none left s at e = rw e

pub places_none : (left : ℕ) (s : List ℕ) (at : ℕ) (places : List ℕ) (i : ℕ) → left ≡ 0 → sets places i (places_from left s at) ≡ places
unfolding places_from
places_none left s at places i e = rw e
