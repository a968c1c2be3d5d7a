-- Laws of a text's units and their bytes. Assumes nothing.
use mathlib.Core.Path.{◌≡◌, refl, sym, ap, ◌∙◌}
use mathlib.Core.List.{List, [], ◌∷◌, ◌++◌}
use Prim.Native.Nat.{ℕ, ◌+◌, ◌-◌, ◌*◌, ◌≤◌, ◌<◌}
use native.Mathlib.Omega.{arith}
use lib.ListN.{length, take, drop, length-take, length-drop, length-append, get_or-eq_default}
use lib.Seq.{get_or-take, get_or-drop, length-take-le}
use borrow.Author.Tests.{ltb-true, ltb-false}
use lib.Dec.{ltb}
use Rattle.wire.specs.Word.{Bytes, halves, le}
use Rattle.lists.proofs.Below.{by_test}
use Rattle.wire.proofs.Halves.{halves_length}
use Rattle.catalogue.specs.Writer.{unit_bytes}
use Rattle.catalogue.specs.CataloguePlaces.{unit_bytes_of, units_part}
use Rattle.catalogue.specs.declared.Text.{Text}
use Rattle.catalogue.proofs.RoundTrip.{written_halves}
use Rattle.wire.specs.Laid.{lay}
use Rattle.wire.proofs.Lay.{lay_join}
use Rattle.page.specs.Cell.{block_of, text_size}
use Rattle.catalogue.specs.CatalogueReady.{UnitsReady}

pub unit_bytes_length : (units : List ℕ) → length (unit_bytes units) ≡ 2 * length units
unfolding unit_bytes le
unit_bytes_length [] = refl
unit_bytes_length (u ∷ units) = omega (arith, unit_bytes_length units)

-- a block is as long as the length says
pub block_length : (units : List ℕ) → length (block_of units) ≡ text_size units
block_length units = length-append (unit_bytes units) (0 ∷ 0 ∷ []) ∙ omega (arith, unit_bytes_length units)

bytes_part : (n at : ℕ) (s : List ℕ) → Bytes s → Bytes (take n (drop at s))
bytes_part n at s bytes i =
    by_test (ltb i n)
    (λ q. rw (get_or-take n (drop at s) i 0 (ltb-true i n q), get_or-drop at s i 0) (bytes (at + i)))
    (λ q. rw (get_or-eq_default (take n (drop at s)) 0 {n = i} (omega (arith, ltb-false i n q, length-take n (drop at s)))) (omega arith))

module _ (s : List ℕ) (x : Text) (stands : UnitsReady s x) where
  pub units_length : length (units_part s x) ≡ unit_bytes_of x.size
  units_length = length-take-le (unit_bytes_of x.size) (drop x.start s) (omega (arith, length-drop x.start s, stands.inside))

  -- two bytes a unit and two more, by the size that the catalogue has
  pub units_double : 0 < x.size → text_size (halves (units_part s x)) ≡ 2 * x.size
  units_double h = omega (arith, halves_length (units_part s x), units_length)

  -- the units copied, and a zero unit laid after them
  pub text_laid : (t : List ℕ) (place end : ℕ) {units copied laid : List ℕ} → Bytes s → end ≡ place + length (units_part s x) → end ≤ length t → units ≡ units_part s x
      → copied ≡ lay t place units → laid ≡ lay copied end (le 2 0) → laid ≡ lay t place (block_of (halves (units_part s x)))
  unfolding le
  text_laid t place end bytes ends inside e₁ e₂ e₃ =
      e₃
      ∙ rw (e₂, e₁, ends)
      (lay_join t place (units_part s x) (0 ∷ 0 ∷ []) (omega (arith, ends, inside))
      ∙ ap (λ (u : List ℕ). lay t place (u ++ (0 ∷ 0 ∷ [])))
      (sym (written_halves (units_part s x) (x.size - 1) units_length (bytes_part (unit_bytes_of x.size) x.start s bytes))))
