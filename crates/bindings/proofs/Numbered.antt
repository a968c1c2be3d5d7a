-- What the readers of a message answer is what the plain parser reads, or refusal 9 where it reads nothing. Assumes nothing.
use mathlib.Core.Path.{◌≡◌}
use mathlib.Core.List.{List}
use Prim.Native.Nat.{ℕ, ◌≤◌}
use lib.ListN.{length, drop}
use Rattle.lists.specs.Numbered.{or_refused, on_values}
use Rattle.std.specs.Prelude.{Option, None, Some}
use Rattle.wire.specs.FieldPlaces.{padded_on, number_on, flag_on, property_on}
use Rattle.wire.specs.Numbered.{read_numbered}
use Rattle.bindings.specs.Plain.{Parsed, numeral, padded, flag, property}
use Rattle.bindings.proofs.Agree.{Agree, placed, number_agrees, flag_agrees, pad_agrees, property_agrees}

pad_numbered_lem : (m : List ℕ) (p : Parsed (Unit {0})) (r : Option ℕ) → Agree m p (placed r)
    → read_numbered r ≡ on_values (λ (_, next, rest). next) (or_refused 9 p)
pad_numbered_lem m p None e = rw e
pad_numbered_lem m p (Some next) e = rw e.0

numbered : (m : List ℕ) (p : Parsed ℕ) (r : Option (ℕ × ℕ)) → Agree m p r
    → read_numbered r ≡ on_values (λ (v, next, rest). (v, next)) (or_refused 9 p)
numbered m p None e = rw e
numbered m p (Some r) e = rw e.0

-- a flag, at any place
pub flag_numbered : (m : List ℕ) (at : ℕ) → read_numbered (flag_on m at) ≡ on_values (λ (v, next, rest). (v, next)) (or_refused 9 (flag at (drop at m)))
flag_numbered m at = numbered m (flag at (drop at m)) (flag_on m at) (flag_agrees m at)

-- at a place that is not past the end
module _ (m : List ℕ) (at : ℕ) (h : at ≤ length m) where
  -- padding
  pub pad_numbered : (unit : ℕ) → read_numbered (padded_on unit m at) ≡ on_values (λ (_, next, rest). next) (or_refused 9 (padded unit at (drop at m)))
  pad_numbered unit = pad_numbered_lem m (padded unit at (drop at m)) (padded_on unit m at) (pad_agrees unit m at h)

  -- a number of n bytes, a property
  pub number_numbered_lem : (n : ℕ) → read_numbered (number_on n m at) ≡ on_values (λ (v, next, rest). (v, next)) (or_refused 9 (numeral n at (drop at m)))
  number_numbered_lem n = numbered m (numeral n at (drop at m)) (number_on n m at) (number_agrees n m at h)

  pub property_numbered : read_numbered (property_on m at) ≡ on_values (λ (v, next, rest). (v, next)) (or_refused 9 (property at (drop at m)))
  property_numbered = numbered m (property at (drop at m)) (property_on m at) (property_agrees m at h)
