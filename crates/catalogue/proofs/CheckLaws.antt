-- The ways that the check of a whole catalogue can go: its answer and the places of its rows in each. Assumes nothing.
use mathlib.Core.Path.{◌≡◌, refl}
use native.Mathlib.Omega.{arith}
use Rattle.catalogue.specs.Plain.{refusal_of}
use mathlib.Core.Bool.{Bool}
use mathlib.Core.List.{List}
use Rattle.std.specs.Prelude.{Option, None, Some}
use Prim.Native.Nat.{ℕ, ◌≤◌, ◌<◌}
use borrow.Author.Tests.{le-leb, lt-leb}
use lib.ListN.{length}
use Rattle.catalogue.specs.NumberPlaces.{reading_at}
use Rattle.catalogue.specs.Limits.{rows_most, bytes_most}
use Rattle.catalogue.specs.CataloguePlaces.{counted, checked, row_count, places}
use Rattle.catalogue.specs.CheckTold.{ChecksRows, Checks}

pub too_long : (s held : List ℕ) → bytes_most < length s → Checks s held None held
unfolding checked places
too_long s held h = record { answered = rw (lt-leb (length s) bytes_most h); placed = rw (lt-leb (length s) bytes_most h) }

pub no_count : (s held : List ℕ) → length s ≤ bytes_most → reading_at rows_most s 0 ≡ None → Checks s held None held
unfolding checked places
no_count s held h e = record { answered = rw (le-leb (length s) bytes_most h, e); placed = rw (le-leb (length s) bytes_most h, e) }

pub by_rows : (s held : List ℕ) (n at : ℕ) (well : Bool) (left : List ℕ) → length s ≤ bytes_most → reading_at rows_most s 0 ≡ Some (n, at)
    → ChecksRows n s at held well left → Checks s held (counted n well) left
unfolding checked places
by_rows s held n at well left h e c =
    record { answered = rw (le-leb (length s) bytes_most h, e, c.ended); placed = rw (le-leb (length s) bytes_most h, e, c.placed) }

-- a count is told where nothing is refused
pub counted_lem : (o : Option ℕ) → refusal_of o ≡ 0 → o ≡ Some (row_count o)
counted_lem None e = absurd (omega (arith, e))
counted_lem (Some n) e = refl

-- any two outcomes that the check's contract allows agree
pub checks_once : (s held : List ℕ) (a b : Option ℕ) (x y : List ℕ) → Checks s held a x → Checks s held b y → (a ≡ b) × (x ≡ y)
checks_once s held a b x y p q = (cc, cc)
