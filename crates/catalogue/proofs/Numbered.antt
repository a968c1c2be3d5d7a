-- What the reader of a number answers is what the plain parser reads, or refusal 3 where it reads nothing. Assumes nothing.
use mathlib.Core.Path.{◌≡◌, refl}
use mathlib.Core.List.{List}
use Rattle.std.specs.Prelude.{Option, None, Some}
use Prim.Native.Nat.{ℕ}
use lib.ListN.{drop}
use Rattle.lists.specs.Numbered.{or_refused, on_values}
use Rattle.catalogue.specs.Groups.{number}
use Rattle.catalogue.specs.NumberPlaces.{reading_at}
use Rattle.catalogue.specs.Numbered.{reading_numbered}
use Rattle.catalogue.proofs.Agree.{seen_number, number_seen}

-- a number with the bytes after it
pub reading_numbered_lem : (limit : ℕ) (s : List ℕ) (at : ℕ)
    → on_values (λ (v, next). (v, drop next s)) (reading_numbered (reading_at limit s at)) ≡ or_refused 3 (number limit (drop at s))
reading_numbered_lem limit s at = rw (number_seen limit s at) (go (reading_at limit s at))
  where
    go : (r : Option (ℕ × ℕ)) → on_values (λ (v, next). (v, drop next s)) (reading_numbered r) ≡ or_refused 3 (seen_number s r)
    go None = refl
    go (Some r) = refl
