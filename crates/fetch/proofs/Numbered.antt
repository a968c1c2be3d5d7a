-- What the reader of a request answers is what the plain definition reads, or refusal 9 where it reads nothing. Assumes nothing.
use mathlib.Core.Path.{◌≡◌, refl}
use mathlib.Core.List.{List}
use Rattle.std.specs.Prelude.{Option, None, Some}
use Prim.Native.Nat.{ℕ}
use Rattle.lists.specs.Numbered.{or_refused}
use Rattle.fetch.specs.Request.{request}
use Rattle.fetch.specs.Asking.{asking, asking_numbered}
use Rattle.fetch.specs.declared.Request.{Request}

pub asking_numbered_lem : (m : List ℕ) → asking_numbered (asking (request m)) ≡ or_refused 9 (request m)
asking_numbered_lem m = go (request m)
  where
    go : (o : Option Request) → asking_numbered (asking o) ≡ or_refused 9 o
    go None = refl
    go (Some q) = refl
