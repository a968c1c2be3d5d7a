-- The fields of a message by their places, counted from the message's first byte (source, CFullPropSpec and CTableColumn): what the code
-- follows.
-- Each reader gives what it read and the place after it, or nothing where the body is malformed (01, refusal 9).
use Rattle.std.specs.Prelude.{List, ℕ, ◌+◌, leb, length, get_or, Option, None, Some}
use Rattle.wire.specs.Word.{number_at}
use Rattle.lists.specs.Below.{pick}
use Rattle.wire.specs.Padding.{padding, zero_at}
use Rattle.wire.specs.PropertySpec.{spec_size, is_numbered, named}

-- the place after the padding up to the next multiple of a unit; 01: "padding not zero" is malformed
unfoldable pub padded_on : ℕ → List ℕ → ℕ → Option ℕ
padded_on unit m at =
    pick (leb (at + padding unit at) (length m))
    (pick (zero_at m at (padding unit at)) (Some (at + padding unit at)) None)
    None

-- a number of n bytes
unfoldable pub number_on : ℕ → List ℕ → ℕ → Option (ℕ × ℕ)
number_on n m at = pick (leb (at + n) (length m)) (Some (number_at n m at, at + n)) None

-- 01: "a used flag other than 0 or 1" is malformed
unfoldable pub flag_on : List ℕ → ℕ → Option (ℕ × ℕ)
flag_on m at =
    pick (leb (at + 1) (length m)) (pick (leb (get_or m at 0) 1) (Some (get_or m at 0, at + 1)) None) None

-- 01: "another ulKind is refusal 9 in a body"
unfoldable pub property_on : List ℕ → ℕ → Option (ℕ × ℕ)
property_on m at =
    pick (leb (at + spec_size) (length m))
    (pick (is_numbered m at) (Some (named m at, at + spec_size)) None)
    None
