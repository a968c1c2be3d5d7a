-- The message that sets bindings as a plain parser, which takes the bytes apart from the front. A reader has the bytes that are left
-- and the place of the first of them, counted from the message's first byte; it gives what it read, and both for what follows.
use Rattle.std.specs.Prelude.{List, [], ◌∷◌, ℕ, zero, suc, ◌+◌, leb, eqb, length, take, drop, Option, None, Some}
use Rattle.lists.specs.Below.{pick}
use Rattle.lists.specs.Options.{and_then}
use Rattle.wire.specs.Header.{header_size}
use Rattle.wire.specs.Word.{number}
use Rattle.bindings.specs.declared.Value.{Value}
use Rattle.bindings.specs.declared.Spot.{Spot}
use Rattle.bindings.specs.declared.Column.{Column}
use Rattle.wire.specs.Padding.{padding}
use Rattle.wire.specs.PropertySpec.{set_size, set_ours, numbered}

-- what the body holds
pub record Bindings : Type 0 where
  pub handle : ℕ
  pub width : ℕ
  pub columns : List Column

-- a column before others that were read
abbrev pub before : Column → Option (List Column) → Option (List Column)
before c None = None
before c (Some s) = Some (c ∷ s)

-- the bytes of vType, whose width the source leaves open
abbrev pub type_width : ℕ
type_width = 4

-- what was read, the place after it, and the bytes that are left; none where the body is malformed
abbrev pub Parsed : Type 0 → Type 0
Parsed A = Option (A × ℕ × List ℕ)

-- the next n bytes, and the number that they hold; a body that "ends early" is malformed
abbrev pub bytes : ℕ → ℕ → List ℕ → Parsed (List ℕ)
bytes n at s = pick (leb n (length s)) (Some (take n s, at + n, drop n s)) None

abbrev pub numeral : ℕ → ℕ → List ℕ → Parsed ℕ
numeral n at s = and_then (bytes n at s) (λ (b, at, s). Some (number b, at, s))

-- zero bytes up to the next multiple of a unit; "padding not zero" is malformed
unfoldable pub zero_bytes : ℕ → ℕ → List ℕ → Parsed (Unit {0})
zero_bytes zero at s = Some (tt, at, s)
zero_bytes (suc n) at [] = None
zero_bytes (suc n) at (b ∷ s) = pick (eqb b 0) (zero_bytes n (at + 1) s) None

abbrev pub padded : ℕ → ℕ → List ℕ → Parsed (Unit {0})
padded unit at s = zero_bytes (padding unit at) at s

-- "a used flag other than 0 or 1" is malformed
unfoldable pub flag : ℕ → List ℕ → Parsed ℕ
flag at [] = None
flag at (b ∷ s) = pick (leb b 1) (Some (b, at + 1, s)) None

-- StatusUsed and StatusOffset, LengthUsed and LengthOffset; the offset begins at an even place
unfoldable pub spot : ℕ → List ℕ → Parsed Spot
spot at s =
    and_then (flag at s) (λ (used, at, s).
    pick (eqb used 0) (Some (record { used = 0; offset = 0 }, at, s))
    (and_then (padded 2 at s) (λ (_, at, s). and_then (numeral 2 at s) (λ (offset, at, s). Some (record { used = used; offset = offset }, at, s)))))

-- ValueUsed, ValueOffset, ValueSize
unfoldable pub value : ℕ → List ℕ → Parsed Value
value at s =
    and_then (spot at s) (λ (p, at, s).
    pick (eqb p.used 0) (Some (record { used = 0; offset = 0; size = 0 }, at, s))
    (and_then (numeral 2 at s) (λ (size, at, s). Some (record { used = p.used; offset = p.offset; size = size }, at, s))))

-- CFullPropSpec: the set identifier, ulKind, PrSpec. "another ulKind is refusal 9 in a body"; a property of another set is an unknown
-- one, and 0 is no known property
unfoldable pub property : ℕ → List ℕ → Parsed ℕ
property at s =
    and_then (bytes set_size at s) (λ (set, at, s).
    and_then (numeral 4 at s) (λ (kind, at, s).
    and_then (numeral 4 at s) (λ (v, at, s). pick (eqb kind numbered) (Some (pick (set_ours set 0) v 0, at, s)) None)))

-- CTableColumn
unfoldable pub column : ℕ → List ℕ → Parsed Column
column at s =
    and_then (property at s) (λ (p, at, s).
    and_then (numeral type_width at s) (λ (vtype, at, s).
    and_then (value at s) (λ (v, at, s).
    and_then (spot at s) (λ (status, at, s).
    and_then (spot at s) (λ (length, at, s).
    Some (record { property = p; vtype = vtype; value = v; status = status; length = length }, at, s))))))

-- so many columns, each after its padding; a body that "has bytes left" is malformed
unfoldable pub columns : ℕ → ℕ → List ℕ → Option (List Column)
columns zero at [] = Some []
columns zero at (b ∷ s) = None
columns (suc n) at s = and_then (padded 4 at s) (λ (_, at, s). and_then (column at s) (λ (c, at, s). before c (columns n at s)))

-- header, _hCursor, _cbRow, _cbBindingDesc, _dummy, cColumns, columns: "_cbBindingDesc not the bytes after _dummy" is malformed, _dummy
-- itself is not judged
unfoldable pub bindings : List ℕ → Option Bindings
bindings m =
    and_then (bytes header_size 0 m) (λ (header, at, s).
    and_then (numeral 4 at s) (λ (handle, at, s).
    and_then (numeral 4 at s) (λ (width, at, s).
    and_then (numeral 4 at s) (λ (described, at, s).
    and_then (numeral 4 at s) (λ (dummy, at, s).
    pick (eqb described (length s))
    (and_then (numeral 4 at s) (λ (count, at, s).
    and_then (columns count at s) (λ c. Some (record { handle = handle; width = width; columns = c }))))
    None)))))
