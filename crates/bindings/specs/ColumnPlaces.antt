-- A column in a message by places, counted from the message's first byte (source, CTableColumn): what the code follows.
-- Each reader gives what it read and the place after it, or nothing where the body is malformed (01, refusal 9).
use Rattle.std.specs.Prelude.{List, ℕ, eqb, Option, Some}
use Rattle.lists.specs.Below.{pick}
use Rattle.bindings.specs.declared.Value.{Value}
use Rattle.bindings.specs.declared.Spot.{Spot}
use Rattle.bindings.specs.declared.Column.{Column}
use Rattle.lists.specs.Options.{and_then}
use Rattle.wire.specs.FieldPlaces.{padded_on, number_on, flag_on, property_on}
use Rattle.bindings.specs.Plain.{type_width}

-- a flag, and where it is 1 the offset at the next even place: "inserted before StatusOffset if, without it, the StatusOffset
-- field would not begin at an even offset from the beginning of the message"
unfoldable pub spot_on : List ℕ → ℕ → Option (Spot × ℕ)
spot_on m at =
    and_then (flag_on m at) (λ (flag, next).
    pick (eqb flag 0) (Some (record { used = 0; offset = 0 }, next))
    (and_then (padded_on 2 m next) (λ place.
    and_then (number_on 2 m place) (λ (offset, after). Some (record { used = flag; offset = offset }, after)))))

-- the value has its size after its offset
unfoldable pub value_on : List ℕ → ℕ → Option (Value × ℕ)
value_on m at =
    and_then (spot_on m at) (λ (spot, next).
    pick (eqb spot.used 0) (Some (record { used = 0; offset = 0; size = 0 }, next))
    (and_then (number_on 2 m next) (λ (size, after).
    Some (record { used = spot.used; offset = spot.offset; size = size }, after))))

-- PropSpec, vType, ValueUsed, ValueOffset, ValueSize, StatusUsed, StatusOffset, LengthUsed, LengthOffset; the source has no
-- aggregate flag
unfoldable pub column_on : List ℕ → ℕ → Option (Column × ℕ)
column_on m at =
    and_then (property_on m at) (λ (property, a).
    and_then (number_on type_width m a) (λ (vtype, b).
    and_then (value_on m b) (λ (value, c).
    and_then (spot_on m c) (λ (status, d).
    and_then (spot_on m d) (λ (length, e).
    Some (record { property = property; vtype = vtype; value = value; status = status; length = length }, e))))))
