-- Numbers and bytes of a calls file (README, "Replaying recorded calls").
use Rattle.std.specs.Prelude.{Bool, true, false, List, [], ◌∷◌, ℕ, ◌+◌, ◌-◌, ◌*◌, ◌%◌, eqb, leb, Option, None, Some, is_some, unwrap_or}
use Rattle.lists.specs.Below.{pick, both}

-- what digits spell that follow a value
unfoldable pub spelled : ℕ → List ℕ → Option ℕ
spelled v [] = Some v
spelled v (b ∷ s) = pick (both (leb 48 b) (leb b 57)) (spelled (v * 10 + (b - 48)) s) None

abbrev pub number_most : ℕ
number_most = 4294967295

abbrev pub within : Option ℕ → Option ℕ
within None = None
within (Some v) = pick (leb v number_most) (Some v) None

-- "Numbers are decimal, up to 4,294,967,295"
unfoldable pub decimal : List ℕ → Option ℕ
decimal s = within (spelled 0 s)

-- "hex digits of either case": the value of one
abbrev pub hex_digit : ℕ → Option ℕ
hex_digit b =
    pick (both (leb 48 b) (leb b 57)) (Some (b - 48))
    (pick (both (leb 65 b) (leb b 70)) (Some (b - 65 + 10))
    (pick (both (leb 97 b) (leb b 102)) (Some (b - 97 + 10)) None))

-- "or `-` for no bytes"
unfoldable pub is_dash : List ℕ → Bool
is_dash [] = false
is_dash (b ∷ []) = eqb b 45
is_dash (b ∷ c ∷ s) = false

abbrev pub is_hex_digit : ℕ → Bool
is_hex_digit b = is_some (hex_digit b)

-- "HEX is pairs of hex digits of either case"
unfoldable pub is_hex : List ℕ → Bool
is_hex [] = true
is_hex (a ∷ []) = false
is_hex (a ∷ b ∷ s) = both (is_hex_digit a) (both (is_hex_digit b) (is_hex s))

-- a byte that is no digit counts as 16: no word of pairs has one
abbrev pub digit_value : ℕ → ℕ
digit_value b = unwrap_or (hex_digit b) 16

abbrev pub pair_byte : ℕ → ℕ → ℕ
pair_byte a b = (digit_value a * 16 + digit_value b) % 256

-- the bytes that the pairs spell, the high digit first
unfoldable pub hex_bytes : List ℕ → List ℕ
hex_bytes [] = []
hex_bytes (a ∷ []) = []
hex_bytes (a ∷ b ∷ s) = pair_byte a b ∷ hex_bytes s
