-- The text of answers: numbers, bytes, and what the reply buffer was filled with (README, "Replaying recorded calls").
use Rattle.std.specs.Prelude.{◌≡◌, Bool, true, false, List, [], ◌∷◌, ◌++◌, ℕ, zero, suc, ◌+◌, ◌/◌, ◌%◌, eqb, ltb, length}
use Rattle.lists.specs.Below.{pick, either}
use Rattle.wire.specs.Laid.{lay}
use Rattle.line.specs.declared.Out.{Out}

-- a text was laid at a place, and the place after it is told
pub record Put (text : List ℕ) (at r : ℕ) (before after : List ℕ) : Type 0 where
  pub next : r ≡ at + length text
  pub laid : after ≡ lay before at text

-- an output is as long as before, and its bytes are lent from the same place
pub record Stays (before after : Out) : Type 0 where
  pub long : length after.bytes.now ≡ length before.bytes.now
  pub same : after.bytes.ghost_name ≡ before.bytes.ghost_name

-- a text was laid in an output after the bytes in use, and is in use too
pub record Written (text : List ℕ) (before after : Out) : Type 0 where
  pub put : Put text before.used after.used before.bytes.now after.bytes.now
  pub stays : Stays before after

-- a number in decimal digits without leading zeros, of so many at most
unfoldable pub numeral : ℕ → ℕ → List ℕ
numeral zero n = []
numeral (suc k) n = pick (ltb n 10) ((48 + n) ∷ []) (numeral k (n / 10) ++ ((48 + n % 10) ∷ []))

-- a number of an answer: of 64 bits at most, so of 20 digits
abbrev pub decimal_text : ℕ → List ℕ
decimal_text n = numeral 20 n

-- a hex digit, "upper case"
abbrev pub glyph : ℕ → ℕ
glyph d = pick (ltb d 10) (d + 48) (d + 55)

-- two digits for each byte, the high one first
unfoldable pub hex_pairs : List ℕ → List ℕ
hex_pairs [] = []
hex_pairs (b ∷ s) = glyph (b / 16) ∷ glyph (b % 16) ∷ hex_pairs s

-- "HEX the COUNT bytes written, upper case"; "`-` for no bytes"
unfoldable pub hex_text : List ℕ → List ℕ
hex_text [] = 45 ∷ []
hex_text (b ∷ s) = hex_pairs (b ∷ s)

-- "The reply buffer is filled with 0xAA before each message"
abbrev pub fill_byte : ℕ
fill_byte = 170

-- "a byte past COUNT changed"
unfoldable pub changed : List ℕ → Bool
changed [] = false
changed (b ∷ s) = either (pick (eqb b fill_byte) false true) (changed s)
