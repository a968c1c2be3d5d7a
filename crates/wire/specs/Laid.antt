-- Bytes laid over a list at places: how a reply is written (01: "All bytes not named are zero; those past B are unchanged").
-- Places count from the list's first byte.
use Rattle.std.specs.Prelude.{List, [], ◌∷◌, ◌++◌, ◌⊎◌, ℕ, ◌+◌, ◌≤◌, ◌<◌, length, take, drop, replicate}
use Rattle.wire.specs.Word.{le}

-- a list with other bytes from a place on
unfoldable pub lay : List ℕ → ℕ → List ℕ → List ℕ
lay t at b = take at t ++ (b ++ drop (at + length b) t)

-- bytes and the place that they are laid at
pub record Laid : Type 0 where
  pub place : ℕ
  pub bytes : List ℕ

-- laid one after the other
unfoldable pub lays : List ℕ → List Laid → List ℕ
lays t [] = t
lays t (a ∷ s) = lays (lay t a.place a.bytes) s

-- the place after the last byte
abbrev pub end_of : Laid → ℕ
end_of a = a.place + length a.bytes

-- it lies in the first n bytes
abbrev pub Inside : ℕ → Laid → Type 0
Inside n a = end_of a ≤ n

-- one ends before the other begins: they share no byte
abbrev pub Clear : Laid → Laid → Type 0
Clear a b = (end_of a ≤ b.place) ⊎ (end_of b ≤ a.place)

-- a place is none of its bytes'
abbrev pub Outside : ℕ → Laid → Type 0
Outside i a = (i < a.place) ⊎ (end_of a ≤ i)

-- the first n bytes zero, the others as they were
abbrev pub cleared : ℕ → List ℕ → List ℕ
cleared n t = replicate n 0 ++ drop n t

-- four 32-bit words in a row
abbrev pub four_words : ℕ → ℕ → ℕ → ℕ → List ℕ
four_words a b c d = le 4 a ++ (le 4 b ++ (le 4 c ++ le 4 d))

-- 01, "Header and checksum": "Sixteen bytes, four little-endian words: _msg, _status, _ulChecksum, _ulReserved2"; in a reply
-- the last two are zero
abbrev pub header : ℕ → ℕ → Laid
header msg status = record { place = 0; bytes = four_words msg status 0 0 }
