-- The plain parser of the option catalogue (01, "The option catalogue"): a list of bytes to rows, or to nothing. Each reader
-- takes a list apart and gives what it read with the bytes after it.
use Rattle.std.specs.Prelude.{Bool, not, List, [], ◌∷◌, ℕ, zero, suc, ◌*◌, leb, eqb, length, get_or, take, drop, Option, None, Some}
use Rattle.lists.specs.Below.{pick, both, every_below}
use Rattle.lists.specs.Options.{and_then}
use Rattle.wire.specs.Word.{halves}
use Rattle.catalogue.specs.Groups.{number}
use Rattle.catalogue.specs.Limits.{rows_most, key_most, number_most, size_most, bytes_most}

-- "for each row: key, language, default, label, note"; a label or note is absent, or its units
pub record Row : Type 0 where
  pub key : ℕ
  pub language : ℕ
  pub default : ℕ
  pub label : Option (List ℕ)
  pub note : Option (List ℕ)

-- "none of them zero"
abbrev pub none_zero : List ℕ → Bool
none_zero units = every_below (length units) (λ i. not (eqb (get_or units i 0) 0))

-- "A label or note is 0 for absent, else its count of UTF-16 units plus one .., then the units, two bytes each"
abbrev pub text_after : ℕ → List ℕ → Option (Option (List ℕ) × List ℕ)
text_after zero s = Some (None, s)
text_after (suc n) s =
    pick (both (leb (2 * n) (length s)) (none_zero (halves (take (2 * n) s)))) (Some (Some (halves (take (2 * n) s)), drop (2 * n) s)) None

unfoldable pub text : List ℕ → Option (Option (List ℕ) × List ℕ)
text s = and_then (number size_most s) λ (size, s₁). text_after size s₁

-- a row: its key, language, default, label and note, one after the other
unfoldable pub row : List ℕ → Option (Row × List ℕ)
row s =
    and_then (number key_most s) λ (key, s₁).
    and_then (number number_most s₁) λ (language, s₂).
    and_then (number number_most s₂) λ (default, s₃).
    and_then (text s₃) λ (label, s₄).
    and_then (text s₄) λ (note, s₅).
    Some (record { key = key; language = language; default = default; label = label; note = note }, s₅)

-- that many rows, one after the other
unfoldable pub rows : ℕ → List ℕ → Option (List Row × List ℕ)
rows zero s = Some ([], s)
rows (suc n) s = and_then (row s) λ (r, s₁). and_then (rows n s₁) λ (rs, s₂). Some (r ∷ rs, s₂)

-- "No bytes may follow"
abbrev pub whole : List Row → List ℕ → Option (List Row)
whole rs [] = Some rs
whole rs (b ∷ s) = None

-- "It holds the row count (0 to 1,024), then .. each row"; "At most 1,048,576 bytes"
unfoldable pub catalogue : List ℕ → Option (List Row)
catalogue s = pick (leb (length s) bytes_most) (and_then (number rows_most s) λ (n, s₁). and_then (rows n s₁) λ (rs, s₂). whole rs s₂) None

-- "The first returns 3 or 0": refusal 3 where the catalogue is malformed
abbrev pub refusal_of : {A : Type 0} → Option A → ℕ
refusal_of None = 3
refusal_of (Some a) = 0

-- the rows of a catalogue, if it has any to give: none of a malformed one, which refusal 3 names
abbrev pub rows_of : Option (List Row) → List Row
rows_of None = []
rows_of (Some rows) = rows

abbrev pub rows_in : List ℕ → List Row
rows_in s = rows_of (catalogue s)

-- the j-th of rows; past the end, one of no fields
abbrev pub row_in : List Row → ℕ → Row
row_in rows j = get_or rows j (record { key = 0; language = 0; default = 0; label = None; note = None })
