-- The option catalogue by places in its list of bytes: what the code follows. proofs/Agree.antt shows that it says what the
-- plain parser says.
use Rattle.std.specs.Prelude.{Bool, false, not, List, [], ◌∷◌, ℕ, zero, suc, ◌+◌, ◌-◌, ◌*◌, leb, eqb, length, get_or, take, drop, Option, None, Some}
use Rattle.std.proofs.lemmas.List.Edits.{sets}
use Rattle.lists.specs.Below.{pick, both, every_below}
use Rattle.lists.specs.Options.{and_then}
use Rattle.wire.specs.Word.{halves}
use Rattle.catalogue.specs.NumberPlaces.{reading_at}
use Rattle.catalogue.specs.Limits.{rows_most, key_most, number_most, size_most, bytes_most}
use Rattle.catalogue.specs.Plain.{Row, none_zero}
use Rattle.catalogue.specs.declared.Text.{Text}
use Rattle.catalogue.specs.declared.Fields.{Fields}

-- what was read is handed on with the place after it; what is malformed ends it
abbrev pub with_read : {A B : Type 0} → Option (A × ℕ) → B → (A → ℕ → B) → B
with_read None bad next = bad
with_read (Some r) bad next = next r.0 r.1

-- the place after what was read
abbrev pub end_of : {A : Type 0} → Option (A × ℕ) → Option ℕ
end_of None = None
end_of (Some r) = Some r.1

-- the bytes that a text's units take: two for each of size - 1 units
abbrev pub unit_bytes_of : ℕ → ℕ
unit_bytes_of size = 2 * (size - 1)

-- the bytes of a text's units
abbrev pub units_part : List ℕ → Text → List ℕ
units_part s t = take (unit_bytes_of t.size) (drop t.start s)

-- "0 for absent, else its count of UTF-16 units plus one .., then the units .., none of them zero"
abbrev pub text_after_at : List ℕ → ℕ → ℕ → Option (Text × ℕ)
text_after_at s size start =
    pick
    (both (leb (unit_bytes_of size) (length s - start)) (none_zero (halves (take (unit_bytes_of size) (drop start s)))))
    (Some (record { size = size; start = start }, start + unit_bytes_of size))
    None

unfoldable pub text_at : List ℕ → ℕ → Option (Text × ℕ)
text_at s at = and_then (reading_at size_most s at) λ (size, start). text_after_at s size start

-- "key, language, default, label, note"
unfoldable pub row_at : List ℕ → ℕ → Option (Fields × ℕ)
row_at s at =
    and_then (reading_at key_most s at) λ (key, at₁).
    and_then (reading_at number_most s at₁) λ (language, at₂).
    and_then (reading_at number_most s at₂) λ (default, at₃).
    and_then (text_at s at₃) λ (label, at₄).
    and_then (text_at s at₄) λ (note, at₅).
    Some (record { key = key; language = language; default = default; label = label; note = note }, at₅)

-- "none of them zero", of one unit, and of so many from one on
abbrev pub unit_clear : List ℕ → ℕ → Bool
unit_clear units i = not (eqb (get_or (halves units) i 0) 0)

abbrev pub clear_from : List ℕ → ℕ → ℕ → Bool
clear_from units first count = every_below count (λ i. unit_clear units (first + i))

-- the place after "key, language, default", and after so many texts
abbrev pub numbers_end : List ℕ → ℕ → Option ℕ
numbers_end s at =
    and_then (end_of (reading_at key_most s at)) λ at₁.
    and_then (end_of (reading_at number_most s at₁)) λ at₂.
    end_of (reading_at number_most s at₂)

unfoldable pub texts_end : ℕ → List ℕ → ℕ → Option ℕ
texts_end zero s at = Some at
texts_end (suc n) s at = and_then (end_of (text_at s at)) λ next. texts_end n s next

-- n rows stand from a place on, and "no bytes may follow"
unfoldable pub rows_end : ℕ → List ℕ → ℕ → Bool
rows_end zero s at = eqb at (length s)
rows_end (suc n) s at = with_read (row_at s at) false λ f next. rows_end n s next

-- the places of n rows from a place on, as far as one can tell: the last is that of the first row that is malformed
unfoldable pub places_from : ℕ → List ℕ → ℕ → List ℕ
places_from zero s at = []
places_from (suc n) s at = at ∷ with_read (row_at s at) [] λ f next. places_from n s next

-- the row count, or none where the rows are not well formed
abbrev pub counted : ℕ → Bool → Option ℕ
counted n well = pick well (Some n) None

-- the check of the whole: its size, its row count, and its rows up to its last byte
unfoldable pub checked : List ℕ → Option ℕ
checked s =
    pick (leb (length s) bytes_most)
    (and_then (reading_at rows_most s 0) λ (n, at). counted n (rows_end n s at))
    None

-- the rows that were counted, 0 where there are none to count
abbrev pub row_count : Option ℕ → ℕ
row_count None = 0
row_count (Some n) = n

-- the place of each row; of a malformed catalogue, those of its rows up to the faulty one, its own included
unfoldable pub places : List ℕ → List ℕ
places s =
    pick (leb (length s) bytes_most)
    (with_read (reading_at rows_most s 0) [] λ n at. places_from n s at)
    []

-- the places written over what an array held
abbrev pub noted : List ℕ → List ℕ → List ℕ
noted s held = sets held 0 (places s)

-- a text and a row as the plain parser has them
abbrev pub text_of : List ℕ → Text → Option (List ℕ)
text_of s t = pick (eqb t.size 0) None (Some (halves (units_part s t)))

abbrev pub row_of : List ℕ → Fields → Row
row_of s f =
    record { key = f.key; language = f.language; default = f.default; label = text_of s f.label; note = text_of s f.note }

-- the row that stands at a place (of no fields where there is none)
abbrev pub row_seen : List ℕ → ℕ → Row
row_seen s at =
    with_read (row_at s at) (record { key = 0; language = 0; default = 0; label = None; note = None }) λ f next. row_of s f

-- the fields of the row at a place; where there is none, fields that say nothing
abbrev pub no_fields : Fields
no_fields =
    record { key = 0; language = 0; default = 0; label = record { size = 0; start = 0 }; note = record { size = 0; start = 0 } }

abbrev pub fields_seen : List ℕ → ℕ → Fields
fields_seen s at = with_read (row_at s at) no_fields λ f next. f
