-- The catalogue of 01's whole case, as bytes and as rows.
use Rattle.std.specs.Prelude.{List, [], ◌∷◌, ℕ, None, Some}
use Rattle.catalogue.specs.Plain.{Row}

abbrev pub case_bytes : List ℕ
case_bytes =
    0x02 ∷ 0xac ∷ 0x02 ∷ 0x87 ∷ 0x08 ∷ 0x05 ∷ 0x03 ∷ 0x4f ∷ 0x00 ∷ 0x4b ∷ 0x00 ∷ 0x00 ∷ 0x01 ∷ 0x00 ∷ 0x00 ∷ 0x00 ∷ 0x00 ∷ []

-- key 300, language 1,031, default 5, label "OK", no note; then key 1 and nothing else
abbrev pub case_rows : List Row
case_rows =
    record { key = 300; language = 1031; default = 5; label = Some (0x4f ∷ 0x4b ∷ []); note = None }
    ∷ record { key = 1; language = 0; default = 0; label = None; note = None }
    ∷ []
