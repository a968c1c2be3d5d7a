-- A row with a label or without, and the 512 bytes of the reply of 01's whole case.
use Rattle.std.specs.Prelude.{List, [], ◌∷◌, ◌++◌, ℕ, replicate, Option, None}
use Rattle.catalogue.specs.Plain.{Row}

abbrev pub labelled : Option (List ℕ) → Row
labelled label = record { key = 1; language = 0; default = 0; label = label; note = None }

-- the whole case: both rows in 512 bytes, whatever they held before
abbrev pub case_reply : List ℕ
case_reply =
    (0xCC ∷ 0x00 ∷ 0x00 ∷ 0x00 ∷ 0xC6 ∷ 0x0E ∷ 0x04 ∷ 0x00 ∷ [])
    ++ (replicate 8 0
    ++ ((0x02 ∷ 0x00 ∷ 0x00 ∷ 0x00 ∷ 0x01 ∷ 0x00 ∷ 0x00 ∷ 0x00 ∷ [])
    ++ (replicate 8 0
    ++ ((0x1F ∷ 0x00 ∷ [])
    ++ (replicate 6 0
    ++ ((0xFA ∷ 0x01 ∷ [])
    ++ (replicate 6 0
    ++ ((0x00 ∷ 0x00 ∷ 0x00 ∷ 0x00 ∷ 0x06 ∷ 0x00 ∷ 0x00 ∷ 0x00 ∷ [])
    ++ (replicate 16 0
    ++ ((0x02 ∷ 0x00 ∷ 0x00 ∷ 0x00 ∷ 0x00 ∷ 0x00 ∷ 0x00 ∷ 0x00 ∷ [])
    ++ (replicate 426 0
    ++ (0x4F ∷ 0x00 ∷ 0x4B ∷ 0x00 ∷ 0x00 ∷ 0x00 ∷ []))))))))))))
