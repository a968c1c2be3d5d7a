-- The whole reply to a request for rows (01, "Rows"): its head, its rows, and its status.
use Rattle.std.specs.Prelude.{List, [], ◌∷◌, ◌++◌, ℕ, eqb, length, replicate}
use Rattle.lists.specs.Below.{pick}
use Rattle.catalogue.specs.Plain.{Row}
use Rattle.bindings.specs.declared.Column.{Column}
use Rattle.wire.specs.Laid.{Laid, lays, cleared, four_words, header}
use Rattle.page.specs.Rows.{rows_spans}
use Rattle.wire.specs.Header.{get_rows_msg}

-- "header, _cRowsReturned, eType, _chapt, skip"
abbrev pub head_spans : ℕ → ℕ → List Laid
head_spans status rows = header get_rows_msg status ∷ record { place = 16; bytes = four_words rows 1 0 0 } ∷ []

-- all spans of a reply
abbrev pub page_spans : ℕ → ℕ → ℕ → ℕ → ℕ → List Column → List Row → List Laid
page_spans size from width base status columns rows =
    head_spans status (length rows) ++ rows_spans base width from size columns rows

-- "The reply is B bytes: header, .., then rows from R .. All bytes not named are zero"
unfoldable pub page_bytes : ℕ → ℕ → ℕ → ℕ → ℕ → List Column → List Row → List ℕ
page_bytes size from width base status columns rows =
    lays (replicate size 0) (page_spans size from width base status columns rows)

-- the same in a buffer: "those past B are unchanged"
unfoldable pub page : ℕ → ℕ → ℕ → ℕ → ℕ → List Column → List Row → List ℕ → List ℕ
page size from width base status columns rows t = lays (cleared size t) (page_spans size from width base status columns rows)

-- "Status 0x00040EC6 if none then remain, else 0"
abbrev pub end_of_rows : ℕ
end_of_rows = 0x00040EC6

abbrev pub status_for : ℕ → ℕ
status_for remaining = pick (eqb remaining 0) end_of_rows 0
