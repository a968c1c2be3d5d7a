-- 01's numbers about rows: M11, M12, and the reply of the whole case.
use mathlib.Core.Path.{◌≡◌, refl}
use mathlib.Core.List.{[], ◌∷◌}
use Rattle.std.specs.Prelude.{None, Some}
use native.Mathlib.Omega.{arith}
use lib.ListN.{replicate}
use Rattle.wire.specs.Word.{le}
use Rattle.catalogue.specs.Writer.{unit_bytes}
use Rattle.catalogue.specs.Examples.{case_rows}
use Rattle.wire.specs.Laid.{lay, lays}
use Rattle.page.specs.Cell.{column_spans}
use Rattle.page.specs.Rows.{blocks, all_blocks, Fits, returned, row_spans, rows_spans}
use Rattle.page.specs.Page.{page, status_for}
use Rattle.bindings.specs.Examples.{case_columns}
use Rattle.page.specs.Examples.{labelled, case_reply}

-- M11: "B 512, R 32, W 24, no texts: 20 rows fit, 21 don't"
pub m11 : Fits 512 32 24 case_columns (replicate 30 (labelled None)) 20
    × (Fits 512 32 24 case_columns (replicate 30 (labelled None)) 21 → ⊥)
    × (returned 24 case_columns 30 480 (replicate 30 (labelled None)) ≡ 20)
unfolding all_blocks blocks returned
m11 = (omega arith, (λ h. omega arith), refl)

-- M12: "one label of 227 units fits; 228 gives 15"
pub m12 : Fits 512 32 24 case_columns (labelled (Some (replicate 227 0x41)) ∷ []) 1
    × (Fits 512 32 24 case_columns (labelled (Some (replicate 228 0x41)) ∷ []) 1 → ⊥)
    × (returned 24 case_columns 1 480 (labelled (Some (replicate 227 0x41)) ∷ []) ≡ 1)
    × (returned 24 case_columns 1 480 (labelled (Some (replicate 228 0x41)) ∷ []) ≡ 0)
unfolding all_blocks blocks returned
m12 = (omega arith, (λ h. omega arith), refl, refl)

pub whole_case : (returned 24 case_columns 2 480 case_rows ≡ 2)
    × (page 512 32 24 0 (status_for 0) case_columns case_rows (replicate 512 0xAA) ≡ case_reply)
unfolding returned blocks page lays lay rows_spans row_spans column_spans unit_bytes le
whole_case = (refl, refl)
