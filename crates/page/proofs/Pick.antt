-- From a statement of each span of a reply to one of a row's, a column's, and each of a column's spans. Assumes nothing.
use mathlib.Core.Path.{◌≡◌, refl}
use mathlib.Core.List.{List, [], ◌∷◌, ◌++◌}
use Prim.Native.Nat.{ℕ, zero, suc, ◌+◌, ◌-◌, ◌*◌, ◌<◌}
use native.Mathlib.Nat.{not-suc-le-zero, le_of_suc-le-suc, zero-mul, suc-mul}
use native.Mathlib.Omega.{arith}
use borrow.Author.Tests.{eq-eqb}
use lib.ListN.{length, take}
use Rattle.lists.specs.Below.{pick}
use Rattle.catalogue.specs.Plain.{Row, row_in}
use Rattle.bindings.specs.Fit.{is_used}
use Rattle.bindings.specs.Sound.{column}
use Rattle.bindings.specs.declared.Column.{Column}
use Rattle.lists.specs.Each.{Each}
use Rattle.wire.specs.Laid.{Laid}
use Rattle.page.specs.Field.{text, field_of}
use Rattle.page.specs.Cell.{block_span, block_room, column_spans}
use Rattle.page.specs.Rows.{blocks, all_blocks, row_spans, rows_spans}
use Rattle.page.specs.Reads.{row_place, block_place}
use Rattle.page.proofs.Spans.{block_at, cell_at, status_at, length_at, cell_spans, OfCells}

module _ (P : Laid → Type 0) where
  pub each_left : (s t : List Laid) → Each P (s ++ t) → Each P s
  unfolding Each
  each_left [] t e = tt
  each_left (a ∷ s) t e = (e.0, each_left s t e.1)

  pub each_right : (s t : List Laid) → Each P (s ++ t) → Each P t
  unfolding Each
  each_right [] t e = e
  each_right (a ∷ s) t e = each_right s t e.1

  of_row : (base width : ℕ) (columns : List Column) (rows : List Row) (row top j at low : ℕ) → j < length rows
      → at ≡ row + j * width → low ≡ top - all_blocks columns (take j rows)
      → Each P (rows_spans base width row top columns rows) → Each P (row_spans base at low columns (row_in rows j))
  unfolding rows_spans all_blocks
  of_row base width columns [] row top j at low h a l e = absurd (not-suc-le-zero h)
  of_row base width columns (r ∷ rows) row top zero at low h a l e =
      rw (here, there) (each_left (row_spans base row top columns r) (rows_spans base width (row + width) (top - blocks columns r) columns rows) e)
    where
      here : at ≡ row
      here = omega (arith, zero-mul width)

      there : low ≡ top
      there = omega arith
  of_row base width columns (r ∷ rows) row top (suc j) at low h a l e =
      of_row base width columns rows (row + width) (top - blocks columns r) j at low (le_of_suc-le-suc h)
      (omega (arith, suc-mul j width))
      (omega arith)
      (each_right (row_spans base row top columns r) (rows_spans base width (row + width) (top - blocks columns r) columns rows) e)

  of_column_lem : (base row : ℕ) (r : Row) (columns : List Column) (top k place : ℕ) → k < length columns
      → place ≡ top - blocks (take (suc k) columns) r
      → Each P (row_spans base row top columns r) → Each P (column_spans base row place (column columns k) r)
  unfolding row_spans blocks
  of_column_lem base row r [] top k place h l e = absurd (not-suc-le-zero h)
  of_column_lem base row r (c ∷ s) top zero place h l e =
      rw there (each_left (column_spans base row (top - block_room c r) c r) (row_spans base row (top - block_room c r) s r) e)
    where
      there : place ≡ top - block_room c r
      there = omega arith
  of_column_lem base row r (c ∷ s) top (suc k) place h l e =
      of_column_lem base row r s (top - block_room c r) k place (le_of_suc-le-suc h) (omega arith)
      (each_right (column_spans base row (top - block_room c r) c r) (row_spans base row (top - block_room c r) s r) e)

  of_pick : (flag : ℕ) (s : List Laid) → Each P (pick (is_used flag) s []) → flag ≡ 1 → Each P s
  of_pick flag s e u = rw (eq-eqb flag 1 u) at e

  of_one : (flag : ℕ) (a : Laid) → Each P (pick (is_used flag) (a ∷ []) []) → flag ≡ 1 → P a
  unfolding Each
  of_one flag a e u = (of_pick flag (a ∷ []) e u).0

  module _ (base row place : ℕ) (c : Column) (r : Row) (e : Each P (column_spans base row place c r)) where
    blocks_part : Each P (pick (is_used c.value.used) (block_span place (field_of c.property r)) [])
    unfolding column_spans
    blocks_part = each_left (pick (is_used c.value.used) (block_span place (field_of c.property r)) []) (cell_spans base row place c r) e

    cells_part : Each P (cell_spans base row place c r)
    unfolding column_spans
    cells_part = each_right (pick (is_used c.value.used) (block_span place (field_of c.property r)) []) (cell_spans base row place c r) e

    pub of_block : c.value.used ≡ 1 → (units : List ℕ) → field_of c.property r ≡ text units → P (block_at place units)
    unfolding Each
    of_block u units t =
        let b : Each P (block_span place (text units)) = rw t at (of_pick c.value.used (block_span place (field_of c.property r)) blocks_part u) in b.0

    pub of_cells : OfCells P base row place c r
    of_cells =
        let v : List Laid = pick (is_used c.value.used) (cell_at base row place c r ∷ []) [] in
        let t : List Laid = pick (is_used c.status.used) (status_at row c r ∷ []) [] in
        let l : List Laid = pick (is_used c.length.used) (length_at row c r ∷ []) [] in
        let rest : Each P (t ++ l) = each_right v (t ++ l) cells_part in
        record {
          value = of_one c.value.used (cell_at base row place c r) (each_left v (t ++ l) cells_part);
          status = of_one c.status.used (status_at row c r) (each_left t l rest);
          length = of_one c.length.used (length_at row c r) (each_right t l rest);
        }

  -- a column of a row of the reply
  pub of_reply : (base width from size j k : ℕ) (columns : List Column) (rows : List Row) → j < length rows → k < length columns
      → Each P (rows_spans base width from size columns rows)
      → Each P (column_spans base (row_place from width j) (block_place size columns rows j k) (column columns k) (row_in rows j))
  of_reply base width from size j k columns rows h l e =
      of_column_lem base (row_place from width j) (row_in rows j) columns (size - all_blocks columns (take j rows)) k
      (block_place size columns rows j k) l refl
      (of_row base width columns rows from size j (row_place from width j) (size - all_blocks columns (take j rows)) h refl refl e)
