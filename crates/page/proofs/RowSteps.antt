-- Laws of the columns of a row counted and laid one at a time. Assumes nothing.
use mathlib.Core.Path.{◌≡◌, sym}
use mathlib.Core.List.{List}
use Prim.Native.Nat.{ℕ, ◌+◌, ◌-◌, ◌<◌}
use Rattle.catalogue.specs.Plain.{Row}
use Rattle.bindings.specs.Column.{column_at, columns_from}
use Rattle.bindings.proofs.Columns.{from_more, from_none}
use Rattle.wire.specs.Laid.{lays}
use Rattle.wire.proofs.Lays.{lays_join}
use Rattle.page.specs.Cell.{block_room, column_spans}
use Rattle.page.specs.Rows.{blocks, row_spans}

-- the columns from an index on, in a row
module _ (left k : ℕ) (words : List ℕ) (r : Row) where
  pub blocks_more : 0 < left → blocks (columns_from left k words) r ≡ block_room (column_at words k) r + blocks (columns_from (left - 1) (k + 1) words) r
  unfolding blocks
  blocks_more h = rw (from_more left k words h)

  pub blocks_none : left ≡ 0 → blocks (columns_from left k words) r ≡ 0
  unfolding blocks
  blocks_none e = rw (from_none left k words e)

  pub spans_more : (t : List ℕ) (base row top : ℕ) → 0 < left
      → lays t (row_spans base row top (columns_from left k words) r)
      ≡ lays (lays t (column_spans base row (top - block_room (column_at words k) r) (column_at words k) r))
      (row_spans base row (top - block_room (column_at words k) r) (columns_from (left - 1) (k + 1) words) r)
  unfolding row_spans
  spans_more t base row top h =
      rw (from_more left k words h)
      (lays_join t
      (column_spans base row (top - block_room (column_at words k) r) (column_at words k) r)
      (row_spans base row (top - block_room (column_at words k) r) (columns_from (left - 1) (k + 1) words) r))

  pub spans_none : (t : List ℕ) (base row top : ℕ) → left ≡ 0 → lays t (row_spans base row top (columns_from left k words) r) ≡ t
  unfolding row_spans lays
  spans_none t base row top e = rw (from_none left k words e)

-- one column of a row laid
pub row_step : (left k : ℕ) (words : List ℕ) (r : Row) (t u : List ℕ) (base row top place : ℕ) → 0 < left
    → place ≡ top - block_room (column_at words k) r → u ≡ lays t (column_spans base row place (column_at words k) r)
    → lays u (row_spans base row place (columns_from (left - 1) (k + 1) words) r) ≡ lays t (row_spans base row top (columns_from left k words) r)
row_step left k words r t u base row top place h ep eu = rw (eu, ep) (sym (spans_more left k words r t base row top h))
