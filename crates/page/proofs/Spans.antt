-- A statement of each span of a column, from one of its block, its cell, its status and its length. Assumes nothing.
use mathlib.Core.Path.{◌≡◌, refl, sym}
use mathlib.Core.List.{List, [], ◌∷◌, ◌++◌}
use Prim.Native.Nat.{ℕ, ◌+◌, ◌<◌}
use borrow.Author.Tests.{eqb-true, eq-eqb, eqb-false}
use lib.Dec.{eqb}
use lib.ListN.{length}
use Rattle.lists.specs.Below.{pick}
use Rattle.wire.specs.Word.{le}
use Rattle.lists.proofs.Below.{by_test}
use Rattle.catalogue.specs.Plain.{Row}
use Rattle.wire.specs.Property.{variant_type, cell_size, length_size}
use Rattle.bindings.specs.Fit.{is_used}
use Rattle.bindings.specs.declared.Column.{Column}
use Rattle.lists.specs.Each.{Each, Pairwise}
use Rattle.wire.specs.Laid.{Laid, Clear}
use Rattle.wire.proofs.Lays.{each_join, pairs_join}
use Rattle.page.specs.Field.{Field, number, text, absent, field_of}
use Rattle.page.specs.Cell.{variant_of, cell_of, status_of, length_of, text_size, block_of, block_span, block_room, column_spans}
use Rattle.page.proofs.Fields.{plain_size}

-- the four spans that a column may have in a row
abbrev pub block_at : ℕ → List ℕ → Laid
block_at place units = record { place = place; bytes = block_of units }

abbrev pub cell_at : ℕ → ℕ → ℕ → Column → Row → Laid
cell_at base row place c r =
    record { place = row + c.value.offset; bytes = cell_of c.property c.vtype (base + place) (field_of c.property r) }

abbrev pub status_at : ℕ → Column → Row → Laid
status_at row c r = record { place = row + c.status.offset; bytes = status_of (field_of c.property r) ∷ [] }

abbrev pub length_at : ℕ → Column → Row → Laid
length_at row c r =
    record { place = row + c.length.offset; bytes = le length_size (length_of c.property (field_of c.property r)) }

-- the size of a cell is that of its type, and a block takes the room that is counted
pub cell_length : (property type offset : ℕ) (f : Field) → 0 < cell_size property type → length (cell_of property type offset f) ≡ cell_size property type
unfolding le
cell_length property type offset f h =
    by_test (eqb type variant_type)
    (λ q. rw q (go f))
    (λ q. rw q (sym (rw q at (plain_size property type (eqb-false type variant_type q) h))))
  where
    go : (f : Field) → length (variant_of property offset f) ≡ 16
    go (number v) = refl
    go (text units) = refl
    go absent = refl

pub room_is : (c : Column) (r : Row) (units : List ℕ) → c.value.used ≡ 1 → field_of c.property r ≡ text units → block_room c r ≡ text_size units
room_is c r units u e = rw (eq-eqb c.value.used 1 u, e)

-- a column's cell, status and length
abbrev pub cell_spans : ℕ → ℕ → ℕ → Column → Row → List Laid
cell_spans base row place c r =
    pick (is_used c.value.used) (cell_at base row place c r ∷ []) []
    ++ (pick (is_used c.status.used) (status_at row c r ∷ []) [] ++ pick (is_used c.length.used) (length_at row c r ∷ []) [])

module _ (P : Laid → Type 0) where
  pub record OfCells (base row place : ℕ) (c : Column) (r : Row) : Type 0 where
    pub value : c.value.used ≡ 1 → P (cell_at base row place c r)
    pub status : c.status.used ≡ 1 → P (status_at row c r)
    pub length : c.length.used ≡ 1 → P (length_at row c r)

  each_pick : (flag : ℕ) (s : List Laid) → (flag ≡ 1 → Each P s) → Each P (pick (is_used flag) s [])
  unfolding Each
  each_pick flag s h = by_test (is_used flag) (λ q. rw q (h (eqb-true flag 1 q))) (λ q. rw q tt)

  each_one : (flag : ℕ) (a : Laid) → (flag ≡ 1 → P a) → Each P (pick (is_used flag) (a ∷ []) [])
  unfolding Each
  each_one flag a h = each_pick flag (a ∷ []) (λ u. (h u, tt))

  each_block : (place : ℕ) (f : Field) → ((units : List ℕ) → f ≡ text units → P (block_at place units)) → Each P (block_span place f)
  unfolding Each
  each_block place (number v) h = tt
  each_block place (text units) h = (h units refl, tt)
  each_block place absent h = tt

  each_cells : (base row place : ℕ) (c : Column) (r : Row) → OfCells base row place c r → Each P (cell_spans base row place c r)
  each_cells base row place c r o =
      each_join P (pick (is_used c.value.used) (cell_at base row place c r ∷ []) [])
      (pick (is_used c.status.used) (status_at row c r ∷ []) [] ++ pick (is_used c.length.used) (length_at row c r ∷ []) [])
      (each_one c.value.used (cell_at base row place c r) o.value)
      (each_join P (pick (is_used c.status.used) (status_at row c r ∷ []) []) (pick (is_used c.length.used) (length_at row c r ∷ []) [])
      (each_one c.status.used (status_at row c r) o.status)
      (each_one c.length.used (length_at row c r) o.length))

  pub each_column : (base row place : ℕ) (c : Column) (r : Row)
      → (c.value.used ≡ 1 → (units : List ℕ) → field_of c.property r ≡ text units → P (block_at place units))
      → OfCells base row place c r → Each P (column_spans base row place c r)
  unfolding column_spans
  each_column base row place c r block o =
      each_join P (pick (is_used c.value.used) (block_span place (field_of c.property r)) []) (cell_spans base row place c r)
      (each_pick c.value.used (block_span place (field_of c.property r)) (λ u. each_block place (field_of c.property r) (block u)))
      (each_cells base row place c r o)

-- no two of a column's spans meet
pub record ColumnClear (base row place : ℕ) (c : Column) (r : Row) : Type 0 where
  pub block : c.value.used ≡ 1 → (units : List ℕ) → field_of c.property r ≡ text units → OfCells (Clear (block_at place units)) base row place c r
  pub value_status : c.value.used ≡ 1 → c.status.used ≡ 1 → Clear (cell_at base row place c r) (status_at row c r)
  pub value_length : c.value.used ≡ 1 → c.length.used ≡ 1 → Clear (cell_at base row place c r) (length_at row c r)
  pub status_length : c.status.used ≡ 1 → c.length.used ≡ 1 → Clear (status_at row c r) (length_at row c r)

pairs_one : (flag : ℕ) (a : Laid) → Pairwise Clear (pick (is_used flag) (a ∷ []) [])
unfolding Each Pairwise
pairs_one flag a = by_test (is_used flag) (λ q. rw q (tt, tt)) (λ q. rw q tt)

pairs_block : (flag place : ℕ) (f : Field) → Pairwise Clear (pick (is_used flag) (block_span place f) [])
unfolding Each Pairwise
pairs_block flag place f = by_test (is_used flag) (λ q. rw q (go f)) (λ q. rw q tt)
  where
    go : (f : Field) → Pairwise Clear (block_span place f)
    go (number v) = tt
    go (text units) = (tt, tt)
    go absent = tt

pub pairs_column : (base row place : ℕ) (c : Column) (r : Row) → ColumnClear base row place c r → Pairwise Clear (column_spans base row place c r)
unfolding column_spans
pairs_column base row place c r o =
    pairs_join Clear (pick (is_used c.value.used) (block_span place f) []) (cell_spans base row place c r)
    (pairs_block c.value.used place f)
    (pairs_join Clear cells (statuses ++ lengths) (pairs_one c.value.used (cell_at base row place c r))
    (pairs_join Clear statuses lengths (pairs_one c.status.used (status_at row c r)) (pairs_one c.length.used (length_at row c r))
    (each_one (λ a. Each (Clear a) lengths) c.status.used (status_at row c r)
    (λ u. each_one (Clear (status_at row c r)) c.length.used (length_at row c r) (o.status_length u))))
    (each_one (λ a. Each (Clear a) (statuses ++ lengths)) c.value.used (cell_at base row place c r)
    (λ u. each_join (Clear (cell_at base row place c r)) statuses lengths
    (each_one (Clear (cell_at base row place c r)) c.status.used (status_at row c r) (o.value_status u))
    (each_one (Clear (cell_at base row place c r)) c.length.used (length_at row c r) (o.value_length u)))))
    (each_pick (λ a. Each (Clear a) (cell_spans base row place c r)) c.value.used (block_span place f)
    (λ u. each_block (λ a. Each (Clear a) (cell_spans base row place c r)) place f (λ units e. each_cells (Clear (block_at place units)) base row place c r (o.block u units e))))
  where
    f : Field
    f = field_of c.property r

    cells : List Laid
    cells = pick (is_used c.value.used) (cell_at base row place c r ∷ []) []

    statuses : List Laid
    statuses = pick (is_used c.status.used) (status_at row c r ∷ []) []

    lengths : List Laid
    lengths = pick (is_used c.length.used) (length_at row c r ∷ []) []
