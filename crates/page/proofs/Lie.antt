-- Where the spans of rows lie: cells in their row, blocks one below the other from the reply's end, and no two meet.
-- Assumes nothing.
use mathlib.Core.Path.{◌≡◌, refl, sym, ◌∙◌}
use mathlib.Core.Bool.{true}
use mathlib.Core.List.{List, [], ◌∷◌}
use mathlib.Core.Logic.{◌⊎◌, inl, inr, ⊎_elim}
use Prim.Native.Nat.{ℕ, ◌+◌, ◌-◌, ◌≤◌}
use native.Mathlib.Omega.{arith}
use borrow.Author.Tests.{leb-true}
use lib.Dec.{leb}
use lib.ListN.{length}
use Rattle.lists.proofs.Below.{by_test}
use Rattle.catalogue.specs.Plain.{Row}
use Rattle.lists.specs.Every.{every}
use Rattle.wire.specs.Property.{length_size}
use Rattle.bindings.specs.Fit.{spans_of, apart, inside}
use Rattle.bindings.specs.declared.Column.{Column}
use Rattle.bindings.specs.declared.Span.{Span}
use Rattle.lists.specs.Each.{Each, Pairwise}
use Rattle.wire.specs.Laid.{Laid, end_of, Clear}
use Rattle.wire.proofs.Lays.{each_join, each_map, pairs_join}
use Rattle.wire.proofs.Little.{le_length}
use Rattle.page.specs.Field.{text, field_of}
use Rattle.page.specs.Cell.{length_of, block_room, column_spans}
use Rattle.page.proofs.Units.{block_length}
use Rattle.page.specs.Rows.{blocks, row_spans, rows_spans}
use Rattle.page.specs.RowReady.{needed}
use Rattle.page.proofs.Parts.{Good, First, first, tests, value_in, status_in, length_in}
use Rattle.page.proofs.Spans.{block_at, cell_at, status_at, length_at, cell_length, room_is, each_column, pairs_column}

-- a span of a row stands for one of a column
pub record Is (row : ℕ) (h : Span) (a : Laid) : Type 0 where
  pub place : a.place ≡ row + h.place
  pub size : length a.bytes ≡ h.size

apart_clear : (row : ℕ) (h k : Span) (a b : Laid) → Is row h a → Is row k b → apart h k ≡ true → Clear a b
apart_clear row h k a b i j e =
    by_test (leb (h.place + h.size) k.place)
    (λ q. inl (omega (arith, leb-true (h.place + h.size) k.place q, i.place, i.size, j.place)))
    (λ q. inr (omega (arith, leb-true (k.place + k.size) h.place (rw q at e), j.place, j.size, i.place)))

-- in the row, or among its blocks
Sides : ℕ → ℕ → ℕ → ℕ → Laid → Type 0
Sides row width low top a = ((row ≤ a.place) × (end_of a ≤ row + width)) ⊎ ((low ≤ a.place) × (end_of a ≤ top))

module _ (base row width : ℕ) (r : Row) where
  -- the three spans of a first column
  module _ (c : Column) (s : List Column) (f : First width c s) (place : ℕ) where
    cell_is : c.value.used ≡ 1 → Is row (value_in c) (cell_at base row place c r)
    cell_is u = record { place = refl; size = cell_length c.property c.vtype (base + place) (field_of c.property r) f.typed ∙ sym (f.size u) }

    status_is : Is row (status_in c) (status_at row c r)
    status_is = record { place = refl; size = refl }

    length_is : Is row (length_in c) (length_at row c r)
    length_is = record { place = refl; size = le_length length_size (length_of c.property (field_of c.property r)) }

    in_row : (h : Span) (a : Laid) → inside width h ≡ true → Is row h a → (row ≤ a.place) × (end_of a ≤ row + width)
    in_row h a e i = (omega (arith, i.place), omega (arith, leb-true (h.place + h.size) width e, i.place, i.size))

    cell_in : c.value.used ≡ 1 → (row ≤ (cell_at base row place c r).place) × (end_of (cell_at base row place c r) ≤ row + width)
    cell_in u = in_row (value_in c) (cell_at base row place c r) (f.lie.value u) (cell_is u)

    status_in_lem : c.status.used ≡ 1 → (row ≤ (status_at row c r).place) × (end_of (status_at row c r) ≤ row + width)
    status_in_lem u = in_row (status_in c) (status_at row c r) (f.lie.status u) status_is

    length_in_lem : c.length.used ≡ 1 → (row ≤ (length_at row c r).place) × (end_of (length_at row c r) ≤ row + width)
    length_in_lem u = in_row (length_in c) (length_at row c r) (f.lie.length u) length_is

    block_in : (top : ℕ) → place ≡ top - block_room c r → block_room c r ≤ top → c.value.used ≡ 1 → (units : List ℕ) → field_of c.property r ≡ text units
        → end_of (block_at place units) ≡ top
    block_in top e h u units t = omega (arith, block_length units, room_is c r units u t)

  row_sides : (columns : List Column) (top : ℕ) → Good width columns → row + width + blocks columns r ≤ top
      → Each (Sides row width (top - blocks columns r) top) (row_spans base row top columns r)
  unfolding Each row_spans blocks Sides
  row_sides [] top g h = tt
  row_sides (c ∷ s) top g h =
      let f = first width c s g in
      let place : ℕ = top - block_room c r in
      each_join (Sides row width (top - (block_room c r + blocks s r)) top) (column_spans base row place c r) (row_spans base row place s r)
      (each_column (Sides row width (top - (block_room c r + blocks s r)) top) base row place c r
      (λ u units e. inr (omega arith, omega (arith, block_in c s f place top refl (omega arith) u units e)))
      (record {
        value = λ u. inl (cell_in c s f place u);
        status = λ u. inl (status_in_lem c s f place u);
        length = λ u. inl (length_in_lem c s f place u);
      }))
      (each_map (Sides row width (place - blocks s r) place) (Sides row width (top - (block_room c r + blocks s r)) top) (row_spans base row place s r)
      (λ a w. ⊎_elim (λ (p : (row ≤ a.place) × (end_of a ≤ row + width)). inl p) (λ (p : (place - blocks s r ≤ a.place) × (end_of a ≤ place)). inr (omega arith, omega arith)) w)
      (row_sides s place f.others (omega arith)))

  -- a span of the row that is apart from all of some columns is clear of all that they lay
  clear_of : (q : Span) (a : Laid) → Is row q a → end_of a ≤ row + width → (columns : List Column) (top : ℕ) → Good width columns
      → every (apart q) (spans_of columns) ≡ true → row + width + blocks columns r ≤ top → Each (Clear a) (row_spans base row top columns r)
  unfolding Each row_spans blocks
  clear_of q a i l [] top g e h = tt
  clear_of q a i l (c ∷ s) top g e h =
      let f = first width c s g in
      let t = tests (apart q) c s e in
      let place : ℕ = top - block_room c r in
      each_join (Clear a) (column_spans base row place c r) (row_spans base row place s r)
      (each_column (Clear a) base row place c r
      (λ u units k. inl (omega arith))
      (record {
        value = λ u. apart_clear row q (value_in c) a (cell_at base row place c r) i (cell_is c s f place u) (t.value u);
        status = λ u. apart_clear row q (status_in c) a (status_at row c r) i (status_is c s f place) (t.status u);
        length = λ u. apart_clear row q (length_in c) a (length_at row c r) i (length_is c s f place) (t.length u);
      }))
      (clear_of q a i l s place f.others t.others (omega arith))

  row_clear : (columns : List Column) (top : ℕ) → Good width columns → row + width + blocks columns r ≤ top → Pairwise Clear (row_spans base row top columns r)
  unfolding Each Pairwise row_spans blocks Sides
  row_clear [] top g h = tt
  row_clear (c ∷ s) top g h =
      let f = first width c s g in
      let place : ℕ = top - block_room c r in
      let rest : List Laid = row_spans base row place s r in
      let room : row + width + blocks s r ≤ place = omega arith in
      pairs_join Clear (column_spans base row place c r) rest
      (pairs_column base row place c r
      (record {
        block = λ u units e.
            record {
              value = λ w. inr (omega (arith, cell_in c s f place w));
              status = λ w. inr (omega (arith, status_in_lem c s f place w));
              length = λ w. inr (omega (arith, length_in_lem c s f place w));
            };
        value_status = λ u w. apart_clear row (value_in c) (status_in c) (cell_at base row place c r) (status_at row c r) (cell_is c s f place u) (status_is c s f place) (f.value_status u w);
        value_length = λ u w. apart_clear row (value_in c) (length_in c) (cell_at base row place c r) (length_at row c r) (cell_is c s f place u) (length_is c s f place) (f.value_length u w);
        status_length = λ u w. apart_clear row (status_in c) (length_in c) (status_at row c r) (length_at row c r) (status_is c s f place) (length_is c s f place) (f.status_length u w);
      }))
      (row_clear s place f.others room)
      (each_column (λ a. Each (Clear a) rest) base row place c r
      (λ u units e.
      each_map (Sides row width (place - blocks s r) place) (Clear (block_at place units)) rest
      (λ a w. inr (⊎_elim (λ (p : (row ≤ a.place) × (end_of a ≤ row + width)). omega arith) (λ (p : (place - blocks s r ≤ a.place) × (end_of a ≤ place)). p.1) w))
      (row_sides s place f.others room))
      (record {
        value = λ u. clear_of (value_in c) (cell_at base row place c r) (cell_is c s f place u) (cell_in c s f place u).1 s place f.others (f.value u) room;
        status = λ u. clear_of (status_in c) (status_at row c r) (status_is c s f place) (status_in_lem c s f place u).1 s place f.others (f.status u) room;
        length = λ u. clear_of (length_in c) (length_at row c r) (length_is c s f place) (length_in_lem c s f place u).1 s place f.others (f.length u) room;
      }))

-- rows one after the other: what one lays, and what the later ones lay
module _ (base width : ℕ) (columns : List Column) (g : Good width columns) where
  pub rows_lie : (rows : List Row) (row top : ℕ) → row + needed width columns rows ≤ top
      → Each (λ a. (row ≤ a.place) × (end_of a ≤ top)) (rows_spans base width row top columns rows)
  unfolding Each rows_spans needed Sides
  rows_lie [] row top h = tt
  rows_lie (r ∷ rows) row top h =
      let low : ℕ = top - blocks columns r in
      each_join (λ a. (row ≤ a.place) × (end_of a ≤ top)) (row_spans base row top columns r) (rows_spans base width (row + width) low columns rows)
      (each_map (Sides row width low top) (λ a. (row ≤ a.place) × (end_of a ≤ top)) (row_spans base row top columns r)
      (λ a w. ⊎_elim (λ (p : (row ≤ a.place) × (end_of a ≤ row + width)). (p.0, omega arith)) (λ (p : (low ≤ a.place) × (end_of a ≤ top)). (omega arith, p.1)) w)
      (row_sides base row width r columns top g (omega arith)))
      (each_map (λ a. (row + width ≤ a.place) × (end_of a ≤ low)) (λ a. (row ≤ a.place) × (end_of a ≤ top)) (rows_spans base width (row + width) low columns rows)
      (λ a p. (omega arith, omega arith))
      (rows_lie rows (row + width) low (omega arith)))

  pub rows_clear : (rows : List Row) (row top : ℕ) → row + needed width columns rows ≤ top → Pairwise Clear (rows_spans base width row top columns rows)
  unfolding Pairwise rows_spans needed Sides
  rows_clear [] row top h = tt
  rows_clear (r ∷ rows) row top h =
      let low : ℕ = top - blocks columns r in
      let rest : List Laid = rows_spans base width (row + width) low columns rows in
      pairs_join Clear (row_spans base row top columns r) rest
      (row_clear base row width r columns top g (omega arith))
      (rows_clear rows (row + width) low (omega arith))
      (each_map (Sides row width low top) (λ a. Each (Clear a) rest) (row_spans base row top columns r)
      (λ a w.
      each_map (λ b. (row + width ≤ b.place) × (end_of b ≤ low)) (Clear a) rest
      (λ b p.
      ⊎_elim (λ (q : (row ≤ a.place) × (end_of a ≤ row + width)). inl (omega arith)) (λ (q : (low ≤ a.place) × (end_of a ≤ top)). inr (omega arith)) w)
      (rows_lie rows (row + width) low (omega arith)))
      (row_sides base row width r columns top g (omega arith)))
