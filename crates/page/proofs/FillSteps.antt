-- Laws of rows counted and laid one at a time. Assumes nothing.
use mathlib.Core.Path.{◌≡◌, refl, sym, ap, ◌∙◌}
use mathlib.Core.List.{List, [], ◌∷◌}
use Prim.Native.Nat.{ℕ, zero, suc, ◌+◌, ◌-◌, ◌*◌, ◌≤◌, ◌<◌}
use native.Mathlib.Nat.{not-suc-le-zero, suc-mul}
use native.Mathlib.Numerals.{add-one, sub-one}
use native.Mathlib.Omega.{arith}
use borrow.Author.Tests.{le-leb, lt-leb}
use lib.ListN.{length, get_or, take, drop, drop_of_length-le}
use lib.Seq.{drop-cons}
use Rattle.catalogue.specs.Plain.{Row}
use Rattle.catalogue.specs.CataloguePlaces.{row_seen}
use Rattle.bindings.specs.declared.Column.{Column}
use Rattle.wire.specs.Laid.{lays}
use Rattle.wire.proofs.Lays.{lays_join}
use Rattle.page.specs.Rows.{blocks, all_blocks, returned, row_spans, rows_spans}
use Rattle.page.specs.RowPlaces.{rows_at}
use Rattle.page.specs.RowReady.{needed}
use Rattle.bindings.specs.Column.{columns_of}
use Rattle.page.specs.declared.Sheet.{Sheet}
use Rattle.page.specs.PageTold.{RowsLaid}

-- the rows from an index on: one and then the others, or none
pub rows_more : (s places numbers : List ℕ) (i : ℕ) → i < length numbers
    → rows_at s places (drop i numbers) ≡ row_seen s (get_or places (get_or numbers i 0) 0) ∷ rows_at s places (drop (i + 1) numbers)
rows_more s places numbers i h = rw (add-one, drop-cons numbers i 0 h)

pub rows_none : (s places numbers : List ℕ) (i : ℕ) → length numbers ≤ i → rows_at s places (drop i numbers) ≡ []
rows_none s places numbers i h = rw (drop_of_length-le numbers {i = i} h)

-- counting: at the start; no row is asked for, none is left, one does not fit, one does
module _ (width : ℕ) (columns : List Column) where
  pub returned_start : (asked room : ℕ) (rows : List Row) → returned width columns asked room rows ≡ 0 + returned width columns (asked - 0) room rows
  returned_start asked room rows = omega (arith, ap (λ (n : ℕ). returned width columns n room rows) all)
    where
      all : asked - 0 ≡ asked
      all = omega arith

  pub returned_asked : (asked room : ℕ) (rows : List Row) → asked ≡ 0 → returned width columns asked room rows ≡ 0
  unfolding returned
  returned_asked asked room rows e = rw e

  pub returned_left : (asked room : ℕ) (rows : List Row) → rows ≡ [] → returned width columns asked room rows ≡ 0
  unfolding returned
  returned_left zero room rows e = refl
  returned_left (suc asked) room rows e = rw e

  pub returned_full : (asked room : ℕ) (r : Row) (rows : List Row) → room < width + blocks columns r → returned width columns asked room (r ∷ rows) ≡ 0
  unfolding returned
  returned_full zero room r rows h = refl
  returned_full (suc asked) room r rows h = rw (lt-leb (width + blocks columns r) room h)

  pub returned_more : (asked room : ℕ) (r : Row) (rows : List Row) → 0 < asked → width + blocks columns r ≤ room
      → returned width columns asked room (r ∷ rows) ≡ suc (returned width columns (asked - 1) (room - (width + blocks columns r)) rows)
  unfolding returned
  returned_more zero room r rows h f = absurd (not-suc-le-zero h)
  returned_more (suc asked) room r rows h f = rw (le-leb (width + blocks columns r) room f, sub-one (suc asked))

-- rows laid one at a time
pub rows_spans_more : (t : List ℕ) (base width row top : ℕ) (columns : List Column) (r : Row) (rows : List Row)
    → lays t (rows_spans base width row top columns (r ∷ rows))
    ≡ lays (lays t (row_spans base row top columns r)) (rows_spans base width (row + width) (top - blocks columns r) columns rows)
unfolding rows_spans
rows_spans_more t base width row top columns r rows =
    lays_join t (row_spans base row top columns r) (rows_spans base width (row + width) (top - blocks columns r) columns rows)

-- the room that rows take is their widths and their blocks
pub needs_are : (width : ℕ) (columns : List Column) (rows : List Row) → needed width columns rows ≡ length rows * width + all_blocks columns rows
unfolding needed all_blocks
needs_are width columns [] = omega arith
needs_are width columns (r ∷ rows) = rw (suc-mul (length rows) width) (omega (arith, needs_are width columns rows))

-- one row counted, and one row laid
module _ (s places numbers : List ℕ) (i at : ℕ) (inside : i < length numbers) (is : at ≡ get_or places (get_or numbers i 0) 0) where
  row_is : rows_at s places (drop i numbers) ≡ row_seen s at ∷ rows_at s places (drop (i + 1) numbers)
  row_is = rows_more s places numbers i inside ∙ ap (λ (k : ℕ). row_seen s k ∷ rows_at s places (drop (i + 1) numbers)) (sym is)

  module _ (width : ℕ) (columns : List Column) where
    pub count_full : (asked room : ℕ) → room < width + blocks columns (row_seen s at) → returned width columns asked room (rows_at s places (drop i numbers)) ≡ 0
    count_full asked room h =
        ap (returned width columns asked room) row_is ∙ returned_full width columns asked room (row_seen s at) (rows_at s places (drop (i + 1) numbers)) h

    pub count_more : (asked room need : ℕ) → i < asked → need ≡ width + blocks columns (row_seen s at) → need ≤ room
        → returned width columns (asked - i) room (rows_at s places (drop i numbers))
        ≡ suc (returned width columns (asked - (i + 1)) (room - need) (rows_at s places (drop (i + 1) numbers)))
    count_more asked room need h e f =
        ap (returned width columns (asked - i) room) row_is
        ∙ returned_more width columns (asked - i) room (row_seen s at) rest (omega arith) (omega arith)
        ∙ rw (one, ← e)
      where
        rest : List Row
        rest = rows_at s places (drop (i + 1) numbers)

        one : asked - i - 1 ≡ asked - (i + 1)
        one = omega arith

    pub count_step : (asked room need left : ℕ) → i < asked → need ≡ width + blocks columns (row_seen s at) → need ≤ room → left ≡ room - need
        → returned width columns (asked - i) room (rows_at s places (drop i numbers))
        ≡ suc (returned width columns (asked - (i + 1)) left (rows_at s places (drop (i + 1) numbers)))
    count_step asked room need left h e f el =
        count_more asked room need h e f
        ∙ ap (λ (n : ℕ). suc (returned width columns (asked - (i + 1)) n (rows_at s places (drop (i + 1) numbers)))) (sym el)

    -- one row more is laid, with those that the rest will give
    pub lay_step : (asked room need : ℕ) → i < asked → need ≡ width + blocks columns (row_seen s at) → need ≤ room
        → (t u : List ℕ) (base row top place left : ℕ) → place ≡ top - blocks columns (row_seen s at)
        → u ≡ lays t (row_spans base row top columns (row_seen s at)) → left ≡ room - need
        → lays u (rows_spans base width (row + width) place columns
        (take (returned width columns (asked - (i + 1)) left (rows_at s places (drop (i + 1) numbers))) (rows_at s places (drop (i + 1) numbers))))
        ≡ lays t (rows_spans base width row top columns
        (take (returned width columns (asked - i) room (rows_at s places (drop i numbers))) (rows_at s places (drop i numbers))))
    lay_step asked room need h e f t u base row top place left ep eu el =
        rw (eu, ep, el)
        (sym
        (ap (λ (n : ℕ). lays t (rows_spans base width row top columns (take n (rows_at s places (drop i numbers))))) (count_more asked room need h e f)
        ∙ ap (λ (rows : List Row). lays t (rows_spans base width row top columns (take (suc more) rows))) row_is
        ∙ rows_spans_more t base width row top columns (row_seen s at) (take more (rows_at s places (drop (i + 1) numbers)))))
      where
        more : ℕ
        more = returned width columns (asked - (i + 1)) (room - need) (rows_at s places (drop (i + 1) numbers))

-- one row more is counted
pub counted_on : (sent rest : ℕ) {all more : ℕ} → all ≡ sent + more → more ≡ suc rest → all ≡ (sent + 1) + rest
counted_on sent rest e f = omega (arith, e, f)

-- what a row that fits leaves: its blocks end below the reply's size, the next row begins below them, and the room between the two
pub record Turned (size row top width need place : ℕ) : Type 0 where
  pub below : place ≤ size
  pub apart : row + width ≤ place
  pub left : place - (row + width) ≡ top - row - need

pub turned : (size row top width blocks need place : ℕ) → top ≤ size → row ≤ top → need ≡ width + blocks → need ≤ top - row → place ≡ top - blocks
    → Turned size row top width need place
turned size row top width blocks need place a b c d e = record { below = omega arith; apart = omega arith; left = omega arith }

-- all rows are laid
pub lay_end : (t : List ℕ) (base width row top : ℕ) (columns : List Column) (rows : List Row) (k : ℕ) → k ≡ 0
    → lays t (rows_spans base width row top columns (take k rows)) ≡ t
unfolding rows_spans lays
lay_end t base width row top columns rows k e = rw e

pub lay_done : (sheet : Sheet) (records s places numbers t t₀ : List ℕ) (row top k sent : ℕ) (rest : List Row) → k ≡ 0
    → returned sheet.width (columns_of sheet.bound records) sheet.asked (sheet.size - sheet.from) (rows_at s places numbers) ≡ sent + k
    → lays t (rows_spans sheet.base sheet.width row top (columns_of sheet.bound records) (take k rest))
    ≡ lays t₀ (rows_spans sheet.base sheet.width sheet.from sheet.size (columns_of sheet.bound records) (take (returned sheet.width (columns_of sheet.bound records) sheet.asked (sheet.size - sheet.from) (rows_at s places numbers)) (rows_at s places numbers)))
    → RowsLaid sheet records s places numbers sent t₀ t
lay_done sheet records s places numbers t t₀ row top k sent rest z c e =
    record {
      counted = same;
      laid =
          sym (lay_end t sheet.base sheet.width row top columns rest k z)
          ∙ e
          ∙ ap (λ (n : ℕ). lays t₀ (rows_spans sheet.base sheet.width sheet.from sheet.size columns (take n (rows_at s places numbers)))) (sym same);
    }
  where
    columns : List Column
    columns = columns_of sheet.bound records

    same : sent ≡ returned sheet.width (columns_of sheet.bound records) sheet.asked (sheet.size - sheet.from) (rows_at s places numbers)
    same = omega (arith, z, c)

-- at the start no row is laid
pub lay_start : (width : ℕ) (columns : List Column) (t : List ℕ) (base from size asked room : ℕ) (rows : List Row)
    → lays t (rows_spans base width from size columns (take (returned width columns (asked - 0) room rows) rows))
    ≡ lays t (rows_spans base width from size columns (take (returned width columns asked room rows) rows))
lay_start width columns t base from size asked room rows =
    ap (λ (n : ℕ). lays t (rows_spans base width from size columns (take (returned width columns n room rows) rows))) all
  where
    all : asked - 0 ≡ asked
    all = omega arith
