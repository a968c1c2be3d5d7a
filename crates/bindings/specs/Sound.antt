-- What fit bindings come to, in plain terms.
use Rattle.std.specs.Prelude.{◌≡◌, List, ℕ, ◌+◌, ◌*◌, ◌≤◌, ◌<◌, length, get_or}
use Rattle.bindings.specs.Column.{columns_most}
use Rattle.wire.specs.Property.{key_property, note_property, cell_size}
use Rattle.bindings.specs.Fit.{spans_of, row_most, span_of}
use Rattle.bindings.specs.declared.Column.{Column}
use Rattle.bindings.specs.declared.Span.{Span}

-- the k-th column and the i-th used span of a row; past the end, one of zeros
abbrev pub column : List Column → ℕ → Column
column columns k =
    get_or columns k
    (record {
      property = 0;
      vtype = 0;
      value = record { used = 0; offset = 0; size = 0 };
      status = record { used = 0; offset = 0 };
      length = record { used = 0; offset = 0 };
    })

abbrev pub span : List Column → ℕ → Span
span columns i = get_or (spans_of columns) i (record { place = 0; size = 0 })

-- a byte of the row lies in a span
abbrev pub Holds : Span → ℕ → Type 0
Holds a byte = (a.place ≤ byte) × (byte < a.place + a.size)

pub record Sound (width : ℕ) (columns : List Column) : Type 0 where
  pub count : (1 ≤ length columns) × (length columns ≤ columns_most)
  pub row : (1 ≤ width) × (width ≤ row_most)
  pub known : (k : ℕ) → k < length columns → (key_property ≤ (column columns k).property) × ((column columns k).property ≤ note_property)
  pub once : (j k : ℕ) → j < k → k < length columns → (column columns j).property ≡ (column columns k).property → ⊥
  pub typed : (k : ℕ) → k < length columns → 0 < cell_size (column columns k).property (column columns k).vtype
  pub sized : (k : ℕ) → k < length columns → (column columns k).value.used ≡ 1
      → (column columns k).value.size ≡ cell_size (column columns k).property (column columns k).vtype
  pub inside : (i : ℕ) → i < length (spans_of columns) → (span columns i).place + (span columns i).size ≤ width
  pub apart : (i j : ℕ) → i < j → j < length (spans_of columns) → (byte : ℕ) → Holds (span columns i) byte → Holds (span columns j) byte → ⊥
  -- the same by column and part (0 value, 1 status, 2 length), where a part that is not used is an empty span
  pub part_inside : (k p : ℕ) → k < length columns → p < 3 → (span_of (column columns k) p).place + (span_of (column columns k) p).size ≤ width
  pub parts_apart : (j p k q : ℕ) → j < length columns → p < 3 → k < length columns → q < 3 → (3 * j + p ≡ 3 * k + q → ⊥)
      → (byte : ℕ) → Holds (span_of (column columns j) p) byte → Holds (span_of (column columns k) q) byte → ⊥
