-- The body of CPMSetBindingsIn by places, which the code follows (01, "Bindings": "_hCursor, _cbRow, _cbBindingDesc, _dummy, cColumns,
-- columns").
use Rattle.std.specs.Prelude.{List, [], ℕ, zero, suc, ◌-◌, leb, eqb, length, Option, None, Some}
use Rattle.lists.specs.Below.{pick}
use Rattle.wire.specs.Word.{number_at}
use Rattle.bindings.specs.declared.Column.{Column}
use Rattle.bindings.specs.Column.{kept_all}
use Rattle.wire.specs.FieldPlaces.{padded_on}
use Rattle.bindings.specs.ColumnPlaces.{column_on}
use Rattle.lists.specs.Options.{and_then}
use Rattle.wire.specs.Header.{handle_at}
use Rattle.bindings.specs.Plain.{Bindings, before}

-- the places of the body's fields after _hCursor, counted from the message's first byte
abbrev pub width_at : ℕ
width_at = 20

abbrev pub described_at : ℕ
described_at = 24

abbrev pub count_at : ℕ
count_at = 32

abbrev pub columns_at : ℕ
columns_at = 36

-- columns from a place on, and nothing after them. Each begins at a multiple of 4 from the message's first byte, with zero bytes
-- before it; the first at 36, with none.
unfoldable pub columns_on : ℕ → List ℕ → ℕ → Option (List Column)
columns_on zero m at = pick (eqb at (length m)) (Some []) None
columns_on (suc n) m at =
    and_then (padded_on 4 m at) (λ place. and_then (column_on m place) (λ (c, next). before c (columns_on n m next)))

-- "ends early or has bytes left, .. _cbBindingDesc not the bytes after _dummy", which begin with cColumns; _dummy is not judged
unfoldable pub bindings_on : List ℕ → Option Bindings
bindings_on m =
    pick (leb columns_at (length m))
    (pick (eqb (number_at 4 m described_at) (length m - count_at))
    (and_then (columns_on (number_at 4 m count_at) m columns_at) (λ s.
    Some (record { handle = number_at 4 m handle_at; width = number_at 4 m width_at; columns = s })))
    None)
    None

-- columns kept from the k-th record on, or nothing to say where they are malformed
abbrev pub keeping : ℕ → List ℕ → Option (List Column) → Option (List ℕ)
keeping k words None = None
keeping k words (Some s) = Some (kept_all k words s)
