-- A seat's words with other bindings, by their places.
use Rattle.std.specs.Prelude.{List, ℕ, set}
use Rattle.table.specs.Layout.{cursor_size, cursor_place, columns_at, width_at, records_at, records_size}
use Rattle.lists.specs.Parts.{part, put}

-- the words of a seat with other bindings in the cursor of a handle
abbrev pub rebound_at : List ℕ → ℕ → List ℕ → ℕ → ℕ → List ℕ
rebound_at b handle records count width =
    put b (cursor_place handle) cursor_size
    (put (set (set (part b (cursor_place handle) cursor_size) columns_at count) width_at width) records_at records_size records)
