-- Fitness of bindings (01, "Bindings", refusal 12), for columns on the wire and columns in the session table alike.
use Rattle.std.specs.Prelude.{Bool, not, List, [], ◌∷◌, ℕ, ◌+◌, leb, ltb, eqb, length}
use Rattle.lists.specs.Below.{pick, both, either, within}
use Rattle.lists.specs.Every.{every, pairwise}
use Rattle.bindings.specs.Column.{columns_most}
use Rattle.wire.specs.Property.{known, cell_size, status_size, length_size}
use Rattle.bindings.specs.declared.Value.{Value}
use Rattle.bindings.specs.declared.Column.{Column}
use Rattle.bindings.specs.declared.Span.{Span}

-- a used flag: 1 says used, any other number unused (on the wire, and in a table that passes 2, it is 0 or 1)
abbrev pub is_used : ℕ → Bool
is_used flag = eqb flag 1

-- "Where a value isn't used, its type is judged against its property, its size isn't."
abbrev pub sized : ℕ → Value → Bool
sized size v = either (not (is_used v.used)) (eqb v.size size)

-- a type that the property may have gives its size, another gives 0
abbrev pub typed : ℕ → Value → Bool
typed size v = both (ltb 0 size) (sized size v)

-- "property unknown ..; type other than 0x000C with value size 16, or ..": a column by itself
abbrev pub column_fits : Column → Bool
column_fits c = both (known c.property) (typed (cell_size c.property c.vtype) c.value)

-- "property unknown or bound twice"
abbrev pub unlike : ℕ → Column → Bool
unlike property d = not (eqb property d.property)

abbrev pub differ : Column → Column → Bool
differ c d = unlike c.property d

-- "a used span (value, status of 1 byte, length of 4)": its place in the row and its size
abbrev pub span_if : ℕ → ℕ → ℕ → List Span → List Span
span_if flag place size rest = pick (is_used flag) (record { place = place; size = size } ∷ rest) rest

-- the used spans of a row: columns in order, of each its value, its status, its length
unfoldable pub spans_of : List Column → List Span
spans_of [] = []
spans_of (c ∷ s) =
    span_if c.value.used c.value.offset c.value.size
    (span_if c.status.used c.status.offset status_size (span_if c.length.used c.length.offset length_size (spans_of s)))

-- "past _cbRow or meeting another": no sum wraps, and two spans that touch do not meet
abbrev pub inside : ℕ → Span → Bool
inside width a = leb (a.place + a.size) width

abbrev pub apart : Span → Span → Bool
apart a b = either (leb (a.place + a.size) b.place) (leb (b.place + b.size) a.place)

-- the columns by themselves, no property twice, the used spans in the row, and no two of them meeting
unfoldable pub columns_fit : ℕ → List Column → Bool
columns_fit width columns =
    both (every column_fits columns)
    (both (pairwise differ columns) (both (every (inside width) (spans_of columns)) (pairwise apart (spans_of columns))))

-- "columns not 1 to 5; _cbRow not 1 to 4,096"
abbrev pub row_most : ℕ
row_most = 4096

unfoldable pub fit : ℕ → List Column → Bool
fit width columns = both (within 1 columns_most (length columns)) (both (within 1 row_most width) (columns_fit width columns))

-- one of three things, by a number
abbrev pub third {ℓ} : {A : Type ℓ} → ℕ → A → A → A → A
third part a b c = pick (eqb part 0) a (pick (eqb part 1) b c)

-- flag, place and size of a part of a column
abbrev pub flag_of : Column → ℕ → ℕ
flag_of c part = third part c.value.used c.status.used c.length.used

abbrev pub place_of : Column → ℕ → ℕ
place_of c part = third part c.value.offset c.status.offset c.length.offset

abbrev pub size_of : Column → ℕ → ℕ
size_of c part = third part c.value.size status_size length_size

-- a span; where it is not used an empty one, which lies in every row and meets none
abbrev pub span_or : ℕ → ℕ → ℕ → Span
span_or flag place size = pick (is_used flag) (record { place = place; size = size }) (record { place = 0; size = 0 })

abbrev pub span_of : Column → ℕ → Span
span_of c part = span_or (flag_of c part) (place_of c part) (size_of c part)
