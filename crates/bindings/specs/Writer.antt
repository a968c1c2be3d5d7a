-- The writer of the message that sets bindings, the plain parser's other half: what reads is exactly what it writes. Bytes that bindings
-- do not decide are free, and the writer is given them.
use Rattle.std.specs.Prelude.{◌≡◌, List, [], ◌∷◌, ◌++◌, ◌⊎◌, ℕ, suc, ◌+◌, ◌^◌, ◌<◌, eqb, length}
use Rattle.lists.specs.Below.{pick}
use Rattle.lists.specs.Each.{Each}
use Rattle.lists.specs.Parts.{zeros}
use Rattle.wire.specs.Header.{header_size}
use Rattle.wire.specs.Padding.{padding}
use Rattle.wire.specs.PropertySpec.{set_size, set_ours, numbered, spec}
use Rattle.wire.specs.Word.{le}
use Rattle.bindings.specs.Plain.{Bindings, type_width}
use Rattle.bindings.specs.declared.Value.{Value}
use Rattle.bindings.specs.declared.Spot.{Spot}
use Rattle.bindings.specs.declared.Column.{Column}

-- a property of another set than ours, or the number 0 of ours: its set identifier and its number. All such read as property 0.
pub record Foreign : Type 0 where
  pub set : List ℕ
  pub number : ℕ

-- all bytes that are free: those of the header, which is judged before the body (_msg and _ulChecksum; _status and _ulReserved2 "aren't
-- judged"), those of _dummy, and the set identifier and the number of the k-th column, where its property is 0. Padding is not free:
-- "padding not zero" is malformed. Nothing stands where a span is not used.
pub record Free : Type 0 where
  pub header : List ℕ
  pub dummy : ℕ
  pub foreign : ℕ → Foreign

-- bytes at a place, and after them what is written at the place where they end
abbrev pub followed : ℕ → List ℕ → (ℕ → List ℕ) → List ℕ
followed at b next = b ++ next (at + length b)

-- a flag, and where it is not 0 the offset at the next even place
unfoldable pub write_spot : ℕ → Spot → List ℕ
write_spot at p = followed at (p.used ∷ []) (λ at. pick (eqb p.used 0) [] (zeros (padding 2 at) ++ le 2 p.offset))

-- and after a value's offset its size
unfoldable pub write_value : ℕ → Value → List ℕ
write_value at v = write_spot at (record { used = v.used; offset = v.offset }) ++ pick (eqb v.used 0) [] (le 2 v.size)

-- CFullPropSpec: the set identifier, ulKind, PrSpec
unfoldable pub write_property : Foreign → ℕ → List ℕ
write_property other p = pick (eqb p 0) (other.set ++ (le 4 numbered ++ le 4 other.number)) (spec p)

-- CTableColumn
unfoldable pub write_column : Foreign → ℕ → Column → List ℕ
write_column other at c =
    followed at (write_property other c.property) (λ at.
    followed at (le type_width c.vtype) (λ at.
    followed at (write_value at c.value) (λ at. followed at (write_spot at c.status) (λ at. write_spot at c.length))))

-- columns, each after zero bytes up to the next multiple of 4
unfoldable pub write_columns : (ℕ → Foreign) → ℕ → List Column → List ℕ
write_columns others at [] = []
write_columns others at (c ∷ s) =
    followed at (zeros (padding 4 at)) (λ at.
    followed at (write_column (others 0) at c) (λ at. write_columns (λ k. others (suc k)) at s))

-- cColumns and the columns: "the bytes after _dummy"; the first column stands after the header and five words
abbrev pub write_described : (ℕ → Foreign) → List Column → List ℕ
write_described others columns = le 4 (length columns) ++ write_columns others (header_size + 20) columns

-- header, _hCursor, _cbRow, _cbBindingDesc, _dummy, cColumns, columns
abbrev pub write : Free → Bindings → List ℕ
write free b =
    let described : List ℕ = write_described free.foreign b.columns in
    free.header ++ (le 4 b.handle ++ (le 4 b.width ++ (le 4 (length described) ++ (le 4 free.dummy ++ described))))

-- what bindings and free bytes must be for the writer's message to read as these bindings: n bytes hold each number ..
abbrev pub InBytes : ℕ → ℕ → Type 0
InBytes n v = v < 256 ^ n

-- .. a span that is not used has no offset and no size ..
abbrev pub SpotFits : Spot → Type 0
SpotFits p = ((p.used ≡ 0) × (p.offset ≡ 0)) ⊎ ((p.used ≡ 1) × InBytes 2 p.offset)

abbrev pub ValueFits : Value → Type 0
ValueFits v = ((v.used ≡ 0) × (v.offset ≡ 0) × (v.size ≡ 0)) ⊎ ((v.used ≡ 1) × InBytes 2 v.offset × InBytes 2 v.size)

pub record ColumnFits (c : Column) : Type 0 where
  pub property : InBytes 4 c.property
  pub vtype : InBytes type_width c.vtype
  pub value : ValueFits c.value
  pub status : SpotFits c.status
  pub length : SpotFits c.length

-- .. and a foreign property reads as 0: another set than ours, or the number 0
pub record ForeignFits (other : Foreign) : Type 0 where
  pub set : length other.set ≡ set_size
  pub number : InBytes 4 other.number
  pub none : pick (set_ours other.set 0) other.number 0 ≡ 0

pub record Fits (free : Free) (b : Bindings) : Type 0 where
  pub header : length free.header ≡ header_size
  pub dummy : InBytes 4 free.dummy
  pub foreign : (k : ℕ) → ForeignFits (free.foreign k)
  pub handle : InBytes 4 b.handle
  pub width : InBytes 4 b.width
  pub count : InBytes 4 (length b.columns)
  pub described : InBytes 4 (length (write_described free.foreign b.columns))
  pub each : Each ColumnFits b.columns
