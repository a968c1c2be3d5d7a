-- A column of a row's bindings (source, CTableColumn), and the nine words that hold it in the session table.
use Rattle.std.specs.Prelude.{List, [], ◌∷◌, ◌++◌, ℕ, zero, suc, ◌+◌, ◌*◌, ltb, get_or, take, drop}
use Rattle.lists.specs.Below.{pick}
use Rattle.bindings.specs.declared.Column.{Column}
use Rattle.lists.specs.Parts.{zeros}

-- 01: "columns not 1 to 5", so there is room for five; nine words a column
abbrev pub columns_most : ℕ
columns_most = 5

abbrev pub column_words : ℕ
column_words = 9

abbrev pub room_words : ℕ
room_words = columns_most * column_words

-- the column in the k-th record of a list of words: property, type, value used, value offset, value size, status used,
-- status offset, length used, length offset
abbrev pub column_at : List ℕ → ℕ → Column
column_at words k =
    record {
      property = get_or words (column_words * k) 0;
      vtype = get_or words (column_words * k + 1) 0;
      value = record {
        used = get_or words (column_words * k + 2) 0;
        offset = get_or words (column_words * k + 3) 0;
        size = get_or words (column_words * k + 4) 0;
      };
      status = record { used = get_or words (column_words * k + 5) 0; offset = get_or words (column_words * k + 6) 0 };
      length = record { used = get_or words (column_words * k + 7) 0; offset = get_or words (column_words * k + 8) 0 };
    }

-- n columns from the k-th on
unfoldable pub columns_from : ℕ → ℕ → List ℕ → List Column
columns_from zero k words = []
columns_from (suc n) k words = column_at words k ∷ columns_from n (k + 1) words

-- the first n columns of a list of words
abbrev pub columns_of : ℕ → List ℕ → List Column
columns_of n words = columns_from n 0 words

-- the words of a column, and those of columns one after another
abbrev pub record_of : Column → List ℕ
record_of c =
    c.property
    ∷ c.vtype
    ∷ c.value.used
    ∷ c.value.offset
    ∷ c.value.size
    ∷ c.status.used
    ∷ c.status.offset
    ∷ c.length.used
    ∷ c.length.offset
    ∷ []

unfoldable pub records_of : List Column → List ℕ
records_of [] = []
records_of (c ∷ s) = record_of c ++ records_of s

abbrev pub no_words : List ℕ
no_words = zeros room_words

-- the words that hold columns: the records of the first five, and zeros in the room not used
unfoldable pub words_of : List Column → List ℕ
words_of columns = take room_words (records_of columns ++ no_words)

-- a column kept as the k-th record, where there is room for it
abbrev pub kept : List ℕ → ℕ → Column → List ℕ
kept words k c =
    pick (ltb k columns_most) (take (column_words * k) words ++ record_of c ++ drop (column_words * k + column_words) words) words

-- columns kept one after another from the k-th record on
unfoldable pub kept_all : ℕ → List ℕ → List Column → List ℕ
kept_all k words [] = words
kept_all k words (c ∷ s) = kept_all (k + 1) (kept words k c) s
