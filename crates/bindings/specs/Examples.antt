-- The bindings of 01's whole case: "One column, property 5, type 0x000C at 0, status at 16, length at 20, width 24".
use Rattle.std.specs.Prelude.{List, [], ◌∷◌, ◌++◌, ℕ}
use Rattle.wire.specs.Word.{le}
use Rattle.wire.specs.Examples.{words_of}
use Rattle.wire.specs.PropertySpec.{spec}
use Rattle.bindings.specs.declared.Column.{Column}

abbrev pub case_columns : List Column
case_columns =
    record {
      property = 5;
      vtype = 0x000C;
      value = record { used = 1; offset = 0; size = 16 };
      status = record { used = 1; offset = 16 };
      length = record { used = 1; offset = 20 };
    }
    ∷ []

-- the message that sets them: handle 1, _cbRow 24, _cbBindingDesc, _dummy, one column: its property and type, and used flag, padding and
-- offset of its value with its size, of its status and of its length
abbrev pub case_bindings : List ℕ
case_bindings =
    words_of (0xD0 ∷ 0 ∷ 0 ∷ 0 ∷ 1 ∷ 24 ∷ 46 ∷ 0 ∷ 1 ∷ [])
    ++ (spec 5 ++ (le 4 0x000C ++ (1 ∷ 0 ∷ 0 ∷ 0 ∷ 16 ∷ 0 ∷ 1 ∷ 0 ∷ 16 ∷ 0 ∷ 1 ∷ 0 ∷ 20 ∷ 0 ∷ [])))
