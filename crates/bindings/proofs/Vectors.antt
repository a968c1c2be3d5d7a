-- The bindings of 01's whole case, and two columns with and without padding, as theorems of the definitions.
use mathlib.Core.Path.{◌≡◌, refl}
use mathlib.Core.Bool.{true, false}
use mathlib.Core.List.{List, [], ◌∷◌, ◌++◌}
use Rattle.std.specs.Prelude.{None, Some}
use Prim.Native.Nat.{ℕ}
use Rattle.lists.specs.Below.{every_below}
use Rattle.wire.specs.Word.{number, le}
use Rattle.bindings.specs.declared.Column.{Column}
use Rattle.lists.specs.Every.{every, pairwise}
use Rattle.bindings.specs.Fit.{spans_of, columns_fit, fit}
use Rattle.bindings.specs.Plain.{zero_bytes, flag, spot, value, property, column, columns, bindings}
use Rattle.bindings.specs.Writer.{Foreign, write_spot, write_value, write_property, write_column, write_columns, write}
use Rattle.wire.specs.PropertySpec.{set_ours, spec}
use Rattle.wire.specs.Examples.{words_of}
use Rattle.bindings.specs.Examples.{case_columns, case_bindings}

pub whole_case : (bindings case_bindings ≡ Some (record { handle = 1; width = 24; columns = case_columns })) × (fit 24 case_columns ≡ true)
unfolding bindings columns column property value spot flag zero_bytes set_ours every_below number le fit columns_fit every pairwise spans_of
whole_case = (refl, refl)

-- and the writer writes that message
pub case_written : (others : ℕ → Foreign)
    → write (record { header = words_of (0xD0 ∷ 0 ∷ 0 ∷ 0 ∷ []); dummy = 0; foreign = others }) (record { handle = 1; width = 24; columns = case_columns })
    ≡ case_bindings
unfolding write_columns write_column write_property write_value write_spot le
case_written others = refl

-- a label with its status alone, whose length flag stands at an odd place, then a key of four bytes
pub two : ℕ → List ℕ → List ℕ
two described pad =
    words_of (0xD0 ∷ 0 ∷ 0 ∷ 0 ∷ 1 ∷ 24 ∷ described ∷ 7 ∷ 2 ∷ [])
    ++ spec 5 ++ le 4 0x000C ++ (0 ∷ 1 ∷ 16 ∷ 0 ∷ 0 ∷ []) ++ pad
    ++ spec 2 ++ le 4 0x0013 ++ (1 ∷ 0 ∷ 0 ∷ 0 ∷ 4 ∷ 0 ∷ 0 ∷ 0 ∷ [])

pub status_label : Column
status_label =
    record {
      property = 5;
      vtype = 0x000C;
      value = record { used = 0; offset = 0; size = 0 };
      status = record { used = 1; offset = 16 };
      length = record { used = 0; offset = 0 };
    }

pub key : Column
key =
    record {
      property = 2;
      vtype = 0x0013;
      value = record { used = 1; offset = 0; size = 4 };
      status = record { used = 0; offset = 0 };
      length = record { used = 0; offset = 0 };
    }

pub two_columns : (bindings (two 76 (0 ∷ 0 ∷ 0 ∷ [])) ≡ Some (record { handle = 1; width = 24; columns = status_label ∷ key ∷ [] }))
    × (bindings (two 76 (0 ∷ 0 ∷ 1 ∷ [])) ≡ None) × (bindings (two 75 (0 ∷ 0 ∷ [])) ≡ None)
    × (fit 24 (status_label ∷ key ∷ []) ≡ true) × (fit 16 (status_label ∷ key ∷ []) ≡ false) × (fit 24 (key ∷ key ∷ []) ≡ false)
unfolding two status_label key bindings columns column property value spot flag zero_bytes set_ours every_below number le fit columns_fit every pairwise spans_of
two_columns = (refl, refl, refl, refl, refl, refl)
