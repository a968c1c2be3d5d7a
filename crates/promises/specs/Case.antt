-- 01's whole case as calls and answers: "Both rows selected, position 0; M7's request with B 512, version 5".
use Rattle.std.specs.Prelude.{List, [], ◌∷◌, ℕ}
use Rattle.wire.specs.Laid.{four_words}
use Rattle.tree.specs.Examples.{related}
use Rattle.page.specs.Examples.{case_reply}
use Rattle.promises.specs.Calls.{Call, connecting, opening, messaging, Event}
use Rattle.promises.specs.Numbers.{get_rows}
use Rattle.promises.specs.Walk.{Notes}
use Rattle.bindings.specs.Examples.{case_columns, case_bindings}

-- a call with its answer
abbrev pub event : Call → ℕ → ℕ → List ℕ → Event
event c refusal handle reply = record { call = c; answer = record { refusal = refusal; handle = handle; reply = reply } }

-- a tree that both rows satisfy: a key of at least 0
abbrev pub both_rows : List ℕ
both_rows = related 3 2 0

-- connect with version 5, open, set "One column, property 5, type 0x000C at 0, status at 16, length at 20, width 24", get rows
abbrev pub case_calls : List Call
case_calls =
    connecting 0 5
    ∷ opening 0 both_rows
    ∷ messaging 0 case_bindings 16384
    ∷ messaging 0 (get_rows 512 0) 16384
    ∷ []

-- handle 1; sixteen bytes for the bindings; 512 bytes for the rows
abbrev pub case_events : List Event
case_events =
    event (connecting 0 5) 0 0 []
    ∷ event (opening 0 both_rows) 0 1 []
    ∷ event (messaging 0 case_bindings 16384) 0 0 (four_words 0xD0 0 0 0)
    ∷ event (messaging 0 (get_rows 512 0) 16384) 0 0 case_reply
    ∷ []

-- what is then noted of handle 1: one page
abbrev pub case_notes : Notes
case_notes =
    record {
      tree = both_rows;
      width = 24;
      columns = case_columns;
      pages = record { message = get_rows 512 0; width = 24; columns = case_columns; reply = case_reply } ∷ [];
    }
