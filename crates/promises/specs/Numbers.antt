-- 01's "Numbers to check against" as one table of facts: M1 to M12, and the two edges after them.
use Rattle.std.specs.Prelude.{◌≡◌, Bool, true, false, List, [], ◌∷◌, ℕ, ◌+◌, ◌-◌, replicate, None, Some}
use Rattle.wire.specs.Checksum.{checksum}
use Rattle.wire.specs.Examples.{message_of}
use Rattle.catalogue.specs.Groups as Groups
use Rattle.catalogue.specs.Limits.{number_most}
use Rattle.catalogue.specs.Plain.{Row}
use Rattle.tree.specs.Phrase.{occurs}
use Rattle.tree.specs.Examples.{start, starting, restart, re_start, related, nots}
use Rattle.refusal.specs.Refusal.{first_cause}
use Rattle.fetch.specs.Request.{request}
use Rattle.fetch.specs.declared.Request.{Request}
use Rattle.page.specs.Rows.{Fits}
use Rattle.bindings.specs.Examples.{case_columns}
use Rattle.table.specs.Seat.{Cursor, fresh}
use Rattle.fetch.specs.Fetch.{fetch_causes, sent}
use Rattle.message.specs.Message.{unasked}
use Rattle.query.specs.Open.{open_causes}
use Rattle.page.specs.Examples.{labelled}

-- a cursor on the first row, with the whole case's bindings: W 24
abbrev pub on_first : Cursor
on_first = record { position = 0; selection = 0 ∷ []; width = 24; columns = case_columns }

-- a request for rows: one row, B 512, R 32
abbrev pub for_one : Request
for_one =
    record { handle = 1; asked = 1; width = 24; from = 32; size = 512; base = 0; backward = 0; seek = 1; chapter = 0; skip = 0 }

-- a request for rows as a message, by B and the client base
abbrev pub get_rows : ℕ → ℕ → List ℕ
get_rows size base = message_of 0xCC (1 ∷ 2 ∷ 24 ∷ 12 ∷ 20 ∷ size ∷ base ∷ 0 ∷ 1 ∷ 0 ∷ 0 ∷ [])

-- each kind of fact
pub data Fact : Type 0 where
  is : (v : ℕ) (bytes : List ℕ) → Fact
  refused : (bytes : List ℕ) → Fact
  sums : (msg : ℕ) (body : List ℕ) (sum : ℕ) → Fact
  occurs_in : (phrase text : List ℕ) (method0 method1 : Bool) → Fact
  fit : (rows : List Row) (most : ℕ) → Fact
  fetched : (row : Row) (refusal count : ℕ) → Fact
  based : (base refusal : ℕ) → Fact
  nested : (levels refusal : ℕ) → Fact

-- what each says: a number is these bytes, read and written; these bytes are no number; a message has this checksum; a phrase occurs in a
-- text by method 0 and by method 1; so many of the rows fit in B 512 and one more doesn't; a request for the row is refused by this
-- number, else 0, and sends so many rows; a request with this base and B 512, and a tree of so many levels, are refused by this number
abbrev pub Holds : Fact → Type 0
Holds (is v bytes) = (Groups.number number_most bytes ≡ Some (v, [])) × (Groups.written v ≡ bytes)
Holds (refused bytes) = Groups.number number_most bytes ≡ None
Holds (sums msg body sum) = checksum (message_of msg body) ≡ sum
Holds (occurs_in phrase text method0 method1) = (occurs 0 phrase text ≡ method0) × (occurs 1 phrase text ≡ method1)
Holds (fit rows most) = Fits 512 32 24 case_columns rows most × (Fits 512 32 24 case_columns rows (most + 1) → ⊥)
Holds (fetched row refusal count) =
    (first_cause (fetch_causes (row ∷ []) on_first for_one) ≡ refusal) × (sent (row ∷ []) on_first for_one ≡ count)
Holds (based base refusal) = first_cause ((9, unasked (request (get_rows 512 base))) ∷ []) ≡ refusal
Holds (nested levels refusal) = first_cause (open_causes (Some (fresh 5)) (nots (levels - 1) (related 4 2 300))) ≡ refusal

-- M1 to M4: "127 is 7F; 128 is 80 01; 4,294,967,295 is FF FF FF FF 0F; 80 00 is refused"
-- M5: "empty body, set bindings: 0x59533889"; M6: "words 0xFFFFFFFF, 1: the same"
-- M7: "get-rows words 1, 2, 24, 12, 20, 2048, 0, 0, 1, 0, 0: 0x59533099"
-- M8: "phrase "start" in "starting": method 0 no, 1 yes"; M9: "in "restart": neither"; M10: "in "re start": both"
-- M11: "B 512, R 32, W 24, no texts: 20 rows fit, 21 don't"; M12: "one label of 227 units fits; 228 gives 15"
-- "Base 0xFFFFFDFF with B 512 passes; 0xFFFFFE00 gives 9. Eight levels pass; nine give 16."
abbrev pub facts : List Fact
facts =
    is 127 (0x7F ∷ [])
    ∷ is 128 (0x80 ∷ 0x01 ∷ [])
    ∷ is 4294967295 (0xFF ∷ 0xFF ∷ 0xFF ∷ 0xFF ∷ 0x0F ∷ [])
    ∷ refused (0x80 ∷ 0x00 ∷ [])
    ∷ sums 0xD0 [] 0x59533889
    ∷ sums 0xD0 (0xFFFFFFFF ∷ 1 ∷ []) 0x59533889
    ∷ sums 0xCC (1 ∷ 2 ∷ 24 ∷ 12 ∷ 20 ∷ 2048 ∷ 0 ∷ 0 ∷ 1 ∷ 0 ∷ 0 ∷ []) 0x59533099
    ∷ occurs_in start starting false true
    ∷ occurs_in start restart false false
    ∷ occurs_in start re_start true true
    ∷ fit (replicate 30 (labelled None)) 20
    ∷ fetched (labelled (Some (replicate 227 0x41))) 0 1
    ∷ fetched (labelled (Some (replicate 228 0x41))) 15 0
    ∷ based 0xFFFFFDFF 0
    ∷ based 0xFFFFFE00 9
    ∷ nested 8 0
    ∷ nested 9 16
    ∷ []
