-- What a client that knows its cursor and its request reads of a rows reply (01, "Rows").
use Rattle.std.specs.Prelude.{◌≡◌, List, ◌↔◌, ◌⊎◌, ℕ, ◌+◌, ◌≤◌, ◌<◌, length, get_or, take, drop, Some}
use Rattle.wire.specs.Word.{number_at}
use Rattle.catalogue.specs.Plain.{Row, row_in}
use Rattle.bindings.specs.Sound.{column, Sound}
use Rattle.page.specs.Field.{field_of}
use Rattle.lists.specs.Each.{Each, Pairwise}
use Rattle.wire.specs.Laid.{Laid, Inside, Clear, Outside}
use Rattle.table.specs.Seat.{Cursor}
use Rattle.fetch.specs.Request.{request}
use Rattle.fetch.specs.declared.Request.{Request}
use Rattle.page.specs.Rows.{Fits}
use Rattle.page.specs.Page.{page_spans, page_bytes, end_of_rows}
use Rattle.page.specs.Reads.{row_place, block_place, Reads, HeadReads}
use Rattle.fetch.specs.Fetch.{numbered, remaining}
use Rattle.message.specs.Message.{handle_of}
use Rattle.promises.specs.Client.{held_cursor}

-- "_cRowsReturned" and the status, as the reply's bytes say them
abbrev pub count_in : List ℕ → ℕ
count_in reply = number_at 4 reply 16

abbrev pub status_in : List ℕ → ℕ
status_in reply = number_at 4 reply 4

-- the numbers of the reply's rows: "the reply's row j is the selected row at the old position plus j"
abbrev pub page_numbers : Cursor → List ℕ → List ℕ
page_numbers c reply = take (count_in reply) (drop c.position c.selection)

abbrev pub page_rows : List Row → Cursor → List ℕ → List Row
page_rows rows c reply = numbered rows (page_numbers c reply)

-- all spans in use
abbrev pub spans_in : List Row → Cursor → Request → List ℕ → List Laid
spans_in rows c q reply =
    page_spans q.size q.from c.width q.base (status_in reply) c.columns (page_rows rows c reply)

-- a reply to a request, with the cursor as it was before: its position is how many rows were carried
pub record RowsReply (rows : List Row) (c : Cursor) (q : Request) (reply : List ℕ) : Type 0 where
  -- "Returned: the least of rows asked, rows remaining, and the greatest K that fits"
  pub wanted : count_in reply ≤ q.asked
  pub left : c.position + count_in reply ≤ length c.selection
  pub fits : Fits q.size q.from c.width c.columns (remaining rows c) (count_in reply)
  pub most : (k : ℕ) → k ≤ q.asked → c.position + k ≤ length c.selection
      → Fits q.size q.from c.width c.columns (remaining rows c) k → k ≤ count_in reply
  -- "Status 0x00040EC6 if none then remain, else 0"
  pub ends : (status_in reply ≡ end_of_rows) ↔ (c.position + count_in reply ≡ length c.selection)
  pub else : (status_in reply ≡ end_of_rows) ⊎ (status_in reply ≡ 0)
  -- "The reply is B bytes: header, _cRowsReturned, eType, _chapt, skip, then rows .."
  pub size : length reply ≡ q.size
  pub head : HeadReads reply (status_in reply) (count_in reply)
  pub bytes : reply ≡ page_bytes q.size q.from c.width q.base (status_in reply) c.columns (page_rows rows c reply)
  -- each status, length, number and text of row j is that of the selected row at the old position plus j
  pub reads : (j k : ℕ) → j < count_in reply → k < length c.columns
      → Reads reply q.base (row_place q.from c.width j)
      (block_place q.size c.columns (page_rows rows c reply) j k)
      (column c.columns k)
      (field_of (column c.columns k).property (row_in rows (get_or c.selection (c.position + j) 0)))
  -- every span in use lies inside the reply, no two meet, and every other byte is zero
  pub inside : Each (Inside q.size) (spans_in rows c q reply)
  pub clear : Pairwise Clear (spans_in rows c q reply)
  pub zero : (i : ℕ) → i < q.size → Each (Outside i) (spans_in rows c q reply) → get_or reply i 0 ≡ 0

-- an accepted request for rows in any table: the cursor that the table holds under its handle, whose bindings are sound, and what its
-- reply says
pub record Sends (rows : List Row) (t : List ℕ) (seat : ℕ) (m reply : List ℕ) : Type 0 where
  pub cursor : Cursor
  pub asked : Request
  pub held : held_cursor t seat (handle_of m) ≡ Some cursor
  pub body : request m ≡ Some asked
  pub bound : Sound cursor.width cursor.columns
  pub says : RowsReply rows cursor asked reply
