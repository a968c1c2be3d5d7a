-- What fetching rows answers, and what it leaves of a cursor's words and of a reply buffer.
use Rattle.std.specs.Prelude.{◌≡◌, List, ◌++◌, ℕ, drop, Some, Result}
use Rattle.catalogue.specs.Plain.{catalogue, rows_of, Row}
use Rattle.table.specs.Seat.{cursor_words, cursor_held, Cursor}
use Rattle.fetch.specs.declared.Request.{Request}
use Rattle.refusal.specs.declared.Refusal.{Refusal}
use Rattle.refusal.specs.Refusal.{first_cause}
use Rattle.refusal.specs.Numbers.{number_of}
use Rattle.fetch.specs.Fetch.{fetch_causes, fetch_reply, fetched, sent}

-- the rows that remain, as many as are asked for and fit, written: how many they are
pub record RowsSent (rows : List Row) (c : Cursor) (q : Request) (count : ℕ) (entry exit : List ℕ) : Type 0 where
  pub counted : count ≡ sent rows c q
  pub written : exit ≡ fetch_reply rows c q ++ drop q.size entry

-- the first of refusals 11, 12, 13 and 15, which leaves all as it was; where none applies, the cursor is moved and the reply is
-- written
pub record Fetched (b s : List ℕ) (q : Request) (r : Result Unit Refusal) (words entry exit : List ℕ) : Type 0 where
  pub refused : number_of r ≡ first_cause (fetch_causes (rows_of (catalogue s)) (cursor_held b) q)
  pub unmoved : (number_of r ≡ 0 → ⊥) → words ≡ b
  pub unwritten : (number_of r ≡ 0 → ⊥) → exit ≡ entry
  pub moved : number_of r ≡ 0 → words ≡ cursor_words (Some (fetched (rows_of (catalogue s)) (cursor_held b) q))
  pub written : number_of r ≡ 0 → exit ≡ fetch_reply (rows_of (catalogue s)) (cursor_held b) q ++ drop q.size entry
