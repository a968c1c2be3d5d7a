-- A walk through a selection: what a client notes of a cursor since its opening, and what the replies, each read by its own bytes, show
-- (demand 3: "the rows a cursor has carried are always the first rows of its selection, each once; end of rowset is said exactly when
-- all are carried").
use Rattle.std.specs.Prelude.{◌≡◌, List, [], ◌∷◌, ◌++◌, ◌↔◌, ℕ, ◌<◌, length, get_or, take, Option, None, Some}
use Rattle.catalogue.specs.Plain.{Row, row_in}
use Rattle.bindings.specs.declared.Column.{Column}
use Rattle.bindings.specs.Sound.{column, Sound}
use Rattle.tree.specs.Tree.{Tree}
use Rattle.tree.specs.Reader.{restriction}
use Rattle.table.specs.Seat.{Cursor}
use Rattle.fetch.specs.Request.{request}
use Rattle.fetch.specs.declared.Request.{Request}
use Rattle.page.specs.Field.{field_of}
use Rattle.page.specs.Page.{end_of_rows}
use Rattle.page.specs.Reads.{row_place, Reads}
use Rattle.promises.specs.Calls.{Event}
use Rattle.promises.specs.Opens.{Selects}
use Rattle.promises.specs.Client.{Account, after_call, told}
use Rattle.promises.specs.Rows.{count_in, status_in, RowsReply}

-- an accepted request for rows, the bindings that were in force, and the reply's bytes
pub record Page : Type 0 where
  pub message : List ℕ
  pub width : ℕ
  pub columns : List Column
  pub reply : List ℕ

-- what a client notes of a cursor: the bytes of the tree that opened it, the bindings in force, and all pages since, in order
pub record Notes : Type 0 where
  pub tree : List ℕ
  pub width : ℕ
  pub columns : List Column
  pub pages : List Page

abbrev pub page_of : Notes → List ℕ → List ℕ → Page
page_of n m reply = record { message = m; width = n.width; columns = n.columns; reply = reply }

abbrev pub notes_account : Account Notes
notes_account =
    record {
      begins = λ tree. record { tree = tree; width = 0; columns = []; pages = [] };
      carries = λ m reply n. record { tree = n.tree; width = n.width; columns = n.columns; pages = n.pages ++ (page_of n m reply ∷ []) };
      binds = λ b n. record { tree = n.tree; width = b.width; columns = b.columns; pages = n.pages };
    }

abbrev pub notes_told : ℕ → ℕ → List Event → Option Notes
notes_told seat handle events = told (after_call notes_account seat handle) None events

-- the cursor that has carried so many rows of a selection
abbrev pub cursor_at : ℕ → List ℕ → Page → Cursor
cursor_at position selection p = record { position = position; selection = selection; width = p.width; columns = p.columns }

-- a page shows a part of a selection, after the rows that were carried before it
pub record Shows (rows : List Row) (selection before part : List ℕ) (p : Page) : Type 0 where
  pub asked : Request
  pub body : request p.message ≡ Some asked
  pub bound : Sound p.width p.columns
  -- its rows, by its own bytes: as many as the word at 16 says, and each bound field that of the row with the part's number, its text at
  -- the place that its own offset names
  pub count : count_in p.reply ≡ length part
  pub fields : (j k : ℕ) → j < length part → k < length p.columns
      → (place : ℕ)
      × Reads p.reply asked.base (row_place asked.from p.width j) place (column p.columns k)
      (field_of (column p.columns k).property (row_in rows (get_or part j 0)))
  -- with those before, they are the first rows of the selection, and the status says the end exactly if they are all of it
  pub first : before ++ part ≡ take (length (before ++ part)) selection
  pub ends : (status_in p.reply ≡ end_of_rows) ↔ (before ++ part ≡ selection)
  -- and all else that demand 2 says of a reply: so no row is withheld that was asked for, remains and fits
  pub says : RowsReply rows (cursor_at (length before) selection p) asked p.reply

-- the pages in order, each with its part, after the rows that were carried before them
abbrev pub EachShows : List Row → List ℕ → List ℕ → List (List ℕ) → List Page → Type 0
EachShows rows selection before [] [] = Unit {0}
EachShows rows selection before (part ∷ parts) (p ∷ pages) =
    Shows rows selection before part p × EachShows rows selection (before ++ part) parts pages
EachShows rows selection before [] (p ∷ pages) = ⊥
EachShows rows selection before (part ∷ parts) [] = ⊥

unfoldable pub joined : List (List ℕ) → List ℕ
joined [] = []
joined (part ∷ parts) = part ++ joined parts

-- the walk of a cursor: the rows that its tree holds for, rising, and of these the first, a part to each page, each once
pub record Walk (rows : List Row) (n : Notes) : Type 0 where
  pub tree : Tree
  pub read : restriction n.tree ≡ Some tree
  pub selection : List ℕ
  pub selects : Selects rows tree selection
  pub parts : List (List ℕ)
  pub shows : EachShows rows selection [] parts n.pages
  pub first : joined parts ≡ take (length (joined parts)) selection
