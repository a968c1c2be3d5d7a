-- What the writes of a seat and of a cursor leave: the words of the seat or cursor that is meant. Assumes nothing.
use mathlib.Core.Path.{◌≡◌, refl, ap, ap₂, ◌∙◌}
use mathlib.Core.List.{List, [], ◌∷◌, ◌++◌, append-nil}
use Rattle.std.specs.Prelude.{Option, None, Some}
use Prim.Native.Nat.{ℕ, ◌-◌, ◌≤◌}
use native.Mathlib.Omega.{arith}
use lib.ListN.{length, drop, set, length-replicate, drop_of_length-le}
use lib.Seq.{take_at, drop_at}
use Rattle.bindings.specs.Column.{records_of, words_of}
use Rattle.bindings.specs.declared.Column.{Column}
use Rattle.table.specs.Layout.{seat_size, cursor_size, first_at, second_at, open_at, position_at, count_at, columns_at, width_at, records_at, records_size, rows_at, rows_size}
use Rattle.lists.specs.Parts.{put, zeros}
use Rattle.table.specs.Seat.{Cursor, Seat, cursor_words, seat_words, fresh, opened, rebound, moved}
use Rattle.table.proofs.Shown.{words_length}

pub connect_words : (words : List ℕ) (version : ℕ) → words ≡ seat_words None → set (set words 0 1) 1 version ≡ seat_words (Some (fresh version))
connect_words words version e = ap (λ (b : List ℕ). set (set b 0 1) 1 version) e

pub words_fit : (words : List ℕ) → words ≡ seat_words None → length words ≡ seat_size
words_fit words e = ap length e ∙ length-replicate {A = ℕ} seat_size 0

-- a cursor that is opened: the selection stands in its words already
pub opened_words : (selection : List ℕ) → length selection ≤ rows_size
    → set (set (put (cursor_words None) rows_at rows_size (selection ++ zeros (rows_size - length selection))) open_at 1) count_at (length selection)
    ≡ cursor_words (Some (opened selection))
unfolding words_of records_of
opened_words selection h =
    ap (λ (r : List ℕ). 1 ∷ 0 ∷ length selection ∷ 0 ∷ 0 ∷ (words_of [] ++ r)) (append-nil (selection ++ zeros (rows_size - length selection)))

-- a cursor that is moved, and one that is bound
pub moved_words : (c : Cursor) (position : ℕ) → set (cursor_words (Some c)) position_at position ≡ cursor_words (Some (moved c position))
moved_words c position = refl

pub rebound_words : (c : Cursor) (width : ℕ) (columns : List Column)
    → put (set (set (cursor_words (Some c)) columns_at (length columns)) width_at width) records_at records_size (words_of columns)
    ≡ cursor_words (Some (rebound c width columns))
rebound_words c width columns =
    ap (λ (r : List ℕ). 1 ∷ c.position ∷ length c.selection ∷ length columns ∷ width ∷ (words_of columns ++ r))
    (drop_at (words_of c.columns) (c.selection ++ zeros (rows_size - length c.selection)) records_size (words_length c.columns))

-- the cursor of a handle put into a seat's words
pub first_put : (s : Seat) (o : Option Cursor) → length (cursor_words s.first) ≡ cursor_size
    → put (seat_words (Some s)) first_at cursor_size (cursor_words o) ≡ seat_words (Some (record { version = s.version; first = o; second = s.second }))
first_put s o l = ap (λ (r : List ℕ). 1 ∷ s.version ∷ (cursor_words o ++ r)) (drop_at (cursor_words s.first) (cursor_words s.second) cursor_size l)

pub second_put : (s : Seat) (o : Option Cursor) → length (cursor_words s.first) ≡ cursor_size → length (cursor_words s.second) ≡ cursor_size
    → put (seat_words (Some s)) second_at cursor_size (cursor_words o) ≡ seat_words (Some (record { version = s.version; first = s.first; second = o }))
second_put s o l m =
    ap₂ (λ (a b : List ℕ). 1 ∷ s.version ∷ (a ++ (cursor_words o ++ b)))
    (take_at (cursor_words s.first) (cursor_words s.second) cursor_size l)
    (ap (drop cursor_size) (drop_at (cursor_words s.first) (cursor_words s.second) cursor_size l)
    ∙ drop_of_length-le (cursor_words s.second) {i = cursor_size} (omega (arith, m)))
    ∙ ap (λ (r : List ℕ). 1 ∷ s.version ∷ (cursor_words s.first ++ r)) (append-nil (cursor_words o))
