-- Each kind of message: the causes of its body, and what it leaves where none applies. Assumes nothing.
use mathlib.Core.Path.{◌≡◌, refl, sym, ap, ap₂, ◌∙◌}
use mathlib.Core.Bool.{true, false}
use mathlib.Core.List.{List, ◌++◌, append_assoc}
use Rattle.std.specs.Prelude.{Option, None, Some, Ok}
use Prim.Native.Nat.{ℕ, ◌+◌}
use borrow.Author.Tests.{eq-eqb, ne_eqb}
use lib.Dec.{eqb}
use lib.ListN.{length, drop}
use lib.Seq.{take_at, drop-append-add, drop-drop}
use Rattle.wire.specs.Word.{le}
use Rattle.lists.proofs.Below.{by_test}
use Rattle.lists.proofs.Options.{some_is}
use Rattle.catalogue.specs.Plain.{Row}
use Rattle.wire.specs.Laid.{lay, four_words}
use Rattle.table.specs.Layout.{cursor_size, cursor_place}
use Rattle.lists.specs.Parts.{put, zeros}
use Rattle.table.specs.Seat.{Cursor, Seat, cursor_words, seat_words, seat_in, seat_of, cursor_in, with_cursor}
use Rattle.table.specs.Fits.{CursorOk, SeatOk}
use Rattle.table.proofs.Seats.{cursor_words_lem, seat_words_lem}
use Rattle.table.proofs.Writes.{first_put, second_put}
use Rattle.refusal.specs.Refusal.{first_cause}
use Rattle.message.specs.Message.{handle_of, freed, body_causes, done_on, seat_message}
use Rattle.table.specs.Open.{is_open, still_open}
use Rattle.message.specs.AnswerReady.{AdmittedReady}
use Rattle.message.specs.AnswerTold.{Answers}
use Rattle.message.proofs.Answering.{lay_front, seat_is, seat_fits, body_done}

-- a cursor put under a handle is that of the seat with the cursor
pub put_handle : (s : Seat) (handle : ℕ) (o : Option Cursor) → CursorOk s.first → CursorOk s.second
    → put (seat_words (Some s)) (cursor_place handle) cursor_size (cursor_words o) ≡ seat_words (Some (with_cursor s handle o))
put_handle s handle o f g =
    by_test (eqb handle 1)
    (λ q. rw q (first_put s o (cursor_words_lem s.first f).size))
    (λ q. rw q (second_put s o (cursor_words_lem s.first f).size (cursor_words_lem s.second g).size))

pub with_fits : (s : Seat) (handle : ℕ) (o : Option Cursor) → CursorOk s.first → CursorOk s.second → CursorOk o → SeatOk (Some (with_cursor s handle o))
with_fits s handle o f g h = by_test (eqb handle 1) (λ q. rw q (h, g)) (λ q. rw q (f, h))

-- the seat that the words of a seat hold
pub seat_read : (s : Seat) → SeatOk (Some s) → seat_in (seat_words (Some s)) ≡ s
seat_read s f = some_is (seat_words_lem (Some s) f).held

-- bytes laid after the first sixteen
lay_after : (t a b : List ℕ) → length a ≡ 16 → lay (lay t 0 a) 16 b ≡ (a ++ b) ++ drop (16 + length b) t
unfolding lay
lay_after t a b l =
    ap (λ (x : List ℕ). lay x 16 b) (lay_front t a ∙ ap (λ (n : ℕ). a ++ drop n t) l)
    ∙ ap₂ (λ (x y : List ℕ). x ++ (b ++ y)) (take_at a (drop 16 t) 16 l) rest
    ∙ sym (append_assoc a b (drop (16 + length b) t))
  where
    rest : drop (16 + length b) (a ++ drop 16 t) ≡ drop (16 + length b) t
    rest =
        ap (λ (n : ℕ). drop (n + length b) (a ++ drop 16 t)) (sym l)
        ∙ drop-append-add a (drop 16 t) (length b)
        ∙ drop-drop (length b) 16 t

-- disconnect
module _ (b m reply : List ℕ) (msg : ℕ) (a : AdmittedReady b m reply msg 0) (rows : List Row) where
  pub body_there : (length m ≡ 16 → ⊥) → first_cause (body_causes rows 0 (seat_in b) m) ≡ 9
  unfolding first_cause
  body_there e = rw (ne_eqb (length m) 16 e)

  pub disconnected : length m ≡ 16 → (words : List ℕ) → words ≡ zeros (length b)
      → Answers (seat_message rows (seat_of b) m) (Ok 0) words reply reply
  unfolding first_cause
  disconnected e words z =
      let o : seat_message rows (seat_of b) m ≡ done_on rows 0 (seat_in b) m = body_done b m reply msg 0 a rows (rw (eq-eqb (length m) 16 e)) in
      rw o record { refused = refl; counted = refl; kept = z ∙ ap zeros a.given.size; written = refl }

-- free cursor
module _ (b m reply : List ℕ) (msg : ℕ) (a : AdmittedReady b m reply msg 1) (rows : List Row) where
  pub not_four : (length m ≡ 20 → ⊥) → first_cause (body_causes rows 1 (seat_in b) m) ≡ 9
  unfolding first_cause
  not_four e = rw (ne_eqb (length m) 20 e)

  pub not_open_lem : length m ≡ 20 → is_open (cursor_in (seat_in b) (handle_of m)) ≡ false → first_cause (body_causes rows 1 (seat_in b) m) ≡ 10
  unfolding first_cause
  not_open_lem e o = rw (eq-eqb (length m) 20 e, o)

  pub freed_words : put b (cursor_place (handle_of m)) cursor_size (cursor_words None) ≡ seat_words (Some (freed (seat_in b) m))
  freed_words =
      ap (λ (x : List ℕ). put x (cursor_place (handle_of m)) cursor_size (cursor_words None)) (seat_is b m reply msg 1 a)
      ∙ put_handle (seat_in b) (handle_of m) None (seat_fits b m reply msg 1 a).0 (seat_fits b m reply msg 1 a).1

  pub freed_answers : length m ≡ 20 → is_open (cursor_in (seat_in b) (handle_of m)) ≡ true → (words exit : List ℕ) (left : ℕ)
      → words ≡ put b (cursor_place (handle_of m)) cursor_size (cursor_words None) → left ≡ still_open (seat_in words)
      → exit ≡ lay (lay reply 0 (four_words msg 0 0 0)) 16 (le 4 left)
      → Answers (seat_message rows (seat_of b) m) (Ok 20) words reply exit
  unfolding first_cause le
  freed_answers e o words exit left p l w =
      let d : seat_message rows (seat_of b) m ≡ done_on rows 1 (seat_in b) m = body_done b m reply msg 1 a rows (rw (eq-eqb (length m) 20 e, o)) in
      let k : words ≡ seat_words (Some (freed (seat_in b) m)) = p ∙ freed_words in
      let n : left ≡ still_open (freed (seat_in b) m)
      = l ∙ ap (λ (x : List ℕ). still_open (seat_in x)) k
      ∙ ap still_open (seat_read (freed (seat_in b) m) (with_fits (seat_in b) (handle_of m) None (seat_fits b m reply msg 1 a).0 (seat_fits b m reply msg 1 a).1 tt)) in
      rw d
      record {
        refused = refl;
        counted = refl;
        kept = k;
        written =
            w
            ∙ lay_after reply (four_words msg 0 0 0) (le 4 left) refl
            ∙ ap₂ (λ (x y : ℕ). (four_words x 0 0 0 ++ le 4 y) ++ drop 20 reply) a.msg_is n;
      }
