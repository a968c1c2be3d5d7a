-- Setting bindings: the causes of its body, and what it leaves where none applies. Assumes nothing.
use mathlib.Core.Path.{◌≡◌, refl, sym, ap, ap₂, ◌∙◌}
use mathlib.Core.Bool.{Bool, true, false}
use mathlib.Core.List.{List, ◌++◌}
use Rattle.std.specs.Prelude.{Option, None, Some, Ok}
use Prim.Native.Nat.{ℕ, ◌-◌, ◌<◌}
use native.Mathlib.Omega.{arith}
use lib.Dec.{leb, eqb}
use lib.ListN.{length, take, drop, set}
use lib.Seq.{take_at, drop_at, take_all}
use Rattle.lists.specs.Below.{pick}
use Rattle.wire.specs.Word.{number_at, le}
use Rattle.lists.proofs.Below.{by_test, true≢false}
use Rattle.lists.proofs.Options.{none≢some, some_is}
use Rattle.catalogue.specs.Plain.{Row}
use Rattle.bindings.specs.Column.{columns_of, words_of}
use Rattle.bindings.specs.Fit.{fit}
use Rattle.bindings.specs.declared.Column.{Column}
use Rattle.bindings.specs.BindingsPlaces.{columns_on, bindings_on, width_at, described_at, count_at, columns_at}
use Rattle.bindings.specs.Plain.{Bindings, bindings}
use Rattle.wire.specs.Header.{handle_at}
use Rattle.lists.specs.Options.{and_then}
use Rattle.bindings.specs.BindingsTold.{answer, words_read, Told}
use Rattle.bindings.specs.declared.BindingsRead.{BindingsRead}
use Rattle.bindings.proofs.Agree.{bindings_agree}
use Rattle.bindings.proofs.ReadJudged.{told_fit}
use Rattle.refusal.proofs.First.{first_under}
use Rattle.wire.specs.Laid.{lay, four_words}
use Rattle.table.specs.Layout.{cursor_size, cursor_place}
use Rattle.lists.specs.Parts.{part, put}
use Rattle.table.specs.Seat.{Cursor, Seat, cursor_words, seat_words, seat_in, seat_of, cursor_in, rebound}
use Rattle.table.specs.Fits.{CursorOk}
use Rattle.table.proofs.Seats.{cursor_words_lem}
use Rattle.table.proofs.Writes.{rebound_words}
use Rattle.refusal.specs.Refusal.{first_cause}
use Rattle.message.specs.Message.{handle_of, body_causes, bound_to, done_on, seat_message}
use Rattle.message.specs.MessagePlaces.{rebound_at}
use Rattle.table.specs.Open.{is_open}
use Rattle.message.specs.AnswerReady.{AdmittedReady}
use Rattle.message.specs.AnswerTold.{Answers, bindings_found}
use Rattle.message.proofs.Answering.{lay_front, seat_is, seat_fits, body_done}
use Rattle.message.proofs.Bodies.{put_handle}

-- the handle that a body was read to is that of its first word
pub handle_is : (m : List ℕ) (x : Bindings) → bindings m ≡ Some x → x.handle ≡ handle_of m
unfolding bindings_on
handle_is m x e =
    by_test (leb columns_at (length m))
    (λ q.
    by_test (eqb (number_at 4 m described_at) (length m - count_at))
    (λ d. columns (columns_on (number_at 4 m count_at) m columns_at) (rw (q, d) at on))
    (λ d. absurd (none≢some (rw (q, d) at on))))
    (λ q. absurd (none≢some (rw q at on)))
  where
    on : bindings_on m ≡ Some x
    on = sym (bindings_agree m) ∙ e

    columns : (o : Option (List Column))
        → and_then o (λ s. Some (record { handle = number_at 4 m handle_at; width = number_at 4 m width_at; columns = s })) ≡ Some x
        → x.handle ≡ handle_of m
    columns None w = absurd (none≢some w)
    columns (Some s) w = sym (ap (λ (b : Bindings). b.handle) (some_is w))

pub open_some : (o : Option Cursor) → is_open o ≡ true → (c : Cursor) × (o ≡ Some c)
open_some None e = absurd (true≢false (sym e))
open_some (Some c) e = (c, refl)

-- the part of a handle's cursor is that cursor's words
pub part_handle : (s : Seat) (handle : ℕ) (c : Cursor) → CursorOk s.first → CursorOk s.second → cursor_in s handle ≡ Some c
    → part (seat_words (Some s)) (cursor_place handle) cursor_size ≡ cursor_words (Some c)
part_handle s handle c f g e =
    by_test (eqb handle 1)
    (λ q. rw q (take_at (cursor_words s.first) (cursor_words s.second) cursor_size (cursor_words_lem s.first f).size ∙ ap cursor_words (rw q at e)))
    (λ q. rw q (second (rw q at e)))
  where
    second : pick (eqb handle 2) s.second None ≡ Some c
        → take cursor_size (drop cursor_size (cursor_words s.first ++ cursor_words s.second)) ≡ cursor_words (Some c)
    second w =
        by_test (eqb handle 2)
        (λ k.
        ap (take cursor_size) (drop_at (cursor_words s.first) (cursor_words s.second) cursor_size (cursor_words_lem s.first f).size)
        ∙ take_all cursor_size (cursor_words s.second) (omega (arith, (cursor_words_lem s.second g).size))
        ∙ ap cursor_words (rw k at w))
        (λ k. absurd (none≢some (rw k at w)))

-- what the reader of a body told
told_none : (m exit : List ℕ) → Told m None exit → bindings m ≡ None
told_none m exit t = go (bindings m) refl
  where
    go : (o : Option Bindings) → bindings m ≡ o → bindings m ≡ None
    go None p = p
    go (Some x) p = absurd (none≢some (t.answered ∙ ap answer p))

pub record ReadAs (m : List ℕ) (r : BindingsRead) (exit : List ℕ) (x : Bindings) : Type 0 where
  pub is : bindings m ≡ Some x
  pub handle : r.handle ≡ handle_of m
  pub width : r.width ≡ x.width
  pub count : r.count ≡ length x.columns
  pub words : exit ≡ words_of x.columns

told_some : (m : List ℕ) (r : BindingsRead) (exit : List ℕ) → Told m (Some r) exit → (x : Bindings) × ReadAs m r exit x
told_some m r exit t = go (bindings m) refl
  where
    go : (o : Option Bindings) → bindings m ≡ o → (x : Bindings) × ReadAs m r exit x
    go None p = absurd (none≢some (sym (t.answered ∙ ap answer p)))
    go (Some x) p =
        let a = some_is (t.answered ∙ ap answer p) in (
          x,
          record {
            is = p;
            handle = ap (λ (k : BindingsRead). k.handle) a ∙ handle_is m x p;
            width = ap (λ (k : BindingsRead). k.width) a;
            count = ap (λ (k : BindingsRead). k.count) a;
            words = t.left ∙ ap words_read p;
          },
        )

-- nothing is found where none of the three applies
found_none : (opens fits : Bool) → first_cause (bindings_found false opens fits) ≡ 0 → (opens ≡ true) × (fits ≡ true)
unfolding first_cause
found_none false fits e = absurd (omega (arith, e))
found_none true false e = absurd (omega (arith, e))
found_none true true e = (refl, refl)

pub found_under : (malformed opens fits : Bool) → first_cause (bindings_found malformed opens fits) < 17
found_under malformed opens fits = first_under 17 (bindings_found malformed opens fits) (omega arith) (omega arith, (omega arith, (omega arith, tt)))

rebound_is : (b m records : List ℕ) (x : Bindings) (handle count width : ℕ) → handle ≡ handle_of m → records ≡ words_of x.columns
    → count ≡ length x.columns → width ≡ x.width
    → rebound_at b handle records count width ≡ rebound_at b (handle_of m) (words_of x.columns) (length x.columns) x.width
rebound_is b m records x handle count width h r c w = cc

module _ (b m reply : List ℕ) (msg : ℕ) (a : AdmittedReady b m reply msg 3) (rows : List Row) where
  -- what was found is what the body's causes are: it is malformed, or it was read
  pub unread_causes : (exit : List ℕ) → Told m None exit → 9 ≡ first_cause (body_causes rows 3 (seat_in b) m)
  unfolding first_cause
  unread_causes exit t = rw (told_none m exit t)

  pub found_causes : (r : BindingsRead) (exit : List ℕ) → Told m (Some r) exit → (opens fits : Bool) → opens ≡ is_open (cursor_in (seat_in b) r.handle)
      → fits ≡ fit r.width (columns_of r.count exit)
      → first_cause (bindings_found false opens fits) ≡ first_cause (body_causes rows 3 (seat_in b) m)
  unfolding first_cause
  found_causes r exit t opens fits o f =
      let x = told_some m r exit t in
      let handle : opens ≡ is_open (cursor_in (seat_in b) (handle_of m)) = o ∙ ap (λ (h : ℕ). is_open (cursor_in (seat_in b) h)) x.1.handle in
      let columns : fits ≡ fit x.0.width x.0.columns = f ∙ told_fit m r exit x.0 t x.1.is in
      rw (x.1.is, handle, columns)

  bound_words : (x : Bindings) → bindings m ≡ Some x → (c : Cursor) × (cursor_in (seat_in b) (handle_of m) ≡ Some c)
      → rebound_at b (handle_of m) (words_of x.columns) (length x.columns) x.width
      ≡ seat_words (Some (bound_to (seat_in b) (handle_of m) (cursor_in (seat_in b) (handle_of m)) (bindings m)))
  bound_words x e k =
      ap (λ (y : List ℕ). rebound_at y (handle_of m) (words_of x.columns) (length x.columns) x.width) (seat_is b m reply msg 3 a)
      ∙ ap
      (λ (y : List ℕ).
      put (seat_words (Some (seat_in b))) (cursor_place (handle_of m)) cursor_size
      (put (set (set y 3 (length x.columns)) 4 x.width) 5 45 (words_of x.columns)))
      (part_handle (seat_in b) (handle_of m) k.0 fits.0 fits.1 k.1)
      ∙ ap (put (seat_words (Some (seat_in b))) (cursor_place (handle_of m)) cursor_size) (rebound_words k.0 x.width x.columns)
      ∙ put_handle (seat_in b) (handle_of m) (Some (rebound k.0 x.width x.columns)) fits.0 fits.1
      ∙ ap₂ (λ (o : Option Cursor) (y : Option Bindings). seat_words (Some (bound_to (seat_in b) (handle_of m) o y))) (sym k.1) (sym e)
    where
      fits : CursorOk (seat_in b).first × CursorOk (seat_in b).second
      fits = seat_fits b m reply msg 3 a

  bound_answers : (x : Bindings) → bindings m ≡ Some x → is_open (cursor_in (seat_in b) (handle_of m)) ≡ true → fit x.width x.columns ≡ true
      → (words exit : List ℕ) → words ≡ rebound_at b (handle_of m) (words_of x.columns) (length x.columns) x.width
      → exit ≡ lay reply 0 (four_words msg 0 0 0)
      → Answers (seat_message rows (seat_of b) m) (Ok 16) words reply exit
  unfolding first_cause le
  bound_answers x e o f words exit p w =
      let d : seat_message rows (seat_of b) m ≡ done_on rows 3 (seat_in b) m = body_done b m reply msg 3 a rows (rw (e, o, f)) in
      rw d
      record {
        refused = refl;
        counted = refl;
        kept = p ∙ bound_words x e (open_some (cursor_in (seat_in b) (handle_of m)) o);
        written = w ∙ lay_front reply (four_words msg 0 0 0) ∙ ap (λ (k : ℕ). four_words k 0 0 0 ++ drop 16 reply) a.msg_is;
      }

  -- the same of what was found
  pub found_answers : (r : BindingsRead) (records : List ℕ) → Told m (Some r) records → (opens fits : Bool) → opens ≡ is_open (cursor_in (seat_in b) r.handle)
      → fits ≡ fit r.width (columns_of r.count records) → first_cause (bindings_found false opens fits) ≡ 0
      → (words exit : List ℕ) → words ≡ rebound_at b r.handle records r.count r.width
      → exit ≡ lay reply 0 (four_words msg 0 0 0)
      → Answers (seat_message rows (seat_of b) m) (Ok 16) words reply exit
  found_answers r records t opens fits o f z words exit p w =
      let n = found_none opens fits z in
      let x = told_some m r records t in
      bound_answers x.0 x.1.is (ap (λ (h : ℕ). is_open (cursor_in (seat_in b) h)) (sym x.1.handle) ∙ sym o ∙ n.0)
      (sym (told_fit m r records x.0 t x.1.is) ∙ sym f ∙ n.1)
      words
      exit
      (p ∙ rebound_is b m records x.0 r.handle r.count r.width x.1.handle x.1.words x.1.count x.1.width)
      w
