-- The replies of a cursor, each read by its own bytes, show the first rows of its selection, a part each, and say the end exactly with the
-- last of them. Assumes nothing.
use mathlib.Core.Path.{◌≡◌, refl, sym, ap, subst, ◌∙◌}
use mathlib.Core.Bool.{true}
use mathlib.Core.List.{List, [], ◌∷◌, ◌++◌, append-nil, append_assoc}
use mathlib.Core.Logic.{◌↔◌, ◌⊎◌, inl, inr, ⊎_elim}
use Rattle.std.specs.Prelude.{Option, None, Some}
use Prim.Native.Nat.{ℕ, ◌+◌, ◌<◌}
use native.Mathlib.Omega.{arith}
use borrow.Author.Tests.{eq-eqb, eqb-true}
use lib.Dec.{eqb}
use lib.ListN.{length, get_or, take, drop, length-append, length-drop}
use lib.Seq.{length-take-le, get_or-take, get_or-drop, take-add, take_all}
use Rattle.lists.specs.Below.{both}
use Rattle.lists.proofs.Below.{by_test, both_left, both_right}
use Rattle.lists.proofs.Options.{none≢some, some_is}
use Rattle.catalogue.specs.Plain.{Row, catalogue, row_in}
use Rattle.bindings.specs.Plain.{Bindings, bindings}
use Rattle.bindings.specs.declared.Column.{Column}
use Rattle.bindings.specs.Sound.{column, Sound}
use Rattle.tree.specs.Tree.{Tree}
use Rattle.tree.specs.Reader.{restriction}
use Rattle.table.specs.Layout.{seats}
use Rattle.table.specs.Seat.{Cursor, opened}
use Rattle.fetch.specs.Request.{request}
use Rattle.fetch.specs.declared.Request.{Request}
use Rattle.page.specs.Field.{field_of}
use Rattle.page.specs.Page.{end_of_rows}
use Rattle.page.specs.Reads.{row_place, block_place, Reads}
use Rattle.message.specs.Message.{msg_of, handle_of}
use Rattle.call.specs.Step.{Sources, sources_of}
use Rattle.promises.specs.Calls.{Call, connecting, opening, messaging, seat_of_call, step, Answer, answer_of, history, after, fresh_table}
use Rattle.promises.specs.Client.{Handle, accepted, told, changed, bound, after_message, after_call, cursor_account, held_cursor}
use Rattle.promises.specs.Rows.{count_in, status_in, page_numbers, page_rows, RowsReply}
use Rattle.promises.specs.Opens.{Selects}
use Rattle.promises.specs.Walk.{Page, Notes, page_of, notes_account, notes_told, cursor_at, Shows, EachShows, joined, Walk}
use Rattle.promises.proofs.Refusals.{accepted_passes}
use Rattle.promises.proofs.Carried.{cursor_unheard, step_told}
use Rattle.promises.proofs.Fetched.{fresh_none, sends}
use Rattle.promises.proofs.Opened.{opens}

-- a page more
module _ (rows : List Row) (selected : List ℕ) where
  shows_further : (before : List ℕ) (parts : List (List ℕ)) (pages : List Page) (part : List ℕ) (p : Page) → EachShows rows selected before parts pages
      → Shows rows selected (before ++ joined parts) part p → EachShows rows selected before (parts ++ (part ∷ [])) (pages ++ (p ∷ []))
  unfolding joined
  shows_further before [] [] part p w s = (subst (λ (x : List ℕ). Shows rows selected x part p) (append-nil before) s, tt)
  shows_further before (first ∷ parts) (q ∷ pages) part p w s =
      (w.0, shows_further (before ++ first) parts pages part p w.1 (subst (λ (x : List ℕ). Shows rows selected x part p) (sym (append_assoc before first (joined parts))) s))
  shows_further before [] (q ∷ pages) part p w s = absurd w
  shows_further before (first ∷ parts) [] part p w s = absurd w

joined_further : (parts : List (List ℕ)) (part : List ℕ) → joined (parts ++ (part ∷ [])) ≡ joined parts ++ part
unfolding joined
joined_further [] part = append-nil part
joined_further (first ∷ parts) part =
    ap (λ (x : List ℕ). first ++ x) (joined_further parts part) ∙ sym (append_assoc first (joined parts) part)

-- the notes and the cursor after some calls
record Kept (rows : List Row) (n : Notes) (c : Cursor) : Type 0 where
  tree : Tree
  read : restriction n.tree ≡ Some tree
  selects : Selects rows tree c.selection
  width : c.width ≡ n.width
  columns : c.columns ≡ n.columns
  parts : List (List ℕ)
  position : c.position ≡ length (joined parts)
  first : joined parts ≡ take c.position c.selection
  shows : EachShows rows c.selection [] parts n.pages

abbrev Agree : List Row → Option Notes → Option Cursor → Type 0
Agree rows None None = Unit {0}
Agree rows (Some n) (Some c) = Kept rows n c
Agree rows None (Some c) = ⊥
Agree rows (Some n) None = ⊥

-- a reply that carries the next rows
module _ (rows : List Row) (n : Notes) (c : Cursor) (k : Kept rows n c) (m reply : List ℕ) (q : Request) (body : request m ≡ Some q)
    (fit : Sound c.width c.columns) (says : RowsReply rows c q reply) where
  part : List ℕ
  part = page_numbers c reply

  part_count : length part ≡ count_in reply
  unfolding part
  part_count =
      length-take-le (count_in reply) (drop c.position c.selection) (omega (arith, says.left, length-drop c.position c.selection))

  all_count : length (joined k.parts ++ part) ≡ c.position + count_in reply
  all_count = omega (arith, length-append (joined k.parts) part, part_count, k.position)

  all_first : joined k.parts ++ part ≡ take (c.position + count_in reply) c.selection
  unfolding part
  all_first =
      ap (λ (x : List ℕ). x ++ page_numbers c reply) k.first ∙ sym (take-add c.position (count_in reply) c.selection)

  ends : (status_in reply ≡ end_of_rows) ↔ (joined k.parts ++ part ≡ c.selection)
  ends = (
    λ e. all_first ∙ take_all (c.position + count_in reply) c.selection (omega (arith, says.ends.0 e)),
    λ e. says.ends.1 (sym all_count ∙ ap length e),
  )

  cursor_is : c ≡ cursor_at (length (joined k.parts)) c.selection (page_of n m reply)
  cursor_is = rw (sym k.position, sym k.width, sym k.columns)

  fields : (j i : ℕ) → j < length part → i < length c.columns
      → (place : ℕ)
      × Reads reply q.base (row_place q.from c.width j) place (column c.columns i)
      (field_of (column c.columns i).property (row_in rows (get_or part j 0)))
  unfolding part
  fields j i h l =
      let inside : j < count_in reply = omega (arith, part_count) in
      let number : get_or c.selection (c.position + j) 0 ≡ get_or (page_numbers c reply) j 0
      = sym (get_or-take (count_in reply) (drop c.position c.selection) j 0 inside ∙ get_or-drop c.position c.selection j 0) in
      let place = block_place q.size c.columns (page_rows rows c reply) j i in (
        place,
        subst
            (λ (x : ℕ). Reads reply q.base (row_place q.from c.width j) place (column c.columns i) (field_of (column c.columns i).property (row_in rows x)))
            number
            (says.reads j i inside l),
      )

  page_shows : Shows rows c.selection (joined k.parts) part (page_of n m reply)
  page_shows =
      record {
        asked = q;
        body = body;
        bound = subst (λ (x : ℕ). Sound x n.columns) k.width (subst (Sound c.width) k.columns fit);
        count = sym part_count;
        fields =
            subst
            (λ (x : ℕ). (j i : ℕ) → j < length part → i < length n.columns
            → (place : ℕ) × Reads reply q.base (row_place q.from x j) place (column n.columns i) (field_of (column n.columns i).property (row_in rows (get_or part j 0))))
            k.width
            (subst
            (λ (x : List Column). (j i : ℕ) → j < length part → i < length x
            → (place : ℕ) × Reads reply q.base (row_place q.from c.width j) place (column x i) (field_of (column x i).property (row_in rows (get_or part j 0))))
            k.columns
            fields);
        first = all_first ∙ ap (λ (x : ℕ). take x c.selection) (sym all_count);
        ends = ends;
        says = subst (λ (x : Cursor). RowsReply rows x q reply) cursor_is says;
      }

  carried : (src : Sources) → Kept rows (notes_account.carries m reply n) ((cursor_account src).carries m reply c)
  carried src =
      record {
        tree = k.tree;
        read = k.read;
        selects = k.selects;
        width = k.width;
        columns = k.columns;
        parts = k.parts ++ (part ∷ []);
        position = sym (ap length (joined_further k.parts part) ∙ all_count);
        first = joined_further k.parts part ∙ all_first;
        shows = shows_further rows c.selection [] k.parts n.pages part (page_of n m reply) k.shows page_shows;
      }

-- a call in any table, for a cursor that agrees with the notes
module _ (s : List ℕ) (rows : List Row) (e : catalogue s ≡ Some rows) (seat handle : ℕ) (h : seat < seats) (n : Handle handle) where
  module _ (t : List ℕ) where
    begins : (tree : List ℕ) → (step (sources_of s) t (opening seat tree)).refusal ≡ 0 → (step (sources_of s) t (opening seat tree)).handle ≡ handle
        → Agree rows (Some (notes_account.begins tree)) (held_cursor (step (sources_of s) t (opening seat tree)).words seat handle)
    unfolding joined
    begins tree z g =
        let x = opens s t seat tree z in
        let same : x.rows ≡ rows = some_is (sym x.parsed ∙ e) in
        let cursor = subst (λ (j : ℕ). held_cursor (step (sources_of s) t (opening seat tree)).words seat j ≡ Some (opened x.selection)) g x.cursor in
        subst (Agree rows (Some (notes_account.begins tree))) (sym cursor)
        record {
          tree = x.tree;
          read = x.read;
          selects = subst (λ (r : List Row). Selects r x.tree x.selection) same x.selects;
          width = refl;
          columns = refl;
          parts = [];
          position = refl;
          first = refl;
          shows = tt;
        }

    module _ (m : List ℕ) (room : ℕ) (z : (step (sources_of s) t (messaging seat m room)).refusal ≡ 0) where
      reply : List ℕ
      reply = (answer_of (step (sources_of s) t (messaging seat m room))).reply

      rows_agree : handle_of m ≡ handle → msg_of m ≡ 0xCC → (o : Option Notes) (p : Option Cursor) → held_cursor t seat handle ≡ p → Agree rows o p
          → Agree rows (changed (notes_account.carries m reply) o) (changed ((cursor_account (sources_of s)).carries m reply) p)
      unfolding reply
      rows_agree g k None None w a = tt
      rows_agree g k (Some x) (Some c) w a =
          let v = (sends s rows e t seat m room z k).0 in
          let same : v.cursor ≡ c = some_is (sym v.held ∙ ap (held_cursor t seat) g ∙ w) in
          carried rows x c a m (step (sources_of s) t (messaging seat m room)).reply v.asked v.body
          (subst (λ (y : Cursor). Sound y.width y.columns) same v.bound)
          (subst (λ (y : Cursor). RowsReply rows y v.asked (step (sources_of s) t (messaging seat m room)).reply) same v.says)
          (sources_of s)
      rows_agree g k None (Some c) w a = absurd a
      rows_agree g k (Some x) None w a = absurd a

      bound_agree : (b : Option Bindings) (o : Option Notes) (p : Option Cursor) → Agree rows o p
          → Agree rows (changed (bound notes_account.binds b) o) (changed (bound (cursor_account (sources_of s)).binds b) p)
      bound_agree b None None a = tt
      bound_agree None (Some x) (Some c) a = a
      bound_agree (Some b) (Some x) (Some c) a =
          record {
            tree = a.tree;
            read = a.read;
            selects = a.selects;
            width = refl;
            columns = refl;
            parts = a.parts;
            position = a.position;
            first = a.first;
            shows = a.shows;
          }
      bound_agree b None (Some c) a = absurd a
      bound_agree b (Some x) None a = absurd a

      message_agree : (o : Option Notes) → Agree rows o (held_cursor t seat handle)
          → Agree rows (after_message notes_account handle m reply o) (after_message (cursor_account (sources_of s)) handle m reply (held_cursor t seat handle))
      message_agree o a =
          by_test (eqb (msg_of m) 0xC9)
          (λ q. rw q tt)
          (λ q.
          by_test (eqb (handle_of m) handle)
          (λ g.
          by_test (eqb (msg_of m) 0xCB)
          (λ f. rw (q, g, f) tt)
          (λ f.
          by_test (eqb (msg_of m) 0xCC)
          (λ k. rw (q, g, f, k) (rows_agree (eqb-true (handle_of m) handle g) (eqb-true (msg_of m) 0xCC k) o (held_cursor t seat handle) refl a))
          (λ k. rw (q, g, f, k) (bound_agree (bindings m) o (held_cursor t seat handle) a))))
          (λ g. rw (q, g) a))

    -- a call that is accepted
    heard_open : (tree : List ℕ) (o : Option Notes) → (step (sources_of s) t (opening seat tree)).refusal ≡ 0 → Agree rows o (held_cursor t seat handle)
        → Agree rows (after_call notes_account seat handle o (opening seat tree) (answer_of (step (sources_of s) t (opening seat tree))))
        (held_cursor (step (sources_of s) t (opening seat tree)).words seat handle)
    heard_open tree o z a =
        let own = eq-eqb seat seat refl in
        let taken = eq-eqb (step (sources_of s) t (opening seat tree)).refusal 0 z in
        by_test (eqb (step (sources_of s) t (opening seat tree)).handle handle)
        (λ q. rw (own, taken, q) (begins tree z (eqb-true (step (sources_of s) t (opening seat tree)).handle handle q)))
        (λ q. rw (own, taken, q) (subst (Agree rows o) (sym (step_told s t (opening seat tree) seat handle h n ∙ rw (own, taken, q))) a))

    heard_message : (m : List ℕ) (room : ℕ) (o : Option Notes) → (step (sources_of s) t (messaging seat m room)).refusal ≡ 0
        → Agree rows o (held_cursor t seat handle)
        → Agree rows (after_call notes_account seat handle o (messaging seat m room) (answer_of (step (sources_of s) t (messaging seat m room))))
        (held_cursor (step (sources_of s) t (messaging seat m room)).words seat handle)
    unfolding reply
    heard_message m room o z a =
        let own = eq-eqb seat seat refl in
        let taken = eq-eqb (step (sources_of s) t (messaging seat m room)).refusal 0 z in
        subst (Agree rows (after_call notes_account seat handle o (messaging seat m room) (answer_of (step (sources_of s) t (messaging seat m room)))))
        (sym (step_told s t (messaging seat m room) seat handle h n))
        (rw (own, taken) (message_agree m room z o a))

    heard : (o : Option Notes) (c : Call) → seat_of_call c ≡ seat → (step (sources_of s) t c).refusal ≡ 0 → Agree rows o (held_cursor t seat handle)
        → Agree rows (after_call notes_account seat handle o c (answer_of (step (sources_of s) t c))) (held_cursor (step (sources_of s) t c).words seat handle)
    heard o (connecting k version) g z a = subst (Agree rows o) (sym (step_told s t (connecting k version) seat handle h n)) a
    heard o (opening k tree) g z a =
        subst
        (λ (j : ℕ). (step (sources_of s) t (opening j tree)).refusal ≡ 0
        → Agree rows (after_call notes_account seat handle o (opening j tree) (answer_of (step (sources_of s) t (opening j tree))))
        (held_cursor (step (sources_of s) t (opening j tree)).words seat handle))
        (sym g) (λ y. heard_open tree o y a) z
    heard o (messaging k m room) g z a =
        subst
        (λ (j : ℕ). (step (sources_of s) t (messaging j m room)).refusal ≡ 0
        → Agree rows (after_call notes_account seat handle o (messaging j m room) (answer_of (step (sources_of s) t (messaging j m room))))
        (held_cursor (step (sources_of s) t (messaging j m room)).words seat handle))
        (sym g) (λ y. heard_message m room o y a) z

    -- any call
    step_agrees : (o : Option Notes) (c : Call) → Agree rows o (held_cursor t seat handle)
        → Agree rows (after_call notes_account seat handle o c (answer_of (step (sources_of s) t c))) (held_cursor (step (sources_of s) t c).words seat handle)
    step_agrees o c a =
        let answer = answer_of (step (sources_of s) t c) in
        by_test (accepted seat (seat_of_call c) answer)
        (λ q.
        heard o c
        (eqb-true (seat_of_call c) seat (both_left (eqb (seat_of_call c) seat) (eqb answer.refusal 0) q))
        (eqb-true answer.refusal 0 (both_right (eqb (seat_of_call c) seat) (eqb answer.refusal 0) q))
        a)
        (λ q.
        subst (λ (x : Option Notes). Agree rows x (held_cursor (step (sources_of s) t c).words seat handle)) (sym (cursor_unheard notes_account seat handle c o answer q))
        (subst (Agree rows o)
        (sym (step_told s t c seat handle h n ∙ cursor_unheard (cursor_account (sources_of s)) seat handle c (held_cursor t seat handle) answer q)) a))

  -- any calls
  calls_agree : (t : List ℕ) (calls : List Call) (o : Option Notes) → Agree rows o (held_cursor t seat handle)
      → Agree rows (told (after_call notes_account seat handle) o (history (sources_of s) t calls)) (held_cursor (after (sources_of s) t calls) seat handle)
  unfolding told history after
  calls_agree t [] o a = a
  calls_agree t (c ∷ calls) o a =
      calls_agree (step (sources_of s) t c).words calls (after_call notes_account seat handle o c (answer_of (step (sources_of s) t c))) (step_agrees t o c a)

  -- so what is noted of a cursor is a walk through its selection
  noted_walks : (calls : List Call) (noted : Notes) → notes_told seat handle (history (sources_of s) fresh_table calls) ≡ Some noted → Walk rows noted
  noted_walks calls noted w =
      go (held_cursor (after (sources_of s) fresh_table calls) seat handle)
      (subst (λ (o : Option Notes). Agree rows o (held_cursor (after (sources_of s) fresh_table calls) seat handle)) w
      (calls_agree fresh_table calls None (subst (Agree rows None) (sym (fresh_none seat handle h)) tt)))
    where
      go : (p : Option Cursor) → Agree rows (Some noted) p → Walk rows noted
      go None a = absurd a
      go (Some c) a =
          record {
            tree = a.tree;
            read = a.read;
            selection = c.selection;
            selects = a.selects;
            parts = a.parts;
            shows = a.shows;
            first = a.first ∙ ap (λ (x : ℕ). take x c.selection) a.position;
          }

-- only an opening begins notes: one of the eight seats, given one of the two handles
module _ (s : List ℕ) (seat handle : ℕ) where
  message_none : (m reply : List ℕ) → after_message notes_account handle m reply None ≡ None
  message_none m reply =
      by_test (eqb (msg_of m) 0xC9)
      (λ q. rw q)
      (λ q.
      by_test (eqb (handle_of m) handle)
      (λ g. by_test (eqb (msg_of m) 0xCB) (λ f. rw (q, g, f)) (λ f. by_test (eqb (msg_of m) 0xCC) (λ k. rw (q, g, f, k)) (λ k. rw (q, g, f, k))))
      (λ g. rw (q, g)))

  given : (t : List ℕ) (k : ℕ) (tree : List ℕ) (answer : Answer) → answer ≡ answer_of (step (sources_of s) t (opening k tree))
      → both (accepted seat k answer) (eqb answer.handle handle) ≡ true → (seat < seats) × Handle handle
  given t k tree answer e q =
      let heard = both_left (accepted seat k answer) (eqb answer.handle handle) q in
      let same = eqb-true answer.handle handle (both_right (accepted seat k answer) (eqb answer.handle handle) q) in
      let own = eqb-true k seat (both_left (eqb k seat) (eqb answer.refusal 0) heard) in
      let taken = eqb-true answer.refusal 0 (both_right (eqb k seat) (eqb answer.refusal 0) heard) in
      let z = sym (ap (λ (x : Answer). x.refusal) e) ∙ taken in
      let handles : (x : ℕ) → x ≡ handle → (x ≡ 1) ⊎ ((x ≡ 2) × (held_cursor t k 1 ≡ None → ⊥)) → Handle handle
      = λ x g w. ⊎_elim (λ (l : x ≡ 1). inl (sym g ∙ l)) (λ (l : (x ≡ 2) × (held_cursor t k 1 ≡ None → ⊥)). inr (sym g ∙ l.0)) w in (
        subst (λ (x : ℕ). x < seats) own (accepted_passes (sources_of s) t (opening k tree) z).seat_in_lem,
        handles (step (sources_of s) t (opening k tree)).handle (sym (ap (λ (x : Answer). x.handle) e) ∙ same) (opens s t k tree z).lowest,
      )

  begins_or_not : (t : List ℕ) (c : Call)
      → (after_call notes_account seat handle None c (answer_of (step (sources_of s) t c)) ≡ None) ⊎ ((seat < seats) × Handle handle)
  begins_or_not t (connecting k version) = inl refl
  begins_or_not t (opening k tree) =
      let answer = answer_of (step (sources_of s) t (opening k tree)) in
      by_test (both (accepted seat k answer) (eqb answer.handle handle)) (λ q. inr (given t k tree answer refl q)) (λ q. inl (rw q))
  begins_or_not t (messaging k m room) =
      let answer = answer_of (step (sources_of s) t (messaging k m room)) in
      inl (by_test (accepted seat k answer) (λ q. rw q (message_none m answer.reply)) (λ q. rw q))

  begun : (t : List ℕ) (calls : List Call) (noted : Notes) → told (after_call notes_account seat handle) None (history (sources_of s) t calls) ≡ Some noted
      → (seat < seats) × Handle handle
  unfolding told history
  begun t [] noted w = absurd (none≢some w)
  begun t (c ∷ calls) noted w =
      let next = (step (sources_of s) t c).words in
      ⊎_elim
      (λ (still : after_call notes_account seat handle None c (answer_of (step (sources_of s) t c)) ≡ None).
      begun next calls noted
      (sym (ap (λ (o : Option Notes). told (after_call notes_account seat handle) o (history (sources_of s) next calls)) still) ∙ w))
      (λ (b : (seat < seats) × Handle handle). b)
      (begins_or_not t c)

-- demand 3: from the fresh table, under any calls of all seats, whatever is noted of a cursor is a walk through its selection
pub walks : (s : List ℕ) (rows : List Row) → catalogue s ≡ Some rows → (calls : List Call) (seat handle : ℕ) (noted : Notes)
    → notes_told seat handle (history (sources_of s) fresh_table calls) ≡ Some noted → Walk rows noted
walks s rows e calls seat handle noted w =
    let b = begun s seat handle fresh_table calls noted w in
    noted_walks s rows e seat handle b.0 b.1 calls noted w
