-- The reply to an accepted request for rows: the greatest count, the rows of the selection from the position on, each read back, and
-- the end said exactly where none then remain. Assumes nothing.
use mathlib.Core.Path.{◌≡◌, refl, sym, ap, ap₂, subst, ◌∙◌}
use mathlib.Core.Bool.{true}
use mathlib.Core.List.{List, [], ◌∷◌, map}
use mathlib.Core.Logic.{◌↔◌, ◌⊎◌, inl, inr, ⊎_elim}
use Rattle.std.specs.Prelude.{None, Some}
use Prim.Native.Nat.{ℕ, zero, suc, ◌+◌, ◌*◌, ◌≤◌, ◌<◌}
use native.Mathlib.Nat.{not-suc-le-zero, le_of_suc-le-suc}
use native.Mathlib.Omega.{arith}
use borrow.Author.Tests.{eqb-true, eqb-false}
use lib.Dec.{eqb}
use lib.ListN.{length, get_or, take, drop, replicate, length-map, length-drop, length-replicate}
use lib.Seq.{length-take-le, get_or-take, get_or-drop}
use Rattle.lists.proofs.Below.{by_test}
use Rattle.lists.proofs.Options.{none≢some, some_is}
use Rattle.catalogue.specs.Plain.{Row, catalogue, row_in}
use Rattle.catalogue.specs.CataloguePlaces.{places, row_seen}
use Rattle.catalogue.proofs.Agree.{accepted, catalogue_agrees}
use Rattle.bindings.specs.Fit.{fit}
use Rattle.bindings.specs.Sound.{column}
use Rattle.page.specs.Field.{field_of}
use Rattle.table.specs.Seat.{Cursor}
use Rattle.table.specs.Fits.{CursorFits}
use Rattle.fetch.specs.Request.{Sound}
use Rattle.fetch.specs.declared.Request.{Request}
use Rattle.page.specs.Rows.{all_blocks, Fits}
use Rattle.page.specs.Page.{page_bytes, page, status_for, end_of_rows}
use Rattle.page.specs.Reads.{row_place, block_place, Held, Reads, HeadReads}
use Rattle.page.proofs.Head.{held_seen}
use Rattle.page.proofs.ReadBack.{reads_back}
use Rattle.page.proofs.Reply.{page_inside, page_clear, page_zero, bytes_length}
use Rattle.fetch.specs.Fetch.{numbered, remaining, sent, rows_sent, then_left, fetch_reply}
use Rattle.promises.specs.Rows.{count_in, status_in, page_numbers, page_rows, RowsReply}
use Rattle.promises.proofs.Served.{bytes_are, inside, greatest, sent_most, room, reply_head, count_read, status_read}

-- the rows of the first k numbers are the first k rows; the j-th row is that of the j-th number
map_taken : (f : ℕ → Row) (l : List ℕ) (k : ℕ) → map f (take k l) ≡ take k (map f l)
map_taken f l zero = refl
map_taken f [] (suc k) = refl
map_taken f (n ∷ l) (suc k) = ap (λ (rows : List Row). f n ∷ rows) (map_taken f l k)

row_of_lem : (f : ℕ → Row) (l : List ℕ) (j : ℕ) → j < length l → row_in (map f l) j ≡ f (get_or l j 0)
row_of_lem f [] j h = absurd (not-suc-le-zero h)
row_of_lem f (n ∷ l) zero h = refl
row_of_lem f (n ∷ l) (suc j) h = row_of_lem f l j (le_of_suc-le-suc h)

-- the fields of a catalogue's rows have room in their cells
none_held : (property : ℕ) → Held (field_of property (record { key = 0; language = 0; default = 0; label = None; note = None }))
none_held property =
    by_test (eqb property 2)
    (λ a. rw a (omega arith))
    (λ a.
    by_test (eqb property 3)
    (λ b. rw (a, b) (omega arith))
    (λ b.
    by_test (eqb property 4)
    (λ d. rw (a, b, d) (omega arith))
    (λ d. by_test (eqb property 5) (λ e. rw (a, b, d, e) tt) (λ e. rw (a, b, d, e) tt))))

seen_held : (s at : List ℕ) (i property : ℕ) → Held (field_of property (row_in (map (row_seen s) at) i))
seen_held s [] i property = none_held property
seen_held s (p ∷ at) zero property = held_seen s p property
seen_held s (p ∷ at) (suc i) property = seen_held s at i property

pub rows_held : (s : List ℕ) (rows : List Row) → catalogue s ≡ Some rows → (i property : ℕ) → Held (field_of property (row_in rows i))
rows_held s rows e i property =
    by_test (accepted s)
    (λ q.
    let seen : catalogue s ≡ Some (map (row_seen s) (places s)) = catalogue_agrees s ∙ rw q in
    subst (λ (x : List Row). Held (field_of property (row_in x i))) (some_is (sym seen ∙ e)) (seen_held s (places s) i property))
    (λ q.
    let seen : catalogue s ≡ None = catalogue_agrees s ∙ rw q in
    absurd (none≢some (sym seen ∙ e)))

module _ (rows : List Row) (held : (i property : ℕ) → Held (field_of property (row_in rows i))) (c : Cursor) (q : Request) (fits : CursorFits c)
    (bound : fit c.width c.columns ≡ true) (sound : Sound q) where
  reply : List ℕ
  reply = fetch_reply rows c q

  count : count_in reply ≡ sent rows c q
  unfolding reply
  count = count_read rows c q fits bound sound

  status : status_in reply ≡ status_for (then_left rows c q)
  unfolding reply
  status = status_read rows c q fits bound sound

  most_left : c.position + count_in reply ≤ length c.selection
  most_left = omega (arith, count, sent_most rows c q fits bound sound)

  numbers_count : length (page_numbers c reply) ≡ count_in reply
  numbers_count = length-take-le (count_in reply) (drop c.position c.selection) (omega (arith, most_left, length-drop c.position c.selection))

  rows_are : page_rows rows c reply ≡ rows_sent rows c q
  rows_are =
      ap (λ (n : ℕ). map (row_in rows) (take n (drop c.position c.selection))) count
      ∙ map_taken (row_in rows) (drop c.position c.selection) (sent rows c q)

  has_room : q.from + length (page_rows rows c reply) * c.width + all_blocks c.columns (page_rows rows c reply) ≤ q.size
  has_room =
      subst (λ (x : List Row). q.from + length x * c.width + all_blocks c.columns x ≤ q.size) (sym rows_are) (room rows c q fits bound sound)

  bytes : reply ≡ page_bytes q.size q.from c.width q.base (status_in reply) c.columns (page_rows rows c reply)
  unfolding reply
  bytes =
      sym
      (ap₂ (λ (n : ℕ) (x : List Row). page_bytes q.size q.from c.width q.base n c.columns x) status rows_are)

  -- the reply as a page over zeros
  whole : page q.size q.from c.width q.base (status_in reply) c.columns (page_rows rows c reply) (replicate q.size 0) ≡ reply
  whole =
      bytes_are q.size q.from c.width q.base (status_in reply) c.columns (page_rows rows c reply) bound sound.from_least has_room
      ∙ sym bytes

  long : q.size ≤ length {A = ℕ} (replicate q.size 0)
  long = omega (arith, length-replicate {A = ℕ} q.size 0)

  row_is : (j : ℕ) → j < count_in reply → row_in (page_rows rows c reply) j ≡ row_in rows (get_or c.selection (c.position + j) 0)
  row_is j h =
      row_of_lem (row_in rows) (page_numbers c reply) j (omega (arith, numbers_count))
      ∙ ap (row_in rows)
      (get_or-take (count_in reply) (drop c.position c.selection) j 0 h ∙ get_or-drop c.position c.selection j 0)

  ends : (status_in reply ≡ end_of_rows) ↔ (c.position + count_in reply ≡ length c.selection)
  ends =
      by_test (eqb (then_left rows c q) 0)
      (λ z.
      let n : then_left rows c q ≡ 0 = eqb-true (then_left rows c q) 0 z in
      let w : status_in reply ≡ end_of_rows = status ∙ rw z in
      (λ e. omega (arith, n, count, most_left), λ e. w))
      (λ z.
      let n : then_left rows c q ≡ 0 → ⊥ = eqb-false (then_left rows c q) 0 z in
      let w : status_in reply ≡ 0 = status ∙ rw z in
      (λ e. absurd (omega (arith, e, w)), λ e. absurd (n (omega (arith, e, count)))))

  or_else : (status_in reply ≡ end_of_rows) ⊎ (status_in reply ≡ 0)
  or_else = by_test (eqb (then_left rows c q) 0) (λ z. inl (status ∙ rw z)) (λ z. inr (status ∙ rw z))

  head : HeadReads reply (status_in reply) (count_in reply)
  unfolding reply
  head =
      let h = reply_head rows c q fits bound sound in
      record {
        message = h.message;
        result = refl;
        checksum = h.checksum;
        reserved = h.reserved;
        count = refl;
        seek = h.seek;
        chapter = h.chapter;
        skip = h.skip;
      }

  reads : (j k : ℕ) → j < count_in reply → k < length c.columns
      → Reads reply q.base (row_place q.from c.width j)
      (block_place q.size c.columns (page_rows rows c reply) j k)
      (column c.columns k)
      (field_of (column c.columns k).property (row_in rows (get_or c.selection (c.position + j) 0)))
  reads j k h l =
      let property : ℕ = (column c.columns k).property in
      let field = row_is j h in
      let room_held : Held (field_of property (row_in (page_rows rows c reply) j))
      = subst (λ (r : Row). Held (field_of property r)) (sym field) (held (get_or c.selection (c.position + j) 0) property) in
      let back
      = reads_back q.size q.from c.width q.base (status_in reply) c.columns (page_rows rows c reply) bound sound.from_least has_room (omega (arith, sound.reach))
      (replicate q.size 0) long j k (omega (arith, length-map (page_numbers c reply) (row_in rows), numbers_count)) l room_held in
      subst (λ (r : Row). Reads reply q.base (row_place q.from c.width j) (block_place q.size c.columns (page_rows rows c reply) j k) (column c.columns k) (field_of property r))
      field
      (subst (λ (u : List ℕ). Reads u q.base (row_place q.from c.width j) (block_place q.size c.columns (page_rows rows c reply) j k) (column c.columns k) (field_of property (row_in (page_rows rows c reply) j)))
      whole back)

  pub reply_is : RowsReply rows c q (fetch_reply rows c q)
  unfolding reply
  reply_is =
      let g = greatest rows c q fits bound sound in
      record {
        wanted = omega (arith, count, g.wanted);
        left = most_left;
        fits = subst (λ (n : ℕ). Fits q.size q.from c.width c.columns (remaining rows c) n) (sym count) g.fits;
        most = λ k a l f.
            let m : k ≤ sent rows c q
            = g.most k a (omega (arith, l, length-map (drop c.position c.selection) (row_in rows), length-drop c.position c.selection)) f in
            omega (arith, m, count);
        ends = ends;
        else = or_else;
        size = ap length bytes ∙ bytes_length q.size q.from c.width q.base (status_in reply) c.columns (page_rows rows c reply) bound sound.from_least has_room;
        head = head;
        bytes = bytes;
        reads = reads;
        inside = page_inside q.size q.from c.width q.base (status_in reply) c.columns (page_rows rows c reply) bound sound.from_least has_room;
        clear = page_clear q.size q.from c.width q.base (status_in reply) c.columns (page_rows rows c reply) bound sound.from_least has_room;
        zero = λ i h o.
            ap (λ (u : List ℕ). get_or u i 0) (sym whole)
            ∙ page_zero q.size q.from c.width q.base (status_in reply) c.columns (page_rows rows c reply) bound sound.from_least has_room
            (replicate q.size 0) long i h o;
      }

-- a reply is decided: any two that say all this of one cursor and one request are the same bytes
pub reply_once : (rows : List Row) (c : Cursor) (q : Request) (reply other : List ℕ) → RowsReply rows c q reply → RowsReply rows c q other → reply ≡ other
reply_once rows c q reply other a b =
    let count : count_in reply ≡ count_in other
    = omega (arith, b.most (count_in reply) a.wanted a.left a.fits, a.most (count_in other) b.wanted b.left b.fits) in
    let then = ap (λ (n : ℕ). c.position + n) count in
    let status : status_in reply ≡ status_in other
    = ⊎_elim
    (λ (e : status_in reply ≡ end_of_rows). e ∙ sym (b.ends.1 (sym then ∙ a.ends.0 e)))
    (λ (e : status_in reply ≡ 0).
    ⊎_elim
    (λ (f : status_in other ≡ end_of_rows). a.ends.1 (then ∙ b.ends.0 f) ∙ sym f)
    (λ (f : status_in other ≡ 0). e ∙ sym f)
    b.else)
    a.else in
    a.bytes
    ∙ ap₂
    (λ (s n : ℕ). page_bytes q.size q.from c.width q.base s c.columns (numbered rows (take n (drop c.position c.selection))))
    status count
    ∙ sym b.bytes
