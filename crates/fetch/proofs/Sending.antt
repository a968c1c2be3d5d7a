-- The reply with the rows that are sent. Assumes nothing.
use mathlib.Core.Path.{◌≡◌, sym, ap, ap₂, ◌∙◌}
use mathlib.Core.List.{List}
use Prim.Native.Nat.{ℕ, ◌+◌, ◌-◌, ◌≤◌}
use native.Mathlib.Omega.{arith}
use lib.ListN.{length, get_or, take, drop, length-take, length-drop, length-map}
use Rattle.catalogue.specs.Plain.{Row, catalogue, rows_of, row_in}
use Rattle.catalogue.specs.CataloguePlaces.{row_seen}
use Rattle.table.specs.Layout.{records_at, records_size}
use Rattle.lists.specs.Parts.{part}
use Rattle.table.specs.Seat.{Cursor, cursor_held}
use Rattle.refusal.specs.Refusal.{first_cause}
use Rattle.fetch.specs.Request.{Sound}
use Rattle.fetch.specs.declared.Request.{Request}
use Rattle.page.specs.Rows.{returned}
use Rattle.page.specs.Page.{page, status_for}
use Rattle.page.specs.PageReady.{PageReady}
use Rattle.page.proofs.Greatest.{returned_is, returned_room}
use Rattle.page.proofs.Reply.{page_is}
use Rattle.fetch.specs.Fetch.{remaining, early_causes, sent, rows_sent, then_left}
use Rattle.fetch.specs.FetchReady.{FetchReady}
use Rattle.fetch.proofs.Facts.{count_is, count_most, position_most, all_rows, bindings_fit}
use Rattle.page.specs.declared.Sheet.{Sheet}
use Rattle.page.specs.PageTold.{Paged}
use Rattle.fetch.specs.FetchTold.{RowsSent}

-- the rows that remain, and no more than they are sent
remaining_count : (rows : List Row) (c : Cursor) → length (remaining rows c) ≡ length c.selection - c.position
remaining_count rows c = length-map (drop c.position c.selection) (row_in rows) ∙ length-drop c.position c.selection

pub sent_left : (rows : List Row) (c : Cursor) (q : Request) → q.from ≤ q.size → sent rows c q ≤ length c.selection - c.position
sent_left rows c q h =
    omega (arith, (returned_is q.size q.from c.width c.columns q.asked (remaining rows c) h).left, remaining_count rows c)

pub sound_inside : (q : Request) → Sound q → q.from ≤ q.size
sound_inside q d = omega (arith, d.from_most, d.least)

module _ (b s places : List ℕ) (q : Request) (buffer : ℕ) (r : FetchReady b s places q buffer) where
  pub inside : q.from ≤ q.size
  inside = sound_inside q r.sound

  pub remaining_length : length (remaining (rows_of (catalogue s)) (cursor_held b)) ≡ get_or b 2 0 - get_or b 1 0
  remaining_length =
      remaining_count (rows_of (catalogue s)) (cursor_held b)
      ∙ ap (λ (n : ℕ). n - get_or b 1 0) (sym (count_is b s places q buffer r))

  -- no more rows are sent than remain
  pub sent_most : get_or b 1 0 + sent (rows_of (catalogue s)) (cursor_held b) q ≤ get_or b 2 0
  sent_most =
      omega (
        arith,
        sent_left (rows_of (catalogue s)) (cursor_held b) q inside,
        count_is b s places q buffer r,
        position_most b s places q buffer r,
      )

  module _ (e : first_cause (early_causes (cursor_held b) q) ≡ 0) where
    -- the sheet that the reply is laid by, and the numbers of the rows that remain
    abbrev pub sheet_for : Sheet
    sheet_for =
        record {
          bound = get_or b 3 0;
          width = get_or b 4 0;
          size = q.size;
          from = q.from;
          base = q.base;
          asked = q.asked;
        }

    abbrev pub numbers_left : List ℕ
    numbers_left = take (50 + get_or b 2 0 - (50 + get_or b 1 0)) (drop (50 + get_or b 1 0) b)

    pub page_ready : PageReady buffer (part b records_at records_size) sheet_for (length numbers_left)
    page_ready =
        record {
          fits = bindings_fit b s places q buffer r e;
          head = r.sound.from_least;
          few = omega (arith, length-take (50 + get_or b 2 0 - (50 + get_or b 1 0)) (drop (50 + get_or b 1 0) b), count_most b s places q buffer r);
          inside = inside;
          ends = r.room;
          offset = omega (arith, r.sound.reach);
        }

    pub page_sent : (k : ℕ) (entry exit : List ℕ) → Paged sheet_for (part b records_at records_size) s places numbers_left k entry exit
        → RowsSent (rows_of (catalogue s)) (cursor_held b) q k entry exit
    page_sent k entry exit w =
        record {
          counted = is;
          written =
              w.written
              ∙ ap₂ (λ (n : ℕ) (rows : List Row). page q.size q.from (cursor_held b).width q.base (status_for n) (cursor_held b).columns rows entry) left
              (ap₂ (λ (n : ℕ) (rows : List Row). take n rows) is (all_rows b s places q buffer r))
              ∙ page_is q.size q.from (cursor_held b).width q.base (status_for (then_left (rows_of (catalogue s)) (cursor_held b) q)) (cursor_held b).columns (rows_sent (rows_of (catalogue s)) (cursor_held b) q)
              (bindings_fit b s places q buffer r e)
              r.sound.from_least
              (returned_room q.size q.from (cursor_held b).width (cursor_held b).columns q.asked (remaining (rows_of (catalogue s)) (cursor_held b)) inside)
              entry;
        }
      where
        is : k ≡ sent (rows_of (catalogue s)) (cursor_held b) q
        is = w.counted ∙ ap (returned (cursor_held b).width (cursor_held b).columns q.asked (q.size - q.from)) (all_rows b s places q buffer r)

        count : length (take (50 + get_or b 2 0 - (50 + get_or b 1 0)) (drop (50 + get_or b 1 0) b)) ≡ get_or b 2 0 - get_or b 1 0
        count =
            sym (length-map (take (50 + get_or b 2 0 - (50 + get_or b 1 0)) (drop (50 + get_or b 1 0) b)) (λ (k : ℕ). row_seen s (get_or places k 0)))
            ∙ ap length (all_rows b s places q buffer r)
            ∙ remaining_length

        left : length (take (50 + get_or b 2 0 - (50 + get_or b 1 0)) (drop (50 + get_or b 1 0) b)) - k ≡ then_left (rows_of (catalogue s)) (cursor_held b) q
        left = omega (arith, count, is, count_is b s places q buffer r, position_most b s places q buffer r)
