-- The rows returned are the greatest number that is asked for, remains and fits. Assumes nothing.
use mathlib.Core.Path.{◌≡◌, ap, ◌∙◌}
use mathlib.Core.List.{List, [], ◌∷◌}
use mathlib.Core.Logic.{◌↔◌}
use Prim.Native.Nat.{ℕ, zero, suc, ◌+◌, ◌-◌, ◌*◌, ◌≤◌, ◌<◌}
use native.Mathlib.Nat.{not-suc-le-zero, le_of_suc-le-suc}
use native.Mathlib.Omega.{arith}
use borrow.Author.Tests.{leb-true, leb-false}
use lib.Dec.{leb}
use lib.ListN.{length, get_or, take, length-map}
use lib.Seq.{length-take-le}
use Rattle.lists.proofs.Below.{by_test}
use Rattle.catalogue.specs.Plain.{Row}
use Rattle.catalogue.specs.CataloguePlaces.{row_seen}
use Rattle.bindings.specs.declared.Column.{Column}
use Rattle.page.specs.Rows.{blocks, all_blocks, Fits, returned}
use Rattle.page.specs.RowPlaces.{rows_at}
use Rattle.page.specs.RowReady.{needed}
use Rattle.page.proofs.FillSteps.{needs_are, returned_full, returned_more}

module _ (width : ℕ) (columns : List Column) where
  at_most_asked : (asked room : ℕ) (rows : List Row) → returned width columns asked room rows ≤ asked
  unfolding returned
  at_most_asked zero room rows = omega arith
  at_most_asked (suc asked) room [] = omega arith
  at_most_asked (suc asked) room (r ∷ rows) =
      by_test (leb (width + blocks columns r) room)
      (λ q. rw q (omega (arith, at_most_asked asked (room - (width + blocks columns r)) rows)))
      (λ q. rw q (omega arith))

  at_most_left : (asked room : ℕ) (rows : List Row) → returned width columns asked room rows ≤ length rows
  unfolding returned
  at_most_left zero room rows = omega arith
  at_most_left (suc asked) room [] = omega arith
  at_most_left (suc asked) room (r ∷ rows) =
      by_test (leb (width + blocks columns r) room)
      (λ q. rw q (omega (arith, at_most_left asked (room - (width + blocks columns r)) rows)))
      (λ q. rw q (omega arith))

  in_the_room : (asked room : ℕ) (rows : List Row) → needed width columns (take (returned width columns asked room rows) rows) ≤ room
  unfolding returned needed
  in_the_room zero room rows = omega arith
  in_the_room (suc asked) room [] = omega arith
  in_the_room (suc asked) room (r ∷ rows) =
      by_test (leb (width + blocks columns r) room)
      (λ q. rw q (omega (arith, leb-true (width + blocks columns r) room q, in_the_room asked (room - (width + blocks columns r)) rows)))
      (λ q. rw q (omega arith))

  no_more : (asked room : ℕ) (rows : List Row) (k : ℕ) → k ≤ asked → k ≤ length rows → needed width columns (take k rows) ≤ room
      → k ≤ returned width columns asked room rows
  unfolding returned needed
  no_more asked room rows zero a l n = omega arith
  no_more zero room rows (suc k) a l n = absurd (not-suc-le-zero a)
  no_more (suc asked) room [] (suc k) a l n = absurd (not-suc-le-zero l)
  no_more (suc asked) room (r ∷ rows) (suc k) a l n =
      by_test (leb (width + blocks columns r) room)
      (λ q. rw q (omega (arith, no_more asked (room - (width + blocks columns r)) rows k (le_of_suc-le-suc a) (le_of_suc-le-suc l) (omega arith))))
      (λ q. absurd (omega (arith, leb-false (width + blocks columns r) room q)))

-- "the least of rows asked, rows remaining, and the greatest K that fits"
pub record Greatest (size from width : ℕ) (columns : List Column) (asked : ℕ) (rows : List Row) (k : ℕ) : Type 0 where
  pub wanted : k ≤ asked
  pub left : k ≤ length rows
  pub fits : Fits size from width columns rows k
  pub most : (j : ℕ) → j ≤ asked → j ≤ length rows → Fits size from width columns rows j → j ≤ k

pub returned_is : (size from width : ℕ) (columns : List Column) (asked : ℕ) (rows : List Row) → from ≤ size
    → Greatest size from width columns asked rows (returned width columns asked (size - from) rows)
returned_is size from width columns asked rows h =
    let k : ℕ = returned width columns asked (size - from) rows in
    let left : k ≤ length rows = at_most_left width columns asked (size - from) rows in
    record {
      wanted = at_most_asked width columns asked (size - from) rows;
      left = left;
      fits = omega (arith, room k left, in_the_room width columns asked (size - from) rows);
      most = λ j a l f. no_more width columns asked (size - from) rows j a l (omega (arith, room j l));
    }
  where
    room : (k : ℕ) → k ≤ length rows → needed width columns (take k rows) ≡ k * width + all_blocks columns (take k rows)
    room k l = needs_are width columns (take k rows) ∙ ap (λ (n : ℕ). n * width + all_blocks columns (take k rows)) (length-take-le k rows l)

-- the rows returned have room in the reply, which is what laying them wants
pub returned_room : (size from width : ℕ) (columns : List Column) (asked : ℕ) (rows : List Row) → from ≤ size
    → let k = returned width columns asked (size - from) rows in from + length (take k rows) * width + all_blocks columns (take k rows) ≤ size
returned_room size from width columns asked rows h =
    let g = returned_is size from width columns asked rows h in
    rw (length-take-le (returned width columns asked (size - from) rows) rows g.left) g.fits

-- no more rows are returned than there are numbers
pub returned_few : (size from width : ℕ) (columns : List Column) (asked : ℕ) (s places numbers : List ℕ) (k : ℕ) → from ≤ size
    → k ≡ returned width columns asked (size - from) (rows_at s places numbers) → k ≤ length numbers
returned_few size from width columns asked s places numbers k h e =
    omega (
      arith,
      e,
      (returned_is size from width columns asked (rows_at s places numbers) h).left,
      length-map numbers (λ (i : ℕ). row_seen s (get_or places i 0)),
    )

-- refusal 15: "a row is asked for and remains, but the first doesn't fit"
pub none_returned : (size from width : ℕ) (columns : List Column) (asked : ℕ) (r : Row) (rows : List Row) → from ≤ size → 0 < asked
    → (returned width columns asked (size - from) (r ∷ rows) ≡ 0) ↔ (size < from + (width + blocks columns r))
none_returned size from width columns asked r rows h a = (there, back)
  where
    there : returned width columns asked (size - from) (r ∷ rows) ≡ 0 → size < from + (width + blocks columns r)
    there e =
        by_test (leb (width + blocks columns r) (size - from))
        (λ q. absurd (omega (arith, e, returned_more width columns asked (size - from) r rows a (leb-true (width + blocks columns r) (size - from) q))))
        (λ q. omega (arith, leb-false (width + blocks columns r) (size - from) q))

    back : size < from + (width + blocks columns r) → returned width columns asked (size - from) (r ∷ rows) ≡ 0
    back l = returned_full width columns asked (size - from) r rows (omega arith)
