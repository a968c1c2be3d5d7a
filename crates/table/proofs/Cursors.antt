-- Words that are well are the words of the cursor that they hold, which fits; and the words of a cursor that fits are well and
-- holds it. Assumes nothing.
use mathlib.Core.Path.{◌≡◌, refl, sym, ap, ap₂, ◌∙◌}
use mathlib.Core.Bool.{true}
use mathlib.Core.List.{List, [], ◌∷◌, ◌++◌}
use mathlib.Core.Logic.{◌⊎◌, inl, inr}
use Rattle.std.specs.Prelude.{Some}
use Prim.Native.Nat.{ℕ, zero, suc, ◌+◌, ◌-◌, ◌*◌, ◌≤◌, ◌<◌}
use native.Mathlib.Nat.{add-suc}
use native.Mathlib.Numerals.{add-one}
use native.Mathlib.Omega.{arith}
use borrow.Author.Tests.{eq-eqb, eqb-true, leb-true, lt-ltb, ltb-true}
use lib.Dec.{leb, eqb}
use lib.ListN.{length, get_or, take, drop, length-drop, length-replicate, get_or-replicate, take-append-drop}
use lib.Seq.{drop-cons, drop-drop, length-take-le, ext_get_or, take-append-add, take-add}
use Rattle.lists.specs.Below.{both}
use Rattle.lists.proofs.Below.{by_test, both_left, both_right, every_at, every_shown}
use Rattle.bindings.specs.Column.{column_at, columns_from, columns_of, record_of, records_of, no_words, words_of, columns_most}
use Rattle.lists.specs.Every.{every}
use Rattle.bindings.specs.Fit.{fit}
use Rattle.bindings.proofs.Columns.{from_length}
use Rattle.table.specs.Layout.{cursor_size, open_at, position_at, count_at, columns_at, width_at, records_at, records_size, rows_at, rows_size}
use Rattle.lists.specs.Parts.{part, zeros}
use Rattle.table.specs.Seat.{cursor_words, cursor_held, cursor_of}
use Rattle.table.specs.Well.{all_zero, rising, tidy, bound_well, bindings_well, selection_well, open_well, cursor_well}
use Rattle.table.specs.Fits.{CursorFits, CursorOk}
use Rattle.lists.specs.Rising.{Rises}
use Rattle.table.proofs.Judging.{fit_count}
use Rattle.lists.proofs.Parts.{take_zeros}

-- words that are all zero are so many zeros
pub zero_is : (words : List ℕ) → all_zero words ≡ true → words ≡ zeros (length words)
zero_is words e =
    ext_get_or 0 words (zeros (length words)) (sym (length-replicate (length words) 0))
    (λ i h. eqb-true (get_or words i 0) 0 (every_at (length words) _ e i h) ∙ sym (get_or-replicate (length words) i 0 0 h))

pub zeros_are : (n : ℕ) → all_zero (zeros n) ≡ true
zeros_are n =
    every_shown (length (zeros n)) _
    (λ i h. eq-eqb (get_or (zeros n) i 0) 0 (get_or-replicate n i 0 0 (omega (arith, length-replicate {A = ℕ} n 0, h))))

-- rows that rise, as a test and as a fact
rises : (rows : List ℕ) → rising rows ≡ true → Rises rows
rises rows e i h = ltb-true (get_or rows i 0) (get_or rows (i + 1) 0) (every_at (length rows - 1) _ e i (omega arith))

pub rising_shown : (rows : List ℕ) → Rises rows → rising rows ≡ true
rising_shown rows r = every_shown (length rows - 1) _ (λ i h. lt-ltb (get_or rows i 0) (get_or rows (i + 1) 0) (r i (omega (arith, h))))

-- a list from a place on, word by word
step : (words : List ℕ) (a i : ℕ) → a + i < length words → drop (a + i) words ≡ get_or words (a + i) 0 ∷ drop (a + (i + 1)) words
step words a i h = rw (add-one, add-suc) (drop-cons words (a + i) 0 h)

first_step : (words : List ℕ) (a : ℕ) → a < length words → drop a words ≡ get_or words a 0 ∷ drop (a + 1) words
first_step words a h = rw add-one (drop-cons words a 0 h)

nine : (words : List ℕ) (k : ℕ) → 9 * k + 9 ≤ length words → take 9 (drop (9 * k) words) ≡ record_of (column_at words k)
nine words k h =
    rw (
      first_step words (9 * k) (omega arith),
      step words (9 * k) 1 (omega arith),
      step words (9 * k) 2 (omega arith),
      step words (9 * k) 3 (omega arith),
      step words (9 * k) 4 (omega arith),
      step words (9 * k) 5 (omega arith),
      step words (9 * k) 6 (omega arith),
      step words (9 * k) 7 (omega arith),
      step words (9 * k) 8 (omega arith),
    )

-- the records of columns are the words that they were read from
records_back : (n k : ℕ) (words : List ℕ) → 9 * k + 9 * n ≤ length words → records_of (columns_from n k words) ≡ take (9 * n) (drop (9 * k) words)
unfolding records_of columns_from
records_back zero k words h = refl
records_back (suc n) k words h =
    ap₂ (λ (a b : List ℕ). a ++ b) (sym (nine words k (omega arith))) (records_back n (k + 1) words (omega arith))
    ∙ ap (λ (l : List ℕ). take 9 (drop (9 * k) words) ++ take (9 * n) l) (ap (λ (j : ℕ). drop j words) more ∙ sym (drop-drop 9 (9 * k) words))
    ∙ sym (take-add 9 (9 * n) (drop (9 * k) words))
    ∙ ap (λ (j : ℕ). take j (drop (9 * k) words)) total
  where
    total : 9 + 9 * n ≡ 9 * suc n
    total = omega arith

    more : 9 * (k + 1) ≡ 9 * k + 9
    more = omega arith

-- so the words that hold the columns that words hold are those words, where the rest of them is zero
words_back : (n : ℕ) (words : List ℕ) → length words ≡ records_size → n ≤ columns_most → all_zero (drop (9 * n) words) ≡ true → words_of (columns_of n words) ≡ words
unfolding words_of
words_back n words l h z =
    ap (λ (r : List ℕ). take 45 (r ++ no_words)) (records_back n 0 words (omega arith))
    ∙ ap (λ (j : ℕ). take j (take (9 * n) words ++ no_words)) room
    ∙ take-append-add (take (9 * n) words) no_words (45 - 9 * n)
    ∙ ap (λ (r : List ℕ). take (9 * n) words ++ r) (take_zeros (45 - 9 * n) 45 (omega arith) ∙ sym rest_zero)
    ∙ take-append-drop (9 * n) words
  where
    taken : length (take (9 * n) words) ≡ 9 * n
    taken = length-take-le (9 * n) words (omega arith)

    room : 45 ≡ length (take (9 * n) words) + (45 - 9 * n)
    room = omega (arith, taken)

    rest_zero : drop (9 * n) words ≡ zeros (45 - 9 * n)
    rest_zero = zero_is (drop (9 * n) words) z ∙ ap zeros (length-drop (9 * n) words ∙ ap (λ (j : ℕ). j - 9 * n) l)

-- the words of an open cursor, taken apart
apart : (b : List ℕ) → length b ≡ cursor_size
    → b ≡ get_or b 0 0 ∷ get_or b 1 0 ∷ get_or b 2 0 ∷ get_or b 3 0 ∷ get_or b 4 0 ∷ (part b records_at records_size ++ drop rows_at b)
apart b l =
    drop-cons b 0 0 (omega arith)
    ∙ ap (λ (r : List ℕ). get_or b 0 0 ∷ r) (drop-cons b 1 0 (omega arith))
    ∙ ap (λ (r : List ℕ). get_or b 0 0 ∷ get_or b 1 0 ∷ r) (drop-cons b 2 0 (omega arith))
    ∙ ap (λ (r : List ℕ). get_or b 0 0 ∷ get_or b 1 0 ∷ get_or b 2 0 ∷ r) (drop-cons b 3 0 (omega arith))
    ∙ ap (λ (r : List ℕ). get_or b 0 0 ∷ get_or b 1 0 ∷ get_or b 2 0 ∷ get_or b 3 0 ∷ r) (drop-cons b 4 0 (omega arith))
    ∙ ap (λ (r : List ℕ). get_or b 0 0 ∷ get_or b 1 0 ∷ get_or b 2 0 ∷ get_or b 3 0 ∷ get_or b 4 0 ∷ r)
    (sym (take-append-drop 45 (drop 5 b)) ∙ ap (λ (r : List ℕ). part b records_at records_size ++ r) (drop-drop 45 5 b))

-- the selection and the zeros after it
rows_back : (rows : List ℕ) (count : ℕ) → length rows ≡ rows_size → count ≤ rows_size → all_zero (drop count rows) ≡ true
    → rows ≡ take count rows ++ zeros (rows_size - length (take count rows))
rows_back rows count l h z =
    sym (take-append-drop count rows)
    ∙ ap (λ (r : List ℕ). take count rows ++ r)
    (zero_is (drop count rows) z ∙ ap zeros (length-drop count rows ∙ ap₂ (λ (a b : ℕ). a - b) l (sym (length-take-le count rows (omega arith)))))

-- what well bindings come to
record Bound (b : List ℕ) : Type 0 where
  words : words_of (cursor_held b).columns ≡ part b records_at records_size
  count : length (cursor_held b).columns ≡ get_or b columns_at 0
  bound : (((cursor_held b).columns ≡ []) × ((cursor_held b).width ≡ 0)) ⊎ (fit (cursor_held b).width (cursor_held b).columns ≡ true)
  tidied : every tidy (cursor_held b).columns ≡ true

unbound : (b : List ℕ) → length b ≡ cursor_size → get_or b columns_at 0 ≡ 0 → all_zero (part b width_at (records_size + 1)) ≡ true → Bound b
unfolding words_of records_of columns_from every
unbound b l n z =
    record {
      words = rw n (sym (ap (drop 1) all));
      count = from_length (get_or b columns_at 0) 0 (part b records_at records_size);
      bound = inl (rw n refl, ap (λ (r : List ℕ). get_or r 0 0) all);
      tidied = rw n;
    }
  where
    all : get_or b 4 0 ∷ part b records_at records_size ≡ zeros 46
    all =
        sym (ap (take 46) (drop-cons b 4 0 (omega arith)))
        ∙ zero_is (part b 4 46) z
        ∙ ap zeros (length-take-le 46 (drop 4 b) (omega (arith, length-drop 4 b)))

bound_by_lem : (b : List ℕ) → length b ≡ cursor_size → bound_well (get_or b columns_at 0) (get_or b width_at 0) (part b records_at records_size) ≡ true → Bound b
bound_by_lem b l e =
    let n = get_or b columns_at 0 in
    let records = part b records_at records_size in
    let f : fit (get_or b width_at 0) (columns_of n records) ≡ true = both_left _ _ e in
    let r = both_right (fit (get_or b width_at 0) (columns_of n records)) _ e in
    record {
      words = words_back n records (length-take-le 45 (drop 5 b) (omega (arith, length-drop 5 b))) (fit_count (get_or b width_at 0) n records f)
          (both_right (every tidy (columns_of n records)) _ r);
      count = from_length n 0 records;
      bound = inr f;
      tidied = both_left _ (all_zero (drop (9 * n) records)) r;
    }

bindings_back : (b : List ℕ) → length b ≡ cursor_size → bindings_well b ≡ true → Bound b
bindings_back b l e =
    by_test (eqb (get_or b columns_at 0) 0)
    (λ q. unbound b l (eqb-true (get_or b columns_at 0) 0 q) (rw q at e))
    (λ q. bound_by_lem b l (rw q at e))

open_back : (b : List ℕ) → length b ≡ cursor_size → get_or b open_at 0 ≡ 1 → open_well b ≡ true
    → (b ≡ cursor_words (Some (cursor_held b))) × CursorFits (cursor_held b)
open_back b l o e =
    let count = get_or b count_at 0 in
    let position : leb (get_or b position_at 0) count ≡ true = both_left _ _ e in
    let e₁ = both_right (leb (get_or b position_at 0) count) _ e in
    let most : leb count rows_size ≡ true = both_left _ _ e₁ in
    let e₂ = both_right (leb count rows_size) _ e₁ in
    let bound = bindings_back b l (both_left _ (selection_well count (drop rows_at b)) e₂) in
    let e₃ = both_right (bindings_well b) _ e₂ in
    let rows : length (drop rows_at b) ≡ rows_size = length-drop rows_at b ∙ ap (λ (n : ℕ). n - rows_at) l in
    let taken : length (take count (drop rows_at b)) ≡ count = length-take-le count (drop rows_at b) (omega (arith, leb-true count rows_size most)) in (
      apart b l
          ∙ rw (o, bound.count, taken, bound.words)
          (ap (λ (r : List ℕ). 1 ∷ get_or b 1 0 ∷ get_or b 2 0 ∷ get_or b 3 0 ∷ get_or b 4 0 ∷ (part b records_at records_size ++ r))
          (rows_back (drop rows_at b) count rows (leb-true count rows_size most) (both_right (rising (take count (drop rows_at b))) _ e₃)
          ∙ ap (λ (n : ℕ). take count (drop rows_at b) ++ zeros (rows_size - n)) taken)),
      record {
        position = omega (arith, leb-true (get_or b position_at 0) count position, taken);
        rows = omega (arith, leb-true count rows_size most, taken);
        rising = rises (take count (drop rows_at b)) (both_left _ (all_zero (drop count (drop rows_at b))) e₃);
        bound = bound.bound;
        tidied = bound.tidied;
      },
    )

-- words that are well are the words of what they hold, which fits
pub cursor_back : (b : List ℕ) → length b ≡ cursor_size → cursor_well b ≡ true → (b ≡ cursor_words (cursor_of b)) × CursorOk (cursor_of b)
unfolding cursor_well
cursor_back b l e =
    by_test (eqb (get_or b open_at 0) 0)
    (λ q. rw (q) (zero_is b (rw q at e) ∙ ap zeros l, tt))
    (λ q.
    let s : both (eqb (get_or b open_at 0) 1) (open_well b) ≡ true = rw q at e in
    rw (q) (open_back b l (eqb-true (get_or b open_at 0) 1 (both_left _ (open_well b) s)) (both_right (eqb (get_or b open_at 0) 1) _ s)))
