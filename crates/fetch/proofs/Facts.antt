-- What an open cursor's words are known to be before rows are fetched. Assumes nothing.
use mathlib.Core.Path.{◌≡◌, refl, sym, ap, ap₂, subst, ◌∙◌}
use mathlib.Core.Bool.{Bool, true}
use mathlib.Core.List.{List, [], ◌∷◌}
use mathlib.Core.Logic.{⊎_elim}
use Rattle.std.specs.Prelude.{Some}
use Prim.Native.Nat.{ℕ, zero, suc, ◌+◌, ◌-◌, ◌≤◌, ◌<◌}
use native.Mathlib.Nat.{not-suc-le-zero, le_of_suc-le-suc}
use native.Mathlib.Omega.{arith}
use borrow.Author.Tests.{ltb-true, eq-eqb}
use lib.Dec.{ltb}
use lib.ListN.{length, get_or, take, drop, length-drop}
use lib.Seq.{take-take, take_all, drop-drop, get_or-take, get_or-drop}
use Rattle.lists.proofs.Below.{both_left, both_right, both_true}
use Rattle.catalogue.specs.Plain.{Row, catalogue, rows_of}
use Rattle.catalogue.specs.CataloguePlaces.{row_seen}
use Rattle.catalogue.specs.CatalogueReady.{RowAtReady, PlacesReady}
use Rattle.lists.specs.Every.{every}
use Rattle.bindings.specs.Column.{columns_most}
use Rattle.bindings.specs.Fit.{row_most, fit}
use Rattle.table.specs.Layout.{cursor_size, rows_size}
use Rattle.table.specs.Seat.{cursor_held}
use Rattle.table.proofs.Seats.{cursor_words_lem}
use Rattle.bindings.proofs.Sound.{fit_sound}
use Rattle.refusal.specs.Refusal.{first_cause}
use Rattle.fetch.specs.declared.Request.{Request}
use Rattle.page.specs.RowPlaces.{rows_at}
use Rattle.page.specs.RowReady.{NumbersReady}
use Rattle.page.proofs.FillSteps.{rows_more}
use Rattle.fetch.specs.Fetch.{numbered, remaining, early_causes}
use Rattle.fetch.specs.FetchReady.{FetchReady}

-- a part of a list's first members is a part of the list
pub part_of_first : (p n count : ℕ) (t : List ℕ) → p + n ≤ count → take n (drop p (take count t)) ≡ take n (drop p t)
part_of_first zero n count t h = take-take n count t (omega arith)
part_of_first (suc p) n zero t h = absurd (omega arith)
part_of_first (suc p) n (suc count) [] h = refl
part_of_first (suc p) n (suc count) (a ∷ t) h = part_of_first p n count t (omega arith)

every_drop : (test : ℕ → Bool) (n : ℕ) (t : List ℕ) → every test t ≡ true → every test (drop n t) ≡ true
unfolding every
every_drop test zero t e = e
every_drop test (suc n) [] e = e
every_drop test (suc n) (a ∷ t) e = every_drop test n t (both_right (test a) _ e)

-- rows by their places are rows by their numbers
numbered_are : (s places numbers : List ℕ) → PlacesReady s places → every (λ row. ltb row (length (rows_of (catalogue s)))) numbers ≡ true
    → rows_at s places numbers ≡ numbered (rows_of (catalogue s)) numbers
unfolding every
numbered_are s places [] p e = refl
numbered_are s places (k ∷ numbers) p e =
    ap₂ (λ (r : Row) (rows : List Row). r ∷ rows)
    (p k (ltb-true k (length (rows_of (catalogue s))) (both_left (ltb k (length (rows_of (catalogue s)))) _ e))).1
    (numbered_are s places numbers p (both_right (ltb k (length (rows_of (catalogue s)))) _ e))

-- and each stands there
numbered_there : (s places numbers : List ℕ) → PlacesReady s places → every (λ row. ltb row (length (rows_of (catalogue s)))) numbers ≡ true
    → NumbersReady s places numbers
unfolding every
numbered_there s places [] p e i h = absurd (not-suc-le-zero h)
numbered_there s places (k ∷ numbers) p e zero h =
    (p k (ltb-true k (length (rows_of (catalogue s))) (both_left (ltb k (length (rows_of (catalogue s)))) _ e))).0
numbered_there s places (k ∷ numbers) p e (suc i) h =
    numbered_there s places numbers p (both_right (ltb k (length (rows_of (catalogue s)))) _ e) i (le_of_suc-le-suc h)

every_take : (test : ℕ → Bool) (n : ℕ) (t : List ℕ) → every test t ≡ true → every test (take n t) ≡ true
unfolding every
every_take test zero t e = refl
every_take test (suc n) [] e = refl
every_take test (suc n) (a ∷ t) e = both_true (test a) _ (both_left (test a) _ e) (every_take test n t (both_right (test a) _ e))

module _ (b s places : List ℕ) (q : Request) (buffer : ℕ) (r : FetchReady b s places q buffer) where
  pub size_is : length b ≡ cursor_size
  size_is = ap length r.held ∙ (cursor_words_lem (Some (cursor_held b)) r.fits).size

  pub count_is : get_or b 2 0 ≡ length (cursor_held b).selection
  count_is = ap (λ (x : List ℕ). get_or x 2 0) r.held

  pub columns_are : get_or b 3 0 ≡ length (cursor_held b).columns
  columns_are = ap (λ (x : List ℕ). get_or x 3 0) r.held

  pub count_most : get_or b 2 0 ≤ rows_size
  count_most = omega (arith, count_is, r.fits.rows)

  pub position_most : get_or b 1 0 ≤ get_or b 2 0
  position_most = omega (arith, count_is, r.fits.position)

  -- the numbers of the rows that remain
  pub numbers_are : (n : ℕ) → get_or b 1 0 + n ≤ get_or b 2 0
      → take n (drop (50 + get_or b 1 0) b) ≡ take n (drop (get_or b 1 0) (cursor_held b).selection)
  numbers_are n h =
      ap (take n) (sym (drop-drop (get_or b 1 0) 50 b))
      ∙ sym (part_of_first (get_or b 1 0) n (get_or b 2 0) (drop 50 b) h)

  pub rows_are : rows_at s places (drop (get_or b 1 0) (cursor_held b).selection) ≡ remaining (rows_of (catalogue s)) (cursor_held b)
  rows_are =
      numbered_are s places (drop (get_or b 1 0) (cursor_held b).selection) r.placed
      (every_drop (λ row. ltb row (length (rows_of (catalogue s)))) (get_or b 1 0) (cursor_held b).selection r.below)

  -- the rows that a part of those numbers names
  pub part_there : (n : ℕ) → get_or b 1 0 + n ≤ get_or b 2 0 → NumbersReady s places (take n (drop (50 + get_or b 1 0) b))
  part_there n h =
      subst (NumbersReady s places) (sym (numbers_are n h))
      (numbered_there s places (take n (drop (get_or b 1 0) (cursor_held b).selection)) r.placed
      (every_take (λ row. ltb row (length (rows_of (catalogue s)))) n (drop (get_or b 1 0) (cursor_held b).selection)
      (every_drop (λ row. ltb row (length (rows_of (catalogue s)))) (get_or b 1 0) (cursor_held b).selection r.below)))

  pub all_there : NumbersReady s places (take (50 + get_or b 2 0 - (50 + get_or b 1 0)) (drop (50 + get_or b 1 0) b))
  all_there = part_there (50 + get_or b 2 0 - (50 + get_or b 1 0)) (omega (arith, position_most))

  pub all_rows : rows_at s places (take (50 + get_or b 2 0 - (50 + get_or b 1 0)) (drop (50 + get_or b 1 0) b)) ≡ remaining (rows_of (catalogue s)) (cursor_held b)
  all_rows =
      ap (rows_at s places)
      (ap (λ (n : ℕ). take n (drop (50 + get_or b 1 0) b)) difference
      ∙ numbers_are (get_or b 2 0 - get_or b 1 0) (omega (arith, position_most))
      ∙ take_all (get_or b 2 0 - get_or b 1 0) (drop (get_or b 1 0) (cursor_held b).selection) (omega (arith, count_is, length-drop (get_or b 1 0) (cursor_held b).selection)))
      ∙ rows_are
    where
      difference : 50 + get_or b 2 0 - (50 + get_or b 1 0) ≡ get_or b 2 0 - get_or b 1 0
      difference = omega arith

  -- the first row that remains, where there is one
  module _ (h : get_or b 1 0 < get_or b 2 0) where
    number_is : get_or b (50 + get_or b 1 0) 0 ≡ get_or (cursor_held b).selection (get_or b 1 0) 0
    number_is = sym (get_or-take (get_or b 2 0) (drop 50 b) (get_or b 1 0) 0 h ∙ get_or-drop 50 b (get_or b 1 0) 0)

    pub first_there : RowAtReady s (get_or places (get_or b (50 + get_or b 1 0) 0) 0)
    first_there =
        subst (λ (n : ℕ). RowAtReady s (get_or places n 0)) (sym number_is)
        (numbered_there s places (cursor_held b).selection r.placed r.below (get_or b 1 0) (omega (arith, count_is)))

    pub first_row : remaining (rows_of (catalogue s)) (cursor_held b)
        ≡ row_seen s (get_or places (get_or b (50 + get_or b 1 0) 0) 0) ∷ rows_at s places (drop (get_or b 1 0 + 1) (cursor_held b).selection)
    first_row =
        sym rows_are
        ∙ rows_more s places (cursor_held b).selection (get_or b 1 0) (omega (arith, count_is))
        ∙ ap (λ (n : ℕ). row_seen s (get_or places n 0) ∷ rows_at s places (drop (get_or b 1 0 + 1) (cursor_held b).selection)) (sym number_is)

  module _ (e : first_cause (early_causes (cursor_held b) q) ≡ 0) where
    bound : length (cursor_held b).columns ≡ 0 → ⊥
    unfolding first_cause
    bound z = let w : ◌≡◌ {A = ℕ} 11 0 = rw (eq-eqb (length (cursor_held b).columns) 0 z) at e in omega arith

    pub bindings_fit : fit (cursor_held b).width (cursor_held b).columns ≡ true
    bindings_fit =
        ⊎_elim
        (λ (n : ((cursor_held b).columns ≡ []) × ((cursor_held b).width ≡ 0)). absurd (bound (ap length n.0)))
        (λ (f : fit (cursor_held b).width (cursor_held b).columns ≡ true). f)
        r.fits.bound

    pub words_ready : get_or b 3 0 ≤ columns_most
    words_ready = omega (arith, columns_are, (fit_sound (cursor_held b).width (cursor_held b).columns bindings_fit).count.1)

    pub width_most : get_or b 4 0 ≤ row_most
    width_most = (fit_sound (cursor_held b).width (cursor_held b).columns bindings_fit).row.1
