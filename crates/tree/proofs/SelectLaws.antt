-- Laws of selecting: a row at a place, the rows that are left, and the whole. Assumes nothing.
use mathlib.Core.Path.{◌≡◌, refl, sym, ap, ◌∙◌}
use mathlib.Core.Bool.{Bool, true}
use mathlib.Core.List.{List, [], ◌∷◌, map}
use Rattle.std.specs.Prelude.{Option, None, Some}
use Prim.Native.Nat.{ℕ, ◌+◌, ◌≤◌, ◌<◌}
use native.Mathlib.Nat.{zero-add}
use native.Mathlib.Numerals.{add-one}
use native.Mathlib.Omega.{arith}
use lib.Dec.{leb}
use lib.ListN.{length, get_or, take, drop, length-map, drop_of_length-le}
use lib.Seq.{take_at, drop-cons, get_or-take, sets, sets-eq}
use Rattle.lists.specs.Below.{pick}
use Rattle.lists.specs.Options.{and_then}
use Rattle.lists.proofs.Below.{by_test}
use Rattle.catalogue.specs.NumberPlaces.{reading_at}
use Rattle.catalogue.proofs.Inside.{reading_read}
use Rattle.catalogue.specs.Limits.{rows_most, bytes_most}
use Rattle.catalogue.specs.Plain.{Row}
use Rattle.catalogue.specs.CataloguePlaces.{rows_end, row_seen, counted as check_counted, checked, row_count, places, noted}
use Rattle.catalogue.specs.CatalogueReady.{RowAtReady}
use Rattle.catalogue.proofs.Agree.{accepted, catalogue_agrees, rows_counted, row_stands}
use Rattle.tree.specs.Tree.{Tree}
use Rattle.tree.specs.TreeHolds.{held_by}
use Rattle.tree.specs.Reader.{restriction}
use Rattle.tree.specs.Select.{numbers_from, selected_by, selected}
use Rattle.tree.specs.SelectTold.{Selected}
use Rattle.tree.proofs.Selection.{numbers_few}
use Rattle.tree.specs.SelectReady.{NotedReady}

-- the numbers of the rows from the i-th on
abbrev pub left : List ℕ → List ℕ → ℕ → List ℕ
left tree s i = numbers_from i (held_by (restriction tree)) (map (row_seen s) (drop i (places s)))

left_from : (tree s : List ℕ) (i : ℕ) (told : Bool) → i < length (places s) → told ≡ held_by (restriction tree) (row_seen s (get_or (places s) i 0))
    → left tree s i ≡ pick told (i ∷ left tree s (i + 1)) (left tree s (i + 1))
unfolding numbers_from
left_from tree s i told h e = rw (drop-cons (places s) i 0 h, ← e, add-one)

-- no check counts more rows than there may be
pub rows_few : (s : List ℕ) → row_count (checked s) ≤ rows_most
unfolding checked
rows_few s = by_test (leb (length s) bytes_most) (λ q. rw q (go (reading_at rows_most s 0) refl)) (λ q. rw q (omega arith))
  where
    go : (r : Option (ℕ × ℕ)) → reading_at rows_most s 0 ≡ r → row_count (and_then r (λ (n, at). check_counted n (rows_end n s at))) ≤ rows_most
    go None e = omega arith
    go (Some r) e =
        by_test (rows_end r.0 s r.1) (λ q. rw q (reading_read rows_most s 0 r.0 r.1 e).small) (λ q. rw q (omega arith))

-- a catalogue that was checked
module _ (s : List ℕ) (rows : ℕ) (held : List ℕ) (n : NotedReady s rows held) where
  pub well_formed_lem : accepted s ≡ true
  well_formed_lem = rw n.well

  pub counted : length (places s) ≡ rows
  counted = rows_counted s well_formed_lem ∙ ap row_count n.well

  pub few : rows ≤ rows_most
  few = omega (arith, ap row_count n.well, rows_few s)

  pub noted_at : (i : ℕ) → i < rows → get_or held i 0 ≡ get_or (places s) i 0
  noted_at i h = sym (get_or-take rows held i 0 h) ∙ ap (λ (p : List ℕ). get_or p i 0) n.noted

  pub stands : (i : ℕ) → i < rows → RowAtReady s (get_or held i 0)
  stands i h = rw (noted_at i h) (row_stands s well_formed_lem i (rw n.well h))

  -- the rows that are left, where there are some: the next one is selected or not, and then the others
  pub left_more : (tree : List ℕ) (i : ℕ) (told : Bool) → i < rows → told ≡ held_by (restriction tree) (row_seen s (get_or held i 0))
      → left tree s i ≡ pick told (i ∷ left tree s (i + 1)) (left tree s (i + 1))
  left_more tree i told h e = left_from tree s i told (omega (arith, counted)) (e ∙ ap (λ (at : ℕ). held_by (restriction tree) (row_seen s at)) (noted_at i h))

-- what is selected: by no tree nothing, else the numbers of the rows from the first on
none_held : (n : ℕ) (rows : List Row) → numbers_from n (held_by None) rows ≡ []
unfolding numbers_from
none_held n [] = refl
none_held n (r ∷ rows) = none_held (n + 1) rows

selected_some : (o : Option Tree) (rows : List Row) → selected_by o (Some rows) ≡ numbers_from 0 (held_by o) rows
selected_some None rows = sym (none_held 0 rows)
selected_some (Some t) rows = refl

module _ (tree s : List ℕ) (rows : ℕ) (held : List ℕ) (n : NotedReady s rows held) where
  pub selected_is : selected tree s ≡ left tree s 0
  selected_is = rw (catalogue_agrees s, well_formed_lem s rows held n) (selected_some (restriction tree) (map (row_seen s) (places s)))

  -- no row is left after the last one, and then all is selected
  pub left_none : (next : ℕ) → rows ≤ next → left tree s next ≡ []
  unfolding numbers_from
  left_none next h = let l : length (places s) ≤ next = omega (arith, counted s rows held n) in rw (drop_of_length-le (places s) l)

  pub all_selected : (before after : List ℕ) (count next : ℕ) → rows ≤ next → rows ≤ length before
      → count + length (left tree s next) ≡ length (left tree s 0) → sets after count (left tree s next) ≡ sets before 0 (left tree s 0)
      → Selected tree s before count after
  all_selected before after count next h room c l =
      let few = numbers_few 0 (held_by (restriction tree)) (map (row_seen s) (places s)) in
      let rows_are = length-map (places s) (row_seen s) in
      record {
        counted = rw selected_is (omega (arith, rw (left_none next h) at c));
        laid = rw selected_is ((rw (left_none next h) at l) ∙ sets-eq (left tree s 0) before 0 (omega (arith, few, rows_are, counted s rows held n)) ∙ rw zero-add);
      }

-- what the check of a catalogue leaves of the array that it was lent
pub noted_by_check : (s before after : List ℕ) (rows : ℕ) → checked s ≡ Some rows → after ≡ noted s before → rows_most ≤ length before
    → NotedReady s rows after
noted_by_check s before after rows well laid room =
    let counts = rows_counted s (rw well) ∙ ap row_count well in
    let few = rows_few s in
    record {
      well = well;
      noted = ap (take rows) (laid ∙ sets-eq (places s) before 0 (omega (arith, counts, few, ap row_count well)))
          ∙ take_at (places s) _ rows counts;
    }

-- any two outcomes agree
pub outcomes_agree : {tree s before after other : List ℕ} {count another : ℕ} → Selected tree s before count after → Selected tree s before another other
    → (count ≡ another) × (after ≡ other)
outcomes_agree a b = (a.counted ∙ sym b.counted, a.laid ∙ sym b.laid)
