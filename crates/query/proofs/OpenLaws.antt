-- Opening a query on a seat: the lowest free handle, refusals 7, 14 and 16, and the cursor that is opened. Assumes nothing.
use mathlib.Core.Path.{◌≡◌, refl, sym, ap, ap₂, ◌∙◌}
use mathlib.Core.Bool.{true, false}
use mathlib.Core.List.{List, ◌++◌, map}
use Rattle.std.specs.Prelude.{Option, None, Some, Ok, Err}
use Rattle.refusal.specs.declared.Refusal.{Refusal}
use Rattle.refusal.specs.declared.Refusal.TheVariants.{Connection, HandlesTaken, TreeMalformed}
use Rattle.refusal.specs.Numbers.{refusal_number}
use Rattle.refusal.proofs.Numbers.{number_least}
use Prim.Native.Nat.{ℕ, ◌-◌, ◌≤◌}
use native.Mathlib.Omega.{arith}
use borrow.Author.Tests.{eq-eqb, ne_eqb}
use lib.Dec.{eqb}
use lib.ListN.{length, get_or, take, drop, set, length-append, length-map, length-replicate}
use Rattle.lists.proofs.Below.{by_test}
use Rattle.lists.proofs.Options.{some_is}
use Rattle.catalogue.specs.Plain.{Row, catalogue}
use Rattle.catalogue.specs.CataloguePlaces.{places, row_seen}
use Rattle.catalogue.proofs.Agree.{catalogue_agrees}
use Rattle.tree.specs.Tree.{Tree}
use Rattle.tree.specs.TreeHolds.{holds}
use Rattle.tree.specs.Reader.{restriction, is_tree}
use Rattle.tree.specs.Select.{selected_by, selected}
use Rattle.tree.specs.SelectReady.{NotedReady}
use Rattle.tree.proofs.Selection.{numbers_few}
use Rattle.tree.proofs.SelectLaws as Laws
use Rattle.table.specs.Layout.{cursor_size, rows_size}
use Rattle.lists.specs.Parts.{put, zeros}
use Rattle.table.specs.Seat.{Seat, cursor_words, seat_in, seat_of, opened}
use Rattle.table.specs.declared.Handle.{Handle}
use Rattle.table.proofs.Tables.{put_length}
use Rattle.table.proofs.Writes.{opened_words}
use Rattle.refusal.specs.Refusal.{first_cause}
use Rattle.table.specs.Open.{is_open}
use Rattle.query.specs.Open.{free_handle, open_causes}
use Rattle.query.specs.OpenTold.{handle_for, Judged}
use Rattle.lists.proofs.Parts.{drop_zeros}

-- the lowest free handle
pub free_first : (s : Seat) → is_open s.first ≡ false → free_handle s ≡ 1
free_first s e = rw e

pub free_second : (s : Seat) → is_open s.first ≡ true → is_open s.second ≡ false → free_handle s ≡ 2
free_second s e f = rw (e, f)

pub free_none : (s : Seat) → is_open s.first ≡ true → is_open s.second ≡ true → free_handle s ≡ 0
free_none s e f = rw (e, f)

-- refusals 7, 14 and 16
refused_by_lem : (held : Option Seat) (tree : List ℕ) (n : Refusal) → first_cause (open_causes held tree) ≡ refusal_number n → Judged held tree (Err n)
refused_by_lem held tree n e = record { refused = sym e; given = λ w. absurd (number_least n w); none_given = λ w. refl }

module _ (b tree : List ℕ) where
  pub open_gone : get_or b 0 0 ≡ 0 → Judged (seat_of b) tree (Err Connection)
  unfolding first_cause
  open_gone e = refused_by_lem (seat_of b) tree Connection (rw (eq-eqb (get_or b 0 0) 0 e))

  module _ (o : get_or b 0 0 ≡ 0 → ⊥) where
    held : seat_of b ≡ Some (seat_in b)
    held = rw (ne_eqb (get_or b 0 0) 0 o)

    pub open_full : free_handle (seat_in b) ≡ 0 → Judged (seat_of b) tree (Err HandlesTaken)
    unfolding first_cause
    open_full e =
        refused_by_lem (seat_of b) tree HandlesTaken (ap (λ (s : Option Seat). first_cause (open_causes s tree)) held ∙ rw (eq-eqb (free_handle (seat_in b)) 0 e))

    pub open_bad : (free_handle (seat_in b) ≡ 0 → ⊥) → is_tree (restriction tree) ≡ false → Judged (seat_of b) tree (Err TreeMalformed)
    unfolding first_cause
    open_bad e f =
        refused_by_lem (seat_of b) tree TreeMalformed
        (ap (λ (s : Option Seat). first_cause (open_causes s tree)) held ∙ rw (ne_eqb (free_handle (seat_in b)) 0 e, f))

    pub open_free : (handle : Handle) → handle.0 ≡ free_handle (seat_in b) → (free_handle (seat_in b) ≡ 0 → ⊥) → is_tree (restriction tree) ≡ true
        → Judged (seat_of b) tree (Ok handle)
    unfolding first_cause
    open_free handle h e f =
        record {
          refused =
              sym
              (ap (λ (s : Option Seat). first_cause (open_causes s tree)) held
              ∙ rw (ne_eqb (free_handle (seat_in b)) 0 e, f));
          given = λ w. h ∙ sym (ap handle_for held);
          none_given = λ w. absurd (w refl);
        }

-- where none of them applies there is a tree
pub open_tree : (held : Option Seat) (tree : List ℕ) → first_cause (open_causes held tree) ≡ 0 → is_tree (restriction tree) ≡ true
unfolding first_cause
open_tree None tree e = absurd (let z : ◌≡◌ {A = ℕ} 7 0 = e in omega arith)
open_tree (Some s) tree e =
    by_test (is_tree (restriction tree))
    (λ q. q)
    (λ q. by_test (eqb (free_handle s) 0)
    (λ f. absurd (let z : ◌≡◌ {A = ℕ} 14 0 = rw f at e in omega arith))
    (λ f. absurd (let z : ◌≡◌ {A = ℕ} 16 0 = rw (f, q) at e in omega arith)))

-- a selection has at most as many rows as there is room for
pub rows_most_lem : (s : List ℕ) (rows : ℕ) (noted : List ℕ) (found : List Row) → NotedReady s rows noted → catalogue s ≡ Some found → length found ≡ rows
rows_most_lem s rows noted found n e =
    ap length (sym (some_is (sym seen ∙ e))) ∙ length-map (places s) (row_seen s) ∙ Laws.counted s rows noted n
  where
    seen : catalogue s ≡ Some (map (row_seen s) (places s))
    seen = catalogue_agrees s ∙ rw n.well

pub selected_few : (tree s : List ℕ) (rows : ℕ) (noted : List ℕ) → NotedReady s rows noted → length (selected tree s) ≤ rows_size
selected_few tree s rows noted n = go (restriction tree) (catalogue s) refl
  where
    go : (t : Option Tree) (found : Option (List Row)) → catalogue s ≡ found → length (selected_by t found) ≤ rows_size
    go None found e = omega arith
    go (Some t) None e = omega arith
    go (Some t) (Some found) e =
        omega (arith, numbers_few 0 (holds t) found, rows_most_lem s rows noted found n e, Laws.few s rows noted n)

pub closed_length : (b : List ℕ) → b ≡ cursor_words None → length b ≡ cursor_size
closed_length b e = ap length e ∙ length-replicate {A = ℕ} cursor_size 0

-- a closed cursor's words, with the selection in their place and two words set, are those of the cursor opened
module _ (b selection into : List ℕ) (e : b ≡ cursor_words None) (h : length selection ≤ rows_size)
    (l : into ≡ selection ++ drop (length selection) (take rows_size (drop 50 b))) where
  into_is : into ≡ selection ++ zeros (rows_size - length selection)
  into_is =
      l
      ∙ ap (λ (x : List ℕ). selection ++ x)
      (ap (λ (x : List ℕ). drop (length selection) (take rows_size (drop 50 x))) e ∙ drop_zeros (length selection) rows_size)

  pub filled_length : length (put b 50 rows_size into) ≡ cursor_size
  filled_length =
      put_length b 50 rows_size into (omega (arith, closed_length b e))
      (ap length into_is
      ∙ omega (arith, length-append selection (zeros (rows_size - length selection)), length-replicate {A = ℕ} (rows_size - length selection) 0, h))
      ∙ closed_length b e

  pub filled : (count : ℕ) → count ≡ length selection → set (set (put b 50 rows_size into) 0 1) 2 count ≡ cursor_words (Some (opened selection))
  filled count c =
      ap₂ (λ (x : List ℕ) (n : ℕ). set (set x 0 1) 2 n) (ap₂ (λ (x y : List ℕ). put x 50 rows_size y) e into_is) c
      ∙ opened_words selection h
