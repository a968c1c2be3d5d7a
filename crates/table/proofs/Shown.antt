-- The words of a cursor that fits are well, and hold that cursor. Assumes nothing.
use mathlib.Core.Path.{◌≡◌, refl, ap, ap₂, ◌∙◌}
use mathlib.Core.Bool.{true}
use mathlib.Core.List.{List, [], ◌∷◌, ◌++◌}
use mathlib.Core.Logic.{⊎_elim}
use Rattle.std.specs.Prelude.{Some}
use Prim.Native.Nat.{ℕ, ◌+◌, ◌-◌, ◌*◌, ◌≤◌}
use native.Mathlib.Omega.{arith}
use borrow.Author.Tests.{ne_eqb, le-leb}
use lib.Dec.{leb}
use lib.ListN.{length, take, drop, length-append, length-replicate}
use lib.Seq.{length-take-le, take_at, drop_at, take-append-add}
use Rattle.lists.proofs.Below.{both_true}
use Rattle.bindings.specs.Column.{columns_of, records_of, no_words, words_of, columns_most}
use Rattle.lists.specs.Every.{every}
use Rattle.bindings.specs.Fit.{fit}
use Rattle.bindings.specs.declared.Column.{Column}
use Rattle.bindings.proofs.Sound.{fit_sound}
use Rattle.bindings.proofs.Records.{words_columns, records_length}
use Rattle.table.specs.Layout.{cursor_size, records_at, records_size, rows_at, rows_size}
use Rattle.lists.specs.Parts.{part, zeros}
use Rattle.table.specs.Seat.{Cursor, cursor_words, cursor_of}
use Rattle.table.specs.Well.{all_zero, rising, tidy, bindings_well, cursor_well}
use Rattle.table.specs.Fits.{CursorFits}
use Rattle.table.proofs.Cursors.{zeros_are, rising_shown}
use Rattle.lists.proofs.Parts.{take_zeros}

pub words_length : (s : List Column) → length (words_of s) ≡ records_size
unfolding words_of
words_length s = length-take-le 45 (records_of s ++ no_words) (omega (arith, length-append (records_of s) no_words, length-replicate {A = ℕ} 45 0))

words_are : (s : List Column) → length s ≤ columns_most → words_of s ≡ records_of s ++ zeros (45 - 9 * length s)
unfolding words_of
words_are s h =
    ap (λ (n : ℕ). take n (records_of s ++ no_words)) room
    ∙ take-append-add (records_of s) no_words (45 - 9 * length s)
    ∙ ap (λ (r : List ℕ). records_of s ++ r) (take_zeros (45 - 9 * length s) 45 (omega arith))
  where
    room : 45 ≡ length (records_of s) + (45 - 9 * length s)
    room = omega (arith, records_length s)

-- at most five columns are bound
few : (c : Cursor) → CursorFits c → length c.columns ≤ columns_most
few c f =
    ⊎_elim
    (λ (w : (c.columns ≡ []) × (c.width ≡ 0)). rw w.0 (omega arith))
    (λ (w : fit c.width c.columns ≡ true). (fit_sound c.width c.columns w).count.1)
    f.bound

-- the bindings in a cursor's words: none, or fit ones
unbound_well : (position count : ℕ) (rest : List ℕ) → bindings_well (1 ∷ position ∷ count ∷ 0 ∷ 0 ∷ (words_of [] ++ rest)) ≡ true
unfolding words_of records_of
unbound_well position count rest = ap (λ (r : List ℕ). all_zero (0 ∷ r)) (take_at (words_of []) rest 45 (words_length [])) ∙ zeros_are 46

bound_well_lem : (position count width : ℕ) (s : List Column) (rest : List ℕ) → fit width s ≡ true → every tidy s ≡ true
    → bindings_well (1 ∷ position ∷ count ∷ length s ∷ width ∷ (words_of s ++ rest)) ≡ true
bound_well_lem position count width s rest f t =
    rw (
      ne_eqb (length s) 0 (λ e. omega (arith, (fit_sound width s f).count.0)),
      take_at (words_of s) rest 45 (words_length s),
      words_columns s most,
    )
    (both_true (fit width s) _ f
    (both_true (every tidy s) _ t
    (ap (λ (r : List ℕ). all_zero (drop (9 * length s) r)) (words_are s most)
    ∙ ap all_zero (drop_at (records_of s) (zeros (45 - 9 * length s)) (9 * length s) (records_length s))
    ∙ zeros_are (45 - 9 * length s))))
  where
    most : length s ≤ columns_most
    most = (fit_sound width s f).count.1

module _ (c : Cursor) (f : CursorFits c) where
  rows_part : drop rows_at (cursor_words (Some c)) ≡ c.selection ++ zeros (rows_size - length c.selection)
  rows_part = drop_at (words_of c.columns) (c.selection ++ zeros (rows_size - length c.selection)) 45 (words_length c.columns)

  records_part : part (cursor_words (Some c)) records_at records_size ≡ words_of c.columns
  records_part = take_at (words_of c.columns) (c.selection ++ zeros (rows_size - length c.selection)) 45 (words_length c.columns)

  selection_part : take (length c.selection) (drop rows_at (cursor_words (Some c))) ≡ c.selection
  selection_part = ap (take (length c.selection)) rows_part ∙ take_at c.selection _ (length c.selection) refl

  pub cursor_held_lem : cursor_of (cursor_words (Some c)) ≡ Some c
  cursor_held_lem =
      ap₂ (λ (s : List ℕ) (k : List Column). Some (record { position = c.position; selection = s; width = c.width; columns = k }))
      selection_part
      (ap (columns_of (length c.columns)) records_part ∙ words_columns c.columns (few c f))

  pub cursor_length : length (cursor_words (Some c)) ≡ cursor_size
  cursor_length =
      omega (
        arith,
        length-append (words_of c.columns) (c.selection ++ zeros (rows_size - length c.selection)),
        length-append c.selection (zeros (rows_size - length c.selection)),
        length-replicate {A = ℕ} (rows_size - length c.selection) 0,
        words_length c.columns,
        f.rows,
      )

  bindings_shown : bindings_well (cursor_words (Some c)) ≡ true
  bindings_shown =
      ⊎_elim
      (λ (w : (c.columns ≡ []) × (c.width ≡ 0)).
      ap₂
      (λ (s : List Column) (width : ℕ). bindings_well (1 ∷ c.position ∷ length c.selection ∷ length s ∷ width ∷ (words_of s ++ rest)))
      w.0
      w.1
      ∙ unbound_well c.position (length c.selection) rest)
      (λ (w : fit c.width c.columns ≡ true). bound_well_lem c.position (length c.selection) c.width c.columns rest w f.tidied)
      f.bound
    where
      rest : List ℕ
      rest = c.selection ++ zeros (rows_size - length c.selection)

  pub cursor_shown : cursor_well (cursor_words (Some c)) ≡ true
  unfolding cursor_well
  cursor_shown =
      both_true (leb c.position (length c.selection)) _ (le-leb c.position (length c.selection) f.position)
      (both_true (leb (length c.selection) rows_size) _ (le-leb (length c.selection) rows_size f.rows)
      (both_true (bindings_well (cursor_words (Some c))) _ bindings_shown
      (both_true (rising (take (length c.selection) (drop rows_at (cursor_words (Some c))))) _
      (ap rising selection_part ∙ rising_shown c.selection f.rising)
      (ap all_zero
      (ap (drop (length c.selection)) rows_part ∙ drop_at c.selection (zeros (rows_size - length c.selection)) (length c.selection) refl)
      ∙ zeros_are (rows_size - length c.selection)))))
