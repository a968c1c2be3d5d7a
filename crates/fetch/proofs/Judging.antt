-- Refusals 11 to 13 of a request, and 15 by the rows that are counted. Assumes nothing.
use mathlib.Core.Path.{◌≡◌, refl, sym, ◌∙◌}
use mathlib.Core.Bool.{true, false}
use mathlib.Core.List.{List, [], ◌∷◌}
use Prim.Native.Nat.{ℕ, ◌+◌, ◌-◌, ◌≤◌}
use native.Mathlib.Omega.{arith}
use borrow.Author.Tests.{eq-eqb, ne_eqb, lt-ltb, le-ltb, ltb-true, ltb-false}
use lib.Dec.{ltb}
use lib.ListN.{length, get_or}
use Rattle.lists.proofs.Below.{by_test}
use Rattle.catalogue.specs.Plain.{Row}
use Rattle.bindings.proofs.Columns.{from_length}
use Rattle.table.specs.Layout.{records_at, records_size}
use Rattle.lists.specs.Parts.{part}
use Rattle.table.specs.Seat.{Cursor, cursor_held}
use Rattle.refusal.specs.Refusal.{first_cause}
use Rattle.fetch.specs.declared.Request.{Request}
use Rattle.page.specs.Rows.{blocks}
use Rattle.fetch.specs.Fetch.{not_served, first_unfit, early_causes}

-- the causes that need no row, of a cursor by its words
module _ (b : List ℕ) (q : Request) where
  bound_is : length (cursor_held b).columns ≡ get_or b 3 0
  bound_is = from_length (get_or b 3 0) 0 (part b records_at records_size)

  pub no_bindings_lem : get_or b 3 0 ≡ 0 → first_cause (early_causes (cursor_held b) q) ≡ 11
  unfolding first_cause
  no_bindings_lem e = rw (bound_is, eq-eqb (get_or b 3 0) 0 e)

  module _ (n : get_or b 3 0 ≡ 0 → ⊥) where
    pub other_width : (q.width ≡ get_or b 4 0 → ⊥) → first_cause (early_causes (cursor_held b) q) ≡ 12
    unfolding first_cause
    other_width h = rw (bound_is, ne_eqb (get_or b 3 0) 0 n, ne_eqb q.width (get_or b 4 0) h)

    module _ (w : q.width ≡ get_or b 4 0) where
      pub unserved : not_served q ≡ true → first_cause (early_causes (cursor_held b) q) ≡ 13
      unfolding first_cause
      unserved h = rw (bound_is, ne_eqb (get_or b 3 0) 0 n, eq-eqb q.width (get_or b 4 0) w, h)

      pub all_served : not_served q ≡ false → first_cause (early_causes (cursor_held b) q) ≡ 0
      unfolding first_cause
      all_served h = rw (bound_is, ne_eqb (get_or b 3 0) 0 n, eq-eqb q.width (get_or b 4 0) w, h)

-- refusal 15: no row is asked for, none is left, or the first one's room decides
module _ (c : Cursor) (q : Request) where
  pub none_asked : (rows : List Row) → q.asked ≡ 0 → first_unfit c q rows ≡ false
  none_asked [] e = refl
  none_asked (r ∷ rows) e = rw (le-ltb 0 q.asked (omega arith))

  pub none_left : (rows : List Row) → length rows ≡ 0 → first_unfit c q rows ≡ false
  none_left [] e = refl
  none_left (r ∷ rows) e = absurd (omega arith)

  pub one_left : (rows rest : List Row) (r : Row) → rows ≡ r ∷ rest → (q.asked ≡ 0 → ⊥)
      → first_unfit c q rows ≡ ltb q.size (q.from + (c.width + blocks c.columns r))
  one_left rows rest r e a = rw (e, lt-ltb 0 q.asked (omega arith))

-- the room after the first bytes of a reply, or the whole of it
pub room_less : (size from need : ℕ) → from ≤ size → ltb (size - from) need ≡ ltb size (from + need)
room_less size from need h =
    by_test (ltb size (from + need))
    (λ q. lt-ltb (size - from) need (omega (arith, ltb-true size (from + need) q)) ∙ sym q)
    (λ q. le-ltb (size - from) need (omega (arith, ltb-false size (from + need) q)) ∙ sym q)
