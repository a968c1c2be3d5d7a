-- The test of a phrase is true exactly where the phrase occurs. Assumes nothing.
use mathlib.Core.Path.{◌≡◌, refl, sym, ◌∙◌}
use mathlib.Core.Bool.{Bool, true, false}
use mathlib.Core.List.{List}
use mathlib.Core.Logic.{◌↔◌, ◌⊎◌}
use Prim.Native.Nat.{ℕ, ◌+◌, ◌-◌, ◌≤◌, ◌<◌}
use native.Mathlib.Omega.{arith}
use lib.Dec.{leb, eqb}
use lib.ListN.{length, get_or}
use Rattle.lists.specs.Below.{both, pick, every_below}
use Rattle.lists.proofs.Below.{true≢false}
use Rattle.tree.specs.Phrase.{space, exact, OccursAt, Occurs, stands_at, starts_word, ends_word, occurs_at, occurs}
use Rattle.lists.proofs.Says.{leb_says, eqb_says, both_says, either_says, where_says, every_says_lem, some_says_lem, says_not}

pub starts_says : (t : List ℕ) (place : ℕ) → (starts_word t place ≡ true) ↔ ((place ≡ 0) ⊎ (get_or t (place - 1) 0 ≡ space))
unfolding starts_word
starts_says t place = either_says (eqb place 0) (eqb (get_or t (place - 1) 0) space) (eqb_says _ _) (eqb_says _ _)

pub ends_says : (t : List ℕ) (place : ℕ) → (ends_word t place ≡ true) ↔ ((place ≡ length t) ⊎ (get_or t place 0 ≡ space))
unfolding ends_word
ends_says t place = either_says (eqb place (length t)) (eqb (get_or t place 0) space) (eqb_says _ _) (eqb_says _ _)

pub stands_says : (p t : List ℕ) (place : ℕ)
    → (stands_at p t place ≡ true)
    ↔ ((place + length p ≤ length t) × ((i : ℕ) → i < length p → get_or p i 0 ≡ get_or t (place + i) 0))
unfolding stands_at
stands_says p t place =
    both_says (leb (place + length p) (length t)) (every_below (length p) same)
    (leb_says _ _)
    (every_says_lem (length p) same (λ i. eqb_says _ _))
  where
    same : ℕ → Bool
    same i = eqb (get_or p i 0) (get_or t (place + i) 0)

module _ (m : ℕ) (p t : List ℕ) where
  pub place_says : (place : ℕ) → (occurs_at m p t place ≡ true) ↔ OccursAt m p t place
  unfolding occurs_at
  place_says place =
      let end = place + length p in
      let edge = pick (eqb m exact) (ends_word t end) true in
      let asked = where_says (eqb m exact) (ends_word t end) (eqb_says m exact) (ends_says t end) in
      let tail = both_says (stands_at p t place) edge (stands_says p t place) asked in
      let parts = both_says (starts_word t place) (both (stands_at p t place) edge) (starts_says t place) tail in (
        λ e. let w = parts.0 e in record { room = w.1.0.0; row = w.1.0.1; left = w.0; right = w.1.1 },
        λ o. parts.1 (o.left, ((o.room, o.row), o.right)),
      )

  -- the test is true exactly where the phrase occurs
  pub occurs_says : (occurs m p t ≡ true) ↔ Occurs m p t
  unfolding occurs
  occurs_says =
      let some = some_says_lem (length t + 1) (occurs_at m p t) place_says in
      (λ e. let w = some.0 e in (w.0, w.2), λ w. some.1 (w.0, omega (arith, w.1.room), w.1))

-- a phrase that method 0 finds, every method finds
pub exact_is_any : (m : ℕ) (p t : List ℕ) → Occurs exact p t → Occurs m p t
exact_is_any m p t w =
    let o = w.1 in
    (w.0, record { room = o.room; row = o.row; left = o.left; right = λ asked. o.right refl })

-- what shows that a phrase does not occur at a place
module _ {m : ℕ} {p t : List ℕ} {place : ℕ} where
  pub no_left : starts_word t place ≡ false → OccursAt m p t place → ⊥
  no_left e o = true≢false (sym ((starts_says t place).1 o.left) ∙ e)

  pub no_row : {u v : ℕ} (i : ℕ) → i < length p → u ≡ get_or p i 0 → v ≡ get_or t (place + i) 0 → (u ≡ v → ⊥) → OccursAt m p t place → ⊥
  no_row i h a b differs o = differs (a ∙ o.row i h ∙ sym b)

  pub no_right : (size : ℕ) → size ≡ length p → m ≡ exact → ends_word t (place + size) ≡ false → OccursAt m p t place → ⊥
  no_right size counted asked e o =
      true≢false (sym ((ends_says t (place + length p)).1 (o.right asked)) ∙ (rw counted at e))

-- what a search ends with: a place, or none up to the last that has room
module _ (m : ℕ) (p t : List ℕ) (size : ℕ) (counted : size ≡ length p) where
  pub found : (place : ℕ)
      → starts_word t place ≡ true
      → place + size ≤ length t
      → ((i : ℕ) → i < size → get_or p i 0 ≡ get_or t (place + i) 0)
      → (m ≡ exact → ends_word t (place + size) ≡ true)
      → true ≡ occurs m p t
  found place starts room row right =
      sym ((occurs_says m p t).1 (
        place,
        record {
          room = omega arith;
          row = λ i h. row i (omega arith);
          left = (starts_says t place).0 starts;
          right = λ asked. (ends_says t (place + length p)).0 (rw counted at (right asked));
        },
      ))

  pub nowhere : (n : ℕ) → length t < n + size → ((place : ℕ) → place < n → OccursAt m p t place → ⊥) → false ≡ occurs m p t
  nowhere n past none =
      sym (says_not (occurs m p t) (occurs_says m p t) (λ w. none w.0 (omega (arith, w.1.room)) w.1))
