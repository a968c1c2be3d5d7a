-- The columns of a list of words, one at a time. Assumes nothing.
use mathlib.Core.Path.{◌≡◌, refl, sym, ap, ◌∙◌}
use mathlib.Core.Bool.{Bool, true, false}
use mathlib.Core.List.{List, [], ◌∷◌}
use Prim.Native.Nat.{ℕ, zero, suc, ◌+◌, ◌-◌, ◌<◌}
use native.Mathlib.Nat.{not-suc-le-zero}
use native.Mathlib.Numerals.{add-one, sub-one}
use lib.ListN.{length}
use Rattle.bindings.specs.Column.{column_at, columns_from}
use Rattle.bindings.specs.declared.Column.{Column}
use Rattle.bindings.specs.EachTold.{EachTold, PairsTold}
use Rattle.lists.proofs.Every.{every_more, every_stop, every_none, pair_more, pair_stop, pair_none}

pub from_more : (left k : ℕ) (words : List ℕ) → 0 < left → columns_from left k words ≡ column_at words k ∷ columns_from (left - 1) (k + 1) words
unfolding columns_from
from_more zero k words h = absurd (not-suc-le-zero h)
from_more (suc n) k words h = rw (sub-one (suc n))

pub from_none : (left k : ℕ) (words : List ℕ) → left ≡ 0 → columns_from left k words ≡ []
unfolding columns_from
from_none left k words e = rw e

pub from_length : (n k : ℕ) (words : List ℕ) → length (columns_from n k words) ≡ n
unfolding columns_from
from_length zero k words = refl
from_length (suc n) k words = ap suc (from_length n (k + 1) words)

-- any two answers that a test of columns may give agree, where what is handed over answers a test
pub each_once : (called : Column → Bool → Type 0) (columns : List Column) (test : Column → Bool)
    → ((c : Column) (answer : Bool) → called c answer → answer ≡ test c)
    → (r r' : Bool) → EachTold called columns r → EachTold called columns r' → r ≡ r'
each_once called columns test h r r' t u = t.told test h ∙ sym (u.told test h)

pub pairs_once : (called : Column → Column → Bool → Type 0) (columns : List Column) (test : Column → Column → Bool)
    → ((c d : Column) (answer : Bool) → called c d answer → answer ≡ test c d)
    → (r r' : Bool) → PairsTold called columns r → PairsTold called columns r' → r ≡ r'
pairs_once called columns test h r r' t u = t.told test h ∙ sym (u.told test h)

-- what calls say, and what they are said to say
pub each_by : {called other : Column → Bool → Type 0} {columns : List Column} {r : Bool}
    → EachTold other columns r → ((c : Column) (answer : Bool) → other c answer → called c answer) → EachTold called columns r
each_by t f = record { told = λ test h. t.told test (λ c answer e. h c answer (f c answer e)) }

-- what is told of the columns that are left, by the first of them and the others
from_next : (left rest k : ℕ) (words : List ℕ) → left ≡ rest + 1 → columns_from left k words ≡ column_at words k ∷ columns_from rest (k + 1) words
unfolding columns_from
from_next left rest k words e = rw (e, add-one)

module _ (called : Column → Bool → Type 0) (left rest k : ℕ) (words : List ℕ) (e : left ≡ rest + 1) where
  pub each_stop : called (column_at words k) false → EachTold called (columns_from left k words) false
  each_stop f = record { told = λ test h. sym (every_stop test (from_next left rest k words e) (sym (h _ _ f))) }

  pub each_more : called (column_at words k) true → (r : Bool) → EachTold called (columns_from rest (k + 1) words) r
      → EachTold called (columns_from left k words) r
  each_more f r t = record { told = λ test h. t.told test h ∙ sym (every_more test (from_next left rest k words e) (sym (h _ _ f))) }

module _ (called : Column → Column → Bool → Type 0) (left rest k : ℕ) (words : List ℕ) (e : left ≡ rest + 1) where
  pub pairs_stop : EachTold (called (column_at words k)) (columns_from rest (k + 1) words) false → PairsTold called (columns_from left k words) false
  pairs_stop f = record {
    told = λ test h.
        sym (pair_stop test (from_next left rest k words e) (sym (f.told (test (column_at words k)) (h (column_at words k)))));
  }

  pub pairs_more : EachTold (called (column_at words k)) (columns_from rest (k + 1) words) true
      → (r : Bool) → PairsTold called (columns_from rest (k + 1) words) r → PairsTold called (columns_from left k words) r
  pairs_more f r t = record {
    told = λ test h.
        t.told test h
        ∙ sym (pair_more test (from_next left rest k words e) (sym (f.told (test (column_at words k)) (h (column_at words k)))));
  }

-- none is left
module _ (left k : ℕ) (words : List ℕ) (e : left ≡ 0) where
  pub each_none : (called : Column → Bool → Type 0) → EachTold called (columns_from left k words) true
  each_none called = record { told = λ test h. sym (every_none test (from_none left k words e)) }

  pub pairs_none : (called : Column → Column → Bool → Type 0) → PairsTold called (columns_from left k words) true
  pairs_none called = record { told = λ test h. sym (pair_none test (from_none left k words e)) }
