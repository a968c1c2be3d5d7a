-- Records of nine words: keeping columns one after another, and reading back what was kept. Assumes nothing.
use mathlib.Core.Path.{◌≡◌, refl, sym, ap, ◌∙◌}
use mathlib.Core.Bool.{Bool, true, false}
use mathlib.Core.List.{List, [], ◌∷◌, ◌++◌, append-nil, append_assoc}
use Rattle.std.specs.Prelude.{slice_index_or}
use Rattle.std.specs.Simd.{first_chunks}
use Prim.Native.Nat.{ℕ, zero, suc, ◌+◌, ◌*◌, ◌-◌, ◌≤◌, ◌<◌}
use native.Mathlib.Nat.{add-zero, mul-suc}
use native.Mathlib.Omega.{arith}
use borrow.Author.Tests.{lt-ltb, le-ltb, ltb-true, ltb-false, leb-true, leb-false, lt-leb}
use lib.Dec.{ltb, leb}
use lib.ListN.{length, get_or, take, drop, length-append}
use lib.Seq.{get_or-take, get_or-drop, take_at, take-append-add, drop-append-add, get_or-append-add}
use Rattle.lists.specs.Below.{both, within}
use Rattle.lists.proofs.Below.{by_test}
use Rattle.bindings.specs.Column.{column_at, columns_from, columns_of, record_of, records_of, no_words, words_of, kept, kept_all, columns_most}
use Rattle.lists.specs.Parts.{zeros}
use Rattle.bindings.specs.Fit.{fit, row_most, columns_fit}
use Rattle.bindings.specs.declared.Column.{Column}
use Rattle.bindings.proofs.Columns.{from_length}
use Rattle.lists.proofs.Parts.{take_zeros, drop_zeros}

-- a word of the k-th run of n words
pub in_chunk : (n count k j : ℕ) (words : List ℕ) → k < count → j < n
    → slice_index_or (slice_index_or (first_chunks n count words) k []) j 0 ≡ get_or words (n * k + j) 0
in_chunk n zero k j words h i = absurd (omega arith)
in_chunk n (suc c) zero j words h i = get_or-take n words j 0 i ∙ ap (λ (p : ℕ). get_or words p 0) first
  where
    first : j ≡ n * 0 + j
    first = omega arith
in_chunk n (suc c) (suc k) j words h i =
    in_chunk n c k j (drop n words) (omega arith) i
    ∙ get_or-drop n words (n * k + j) 0
    ∙ ap (λ (p : ℕ). get_or words p 0) next
  where
    next : n + (n * k + j) ≡ n * suc k + j
    next = omega (arith, mul-suc n k)

-- past the room nothing is kept
full : (s : List Column) (k : ℕ) (words : List ℕ) → 5 ≤ k → kept_all k words s ≡ words
unfolding kept_all
full [] k words h = refl
full (c ∷ s) k words h = rw (le-ltb k 5 h) (full s (k + 1) words (omega arith))

-- a record after those kept, with zeros after it
kept_next : (p : List ℕ) (k : ℕ) (c : Column) → length p ≡ 9 * k → k < 5
    → kept (p ++ zeros (45 - 9 * k)) k c ≡ p ++ record_of c ++ zeros (45 - 9 * (k + 1))
kept_next p k c e h =
    rw (lt-ltb k 5 h, next, take_at p (zeros (45 - 9 * k)) (9 * k) e) (ap (λ (l : List ℕ). p ++ record_of c ++ l) after)
  where
    next : 45 - 9 * (k + 1) ≡ 45 - 9 * k - 9
    next = omega arith

    after : drop (9 * k + 9) (p ++ zeros (45 - 9 * k)) ≡ zeros (45 - 9 * k - 9)
    after =
        ap (λ (n : ℕ). drop (n + 9) (p ++ zeros (45 - 9 * k))) (sym e)
        ∙ drop-append-add p (zeros (45 - 9 * k)) 9
        ∙ drop_zeros 9 (45 - 9 * k)

-- columns kept after a whole number of records
kept_after : (s : List Column) (k : ℕ) (p : List ℕ) → length p ≡ 9 * k → k ≤ 5
    → kept_all k (p ++ zeros (45 - 9 * k)) s ≡ take 45 (p ++ (records_of s ++ no_words))
unfolding kept_all records_of
kept_after [] k p e h =
    sym
    (ap (λ (n : ℕ). take n (p ++ no_words)) whole
    ∙ take-append-add p no_words (45 - 9 * k)
    ∙ ap (λ (l : List ℕ). p ++ l) (take_zeros (45 - 9 * k) 45 (omega arith)))
  where
    whole : 45 ≡ length p + (45 - 9 * k)
    whole = omega arith
kept_after (c ∷ s) k p e h =
    by_test (ltb k 5)
    (λ q.
    ap (λ (l : List ℕ). kept_all (k + 1) l s) (kept_next p k c e (ltb-true k 5 q))
    ∙ kept_after s (k + 1) (p ++ record_of c) (length-append p (record_of c) ∙ omega arith) (omega (arith, ltb-true k 5 q))
    ∙ ap (take 45) (append_assoc p (record_of c) (records_of s ++ no_words) ∙ ap (λ (l : List ℕ). p ++ l) (sym (append_assoc (record_of c) (records_of s) no_words))))
    (λ q. full (c ∷ s) k (p ++ zeros (45 - 9 * k)) (ltb-false k 5 q) ∙ over (ltb-false k 5 q))
  where
    over : 5 ≤ k → p ++ zeros (45 - 9 * k) ≡ take 45 (p ++ (records_of (c ∷ s) ++ no_words))
    over q = rw (none) (append-nil p ∙ sym (take_at p (records_of (c ∷ s) ++ no_words) 45 (omega arith)))
      where
        none : 45 - 9 * k ≡ 0
        none = omega arith

pub kept_words : (s : List Column) → kept_all 0 no_words s ≡ words_of s
unfolding words_of
kept_words s = kept_after s 0 [] refl (omega arith)

-- a column after a whole number of records
column_part : (p q : List ℕ) (k : ℕ) → length p ≡ 9 * k → column_at (p ++ q) k ≡ column_at q 0
column_part p q k e =
    rw (
      ← e,
      first,
      get_or-append-add p q 1 0,
      get_or-append-add p q 2 0,
      get_or-append-add p q 3 0,
      get_or-append-add p q 4 0,
      get_or-append-add p q 5 0,
      get_or-append-add p q 6 0,
      get_or-append-add p q 7 0,
      get_or-append-add p q 8 0,
    )
  where
    first : get_or (p ++ q) (length p) 0 ≡ get_or q 0 0
    first = rw add-zero at (get_or-append-add p q 0 0)

read_after : (s : List Column) (k : ℕ) (p q : List ℕ) → length p ≡ 9 * k → columns_from (length s) k (p ++ (records_of s ++ q)) ≡ s
unfolding columns_from records_of
read_after [] k p q e = refl
read_after (c ∷ s) k p q e =
    ap (λ (d : Column). d ∷ columns_from (length s) (k + 1) (p ++ (record_of c ++ records_of s ++ q))) (column_part p (record_of c ++ records_of s ++ q) k e)
    ∙ ap (λ (l : List ℕ). c ∷ columns_from (length s) (k + 1) l)
    (ap (λ (l : List ℕ). p ++ l) (append_assoc (record_of c) (records_of s) q) ∙ sym (append_assoc p (record_of c) (records_of s ++ q)))
    ∙ ap (λ (l : List Column). c ∷ l) (read_after s (k + 1) (p ++ record_of c) q (length-append p (record_of c) ∙ omega arith))

pub records_length : (s : List Column) → length (records_of s) ≡ 9 * length s
unfolding records_of
records_length [] = refl
records_length (c ∷ s) = length-append (record_of c) (records_of s) ∙ omega (arith, records_length s)

-- what is kept of at most five columns reads back as the columns
pub words_columns : (s : List Column) → length s ≤ columns_most → columns_of (length s) (words_of s) ≡ s
unfolding words_of
words_columns s h =
    ap (columns_of (length s)) (ap (λ (n : ℕ). take n (records_of s ++ no_words)) room ∙ take-append-add (records_of s) no_words (45 - 9 * length s))
    ∙ read_after s 0 [] (take (45 - 9 * length s) no_words) refl
  where
    room : 45 ≡ length (records_of s) + (45 - 9 * length s)
    room = omega (arith, records_length s)

-- so columns and the words that hold them are fit alike: more than five are unfit, whatever is kept
too_many : (width : ℕ) (s : List Column) → columns_most < length s → fit width s ≡ false
unfolding fit
too_many width s h = rw (lt-leb (length s) columns_most h) (both_false (leb 1 (length s)) (both (within 1 row_most width) (columns_fit width s)))
  where
    both_false : (a b : Bool) → both (both a false) b ≡ false
    both_false true b = refl
    both_false false b = refl

pub fit_words : (width : ℕ) (s : List Column) → fit width (columns_of (length s) (words_of s)) ≡ fit width s
fit_words width s =
    by_test (leb (length s) columns_most)
    (λ q. ap (fit width) (words_columns s (leb-true (length s) columns_most q)))
    (λ q.
    too_many width (columns_of (length s) (words_of s)) (omega (arith, from_length (length s) 0 (words_of s), leb-false (length s) columns_most q))
    ∙ sym (too_many width s (leb-false (length s) columns_most q)))
