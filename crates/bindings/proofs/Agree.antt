-- The plain parser and the readers by place agree: on the bytes of a message from a place on, the parser gives what the reader at the
-- place gives, and goes on with the bytes from the place after it. Assumes nothing.
use mathlib.Core.Path.{◌≡◌, refl, sym, ap, ap₂, ◌∙◌}
use mathlib.Core.Bool.{Bool, true, false}
use mathlib.Core.List.{List, [], ◌∷◌}
use Rattle.std.specs.Prelude.{Option, None, Some}
use Prim.Native.Nat.{ℕ, zero, suc, ◌+◌, ◌≤◌, ◌<◌}
use native.Mathlib.Nat.{add-zero, zero-add}
use native.Mathlib.Numerals.{add-one}
use native.Mathlib.Omega.{arith}
use borrow.Author.Tests.{le-leb, lt-leb, leb-true, leb-false, eqb-true, eqb-false}
use lib.Dec.{leb, eqb}
use lib.ListN.{length, get_or, take, drop, length-drop, drop_of_length-le}
use lib.Seq.{drop-drop, drop-cons, get_or-drop, get_or-take}
use Rattle.lists.specs.Below.{pick, both, every_below}
use Rattle.wire.specs.Word.{number, number_at}
use Rattle.lists.proofs.Below.{by_test}
use Rattle.wire.specs.FieldPlaces.{padded_on, number_on, flag_on, property_on}
use Rattle.wire.specs.Padding.{padding, zero_at}
use Rattle.wire.specs.PropertySpec.{set_size, set_first, set_ours, numbered, kind_at, pr_spec_at, spec_size}
use Rattle.bindings.specs.ColumnPlaces.{spot_on, value_on, column_on}
use Rattle.bindings.specs.Plain.{type_width, Parsed, bytes, numeral, zero_bytes, padded, flag, spot, value, property, column, columns, bindings, before}
use Rattle.bindings.specs.BindingsPlaces.{columns_at, columns_on, bindings_on}
use Rattle.lists.specs.Options.{and_then}

-- what the parser gives is what the reader gives, with the bytes from the place after it, which lies in the message
abbrev pub Agree : {A : Type 0} → List ℕ → Parsed A → Option (A × ℕ) → Type 0
Agree m p None = p ≡ None
Agree m p (Some r) = (p ≡ Some (r.0, r.1, drop r.1 m)) × (r.1 ≤ length m)

-- padding has no value of its own
abbrev pub placed : Option ℕ → Option (Unit {0} × ℕ)
placed None = None
placed (Some next) = Some (tt, next)

-- what follows agrees too, and so does a choice
bind : {A B C : Type 0} (Goal : Option B → Option C → Type 0) → Goal None None → (m : List ℕ) (p : Parsed A) (o : Option (A × ℕ)) → Agree m p o
    → (g : A × ℕ × List ℕ → Option B) (f : A × ℕ → Option C) → ((a : A) (next : ℕ) → next ≤ length m → Goal (g (a, next, drop next m)) (f (a, next)))
    → Goal (and_then p g) (and_then o f)
bind Goal z m p None e g f h = rw e z
bind Goal z m p (Some r) e g f h = rw e.0 (h r.0 r.1 e.1)

bind_place : {B C : Type 0} (Goal : Option B → Option C → Type 0) → Goal None None → (m : List ℕ) (p : Parsed (Unit {0})) (o : Option ℕ) → Agree m p (placed o)
    → (g : Unit {0} × ℕ × List ℕ → Option B) (f : ℕ → Option C) → ((next : ℕ) → next ≤ length m → Goal (g (tt, next, drop next m)) (f next))
    → Goal (and_then p g) (and_then o f)
bind_place Goal z m p None e g f h = rw e z
bind_place Goal z m p (Some next) e g f h = rw e.0 (h next e.1)

choose : {B R : Type 0} (Goal : Option B → R → Type 0) (b : Bool) (x y : Option B) (u v : R) → Goal x u → Goal y v → Goal (pick b x y) (pick b u v)
choose Goal true x y u v h k = h
choose Goal false x y u v h k = k

-- n bytes, if there are so many
module _ (n : ℕ) (m : List ℕ) (at : ℕ) (h : at ≤ length m) where
  bytes_there : at + n ≤ length m → bytes n at (drop at m) ≡ Some (take n (drop at m), at + n, drop (at + n) m)
  bytes_there l = rw (le-leb n (length (drop at m)) (omega (arith, length-drop at m)), drop-drop n at m)

  bytes_past : length m < at + n → bytes n at (drop at m) ≡ None
  bytes_past l = rw (lt-leb n (length (drop at m)) (omega (arith, length-drop at m)))

  pub number_agrees : Agree m (numeral n at (drop at m)) (number_on n m at)
  unfolding number_on number_at
  number_agrees =
      by_test (leb (at + n) (length m))
      (λ q. rw (q, bytes_there (leb-true (at + n) (length m) q)) (refl, leb-true (at + n) (length m) q))
      (λ q. rw (q, bytes_past (leb-false (at + n) (length m) q)))

  -- nothing comes of them where nothing comes of what follows
  bytes_none : {B : Type 0} (g : List ℕ × ℕ × List ℕ → Option B)
      → ((b : List ℕ) → at + n ≤ length m → g (b, at + n, drop (at + n) m) ≡ None) → and_then (bytes n at (drop at m)) g ≡ None
  bytes_none g f =
      by_test (leb (at + n) (length m))
      (λ q. rw (bytes_there (leb-true (at + n) (length m) q)) (f (take n (drop at m)) (leb-true (at + n) (length m) q)))
      (λ q. rw (bytes_past (leb-false (at + n) (length m) q)))

  number_none : {B : Type 0} (g : ℕ × ℕ × List ℕ → Option B)
      → ((v : ℕ) → at + n ≤ length m → g (v, at + n, drop (at + n) m) ≡ None) → and_then (numeral n at (drop at m)) g ≡ None
  number_none g f =
      by_test (leb (at + n) (length m))
      (λ q. rw (bytes_there (leb-true (at + n) (length m) q)) (f (number (take n (drop at m))) (leb-true (at + n) (length m) q)))
      (λ q. rw (bytes_past (leb-false (at + n) (length m) q)))

pub flag_agrees : (m : List ℕ) (at : ℕ) → Agree m (flag at (drop at m)) (flag_on m at)
unfolding flag flag_on
flag_agrees m at =
    by_test (leb (at + 1) (length m))
    (λ q.
    let l = leb-true (at + 1) (length m) q in
    rw (q, drop-cons m at 0 (omega arith))
    (by_test (leb (get_or m at 0) 1) (λ r. rw (r, add-one) (refl, omega arith)) (λ r. rw r)))
    (λ q. rw (q, drop_of_length-le m {i = at} (omega (arith, leb-false (at + 1) (length m) q))))

-- a test of each number below n, from the first on
both_swap : (a b c : Bool) → both a (both b c) ≡ both b (both a c)
both_swap true b c = refl
both_swap false true c = refl
both_swap false false c = refl

every_front : (n : ℕ) (f : ℕ → Bool) → every_below (suc n) f ≡ both (f 0) (every_below n (λ i. f (suc i)))
unfolding every_below
every_front zero f = refl
every_front (suc n) f = ap (both (f (suc n))) (every_front n f) ∙ both_swap (f (suc n)) (f 0) (every_below n (λ i. f (suc i)))

every_like : (n : ℕ) (f g : ℕ → Bool) → ((k : ℕ) → k < n → f k ≡ g k) → every_below n f ≡ every_below n g
unfolding every_below
every_like zero f g h = refl
every_like (suc n) f g h = ap₂ both (h n (omega arith)) (every_like n f g (λ k l. h k (omega arith)))

every_none : (f : ℕ → Bool) → every_below 0 f ≡ true
unfolding every_below
every_none f = refl

-- zero bytes
pick_swap : {A : Type 0} (b l e : Bool) (x : Option A) → pick b (pick l (pick e x None) None) None ≡ pick l (pick (both b e) x None) None
pick_swap true l e x = refl
pick_swap false true e x = refl
pick_swap false false e x = refl

leb_suc : (n k : ℕ) → leb (suc n) (suc k) ≡ leb n k
leb_suc n k = by_test (leb n k) (λ q. le-leb (suc n) (suc k) (omega (arith, leb-true n k q)) ∙ sym q) (λ q. lt-leb (suc n) (suc k) (omega (arith, leb-false n k q)) ∙ sym q)

zero_bytes_lem : (n at : ℕ) (s : List ℕ)
    → zero_bytes n at s ≡ pick (leb n (length s)) (pick (every_below n (λ i. eqb (get_or s i 0) 0)) (Some (tt, at + n, drop n s)) None) None
unfolding zero_bytes
zero_bytes_lem zero at s = rw (le-leb 0 (length s) (omega arith), every_none (λ i. eqb (get_or s i 0) 0), add-zero)
zero_bytes_lem (suc n) at [] = rw (lt-leb (suc n) 0 (omega arith))
zero_bytes_lem (suc n) at (b ∷ s) =
    ap (λ (o : Parsed (Unit {0})). pick (eqb b 0) o None) (zero_bytes_lem n (at + 1) s)
    ∙ pick_swap (eqb b 0) (leb n (length s)) (every_below n (λ i. eqb (get_or s i 0) 0)) (Some (tt, at + 1 + n, drop n s))
    ∙ rw (leb_suc n (length s), every_front n (λ i. eqb (get_or (b ∷ s) i 0) 0), one_more)
  where
    one_more : at + 1 + n ≡ at + suc n
    one_more = omega arith

pub pad_agrees : (unit : ℕ) (m : List ℕ) (at : ℕ) → at ≤ length m → Agree m (padded unit at (drop at m)) (placed (padded_on unit m at))
unfolding padded_on zero_at
pad_agrees unit m at h =
    rw (zero_bytes_lem (padding unit at) at (drop at m), same, drop-drop (padding unit at) at m)
    (by_test (leb (at + padding unit at) (length m))
    (λ q.
    rw (q, le-leb (padding unit at) (length (drop at m)) (omega (arith, length-drop at m, leb-true (at + padding unit at) (length m) q)))
    (by_test (every_below (padding unit at) (λ i. eqb (get_or m (at + i) 0) 0))
    (λ r. rw r (refl, leb-true (at + padding unit at) (length m) q))
    (λ r. rw r)))
    (λ q. rw (q, lt-leb (padding unit at) (length (drop at m)) (omega (arith, length-drop at m, leb-false (at + padding unit at) (length m) q)))))
  where
    same : every_below (padding unit at) (λ i. eqb (get_or (drop at m) i 0) 0) ≡ every_below (padding unit at) (λ i. eqb (get_or m (at + i) 0) 0)
    same = every_like (padding unit at) (λ i. eqb (get_or (drop at m) i 0) 0) (λ i. eqb (get_or m (at + i) 0) 0) (λ k l. rw (get_or-drop at m k 0))

-- the parts of a column, and the column
module _ (m : List ℕ) where
  spot_agrees : (at : ℕ) → Agree m (spot at (drop at m)) (spot_on m at)
  unfolding spot spot_on
  spot_agrees at =
      bind (Agree m) refl m (flag at (drop at m)) (flag_on m at) (flag_agrees m at) _ _ (λ used next l.
      choose (Agree m) (eqb used 0) _ _ _ _ (refl, l)
      (bind_place (Agree m) refl m (padded 2 next (drop next m)) (padded_on 2 m next) (pad_agrees 2 m next l) _ _ (λ place k.
      bind (Agree m) refl m (numeral 2 place (drop place m)) (number_on 2 m place) (number_agrees 2 m place k) _ _ (λ offset after j. (refl, j)))))

  value_agrees : (at : ℕ) → Agree m (value at (drop at m)) (value_on m at)
  unfolding value value_on
  value_agrees at =
      bind (Agree m) refl m (spot at (drop at m)) (spot_on m at) (spot_agrees at) _ _ (λ s next l.
      choose (Agree m) (eqb s.used 0) _ _ _ _ (refl, l)
      (bind (Agree m) refl m (numeral 2 next (drop next m)) (number_on 2 m next) (number_agrees 2 m next l) _ _ (λ size after j. (refl, j))))

  -- the set identifier, as bytes taken and as bytes at a place
  set_agrees : (at : ℕ) → set_ours (take set_size (drop at m)) 0 ≡ set_ours m at
  unfolding set_ours
  set_agrees at =
      every_like set_size (λ i. eqb (get_or (take set_size (drop at m)) (0 + i) 0) (set_first + i)) (λ i. eqb (get_or m (at + i) 0) (set_first + i)) (λ k l.
      rw (zero-add k, get_or-take set_size (drop at m) k 0 l, get_or-drop at m k 0))

  pub property_agrees : (at : ℕ) → at ≤ length m → Agree m (property at (drop at m)) (property_on m at)
  unfolding property property_on number_at
  property_agrees at h =
      by_test (leb (at + spec_size) (length m))
      (λ q.
      let l = leb-true (at + spec_size) (length m) q in
      rw (q, bytes_there set_size m at h (omega arith), bytes_there 4 m (at + set_size) (omega arith) (omega arith), third, bytes_there 4 m (at + pr_spec_at) (omega arith) (omega arith), last, set_agrees at)
      (choose (Agree m) (eqb (number (take 4 (drop (at + kind_at) m))) numbered) _ _ _ _ (refl, l) refl))
      (λ q.
      let l = leb-false (at + spec_size) (length m) q in
      rw q
      (bytes_none set_size m at h _ (λ set a.
      number_none 4 m (at + set_size) a _ (λ kind b. number_none 4 m (at + set_size + 4) b _ (λ v e. absurd (omega arith))))))
    where
      third : at + set_size + 4 ≡ at + pr_spec_at
      third = omega arith

      last : at + pr_spec_at + 4 ≡ at + spec_size
      last = omega arith

  column_agrees : (at : ℕ) → at ≤ length m → Agree m (column at (drop at m)) (column_on m at)
  unfolding column column_on
  column_agrees at h =
      bind (Agree m) refl m (property at (drop at m)) (property_on m at) (property_agrees at h) _ _ (λ p a i.
      bind (Agree m) refl m (numeral type_width a (drop a m)) (number_on type_width m a) (number_agrees type_width m a i) _ _ (λ vtype b j.
      bind (Agree m) refl m (value b (drop b m)) (value_on m b) (value_agrees b) _ _ (λ v c k.
      bind (Agree m) refl m (spot c (drop c m)) (spot_on m c) (spot_agrees c) _ _ (λ status d n.
      bind (Agree m) refl m (spot d (drop d m)) (spot_on m d) (spot_agrees d) _ _ (λ length e l. (refl, l))))))

  -- the columns, and nothing after them
  end_agrees : (at : ℕ) → at ≤ length m → columns 0 at (drop at m) ≡ columns_on 0 m at
  unfolding columns columns_on
  end_agrees at h =
      by_test (eqb at (length m))
      (λ q. rw (q, drop_of_length-le m {i = at} (omega (arith, eqb-true at (length m) q))))
      (λ q. rw (q, drop-cons m at 0 (omega (arith, eqb-false at (length m) q))))

  columns_agree : (n at : ℕ) → at ≤ length m → columns n at (drop at m) ≡ columns_on n m at
  unfolding columns columns_on
  columns_agree zero at h = end_agrees at h
  columns_agree (suc n) at h =
      bind_place ◌≡◌ refl m (padded 4 at (drop at m)) (padded_on 4 m at) (pad_agrees 4 m at h) _ _ (λ place l.
      bind ◌≡◌ refl m (column place (drop place m)) (column_on m place) (column_agrees place l) _ _ (λ c next k.
      ap (before c) (columns_agree n next k)))

-- the message
pub bindings_agree : (m : List ℕ) → bindings m ≡ bindings_on m
unfolding bindings bindings_on number_at
bindings_agree m =
    by_test (leb columns_at (length m))
    (λ q.
    let l = leb-true columns_at (length m) q in
    rw (q, bytes_there 16 m 0 (omega arith) (omega arith), bytes_there 4 m 16 (omega arith) (omega arith), bytes_there 4 m 20 (omega arith) (omega arith), bytes_there 4 m 24 (omega arith) (omega arith), bytes_there 4 m 28 (omega arith) (omega arith), bytes_there 4 m 32 (omega arith) (omega arith), length-drop 32 m, columns_agree m (number (take 4 (drop 32 m))) 36 l))
    (λ q.
    let l = leb-false columns_at (length m) q in
    rw q
    (bytes_none 16 m 0 (omega arith) _ (λ header a.
    number_none 4 m 16 a _ (λ handle b.
    number_none 4 m 20 b _ (λ width c.
    number_none 4 m 24 c _ (λ described d.
    number_none 4 m 28 d _ (λ dummy e.
    by_test (eqb described (length (drop 32 m)))
    (λ r. rw r (number_none 4 m 32 e _ (λ count f. absurd (omega arith))))
    (λ r. rw r))))))))
