-- Laws of parts that stand in a list of bytes: how they follow each other, and what each kind says of the bytes. Assumes nothing.
use mathlib.Core.Path.{◌≡◌, refl, sym, ap, ◌∙◌}
use mathlib.Core.Bool.{true}
use mathlib.Core.List.{List, [], ◌∷◌, ◌++◌, map}
use Rattle.std.specs.Prelude.{Option, None, Some}
use Prim.Native.Nat.{ℕ, zero, suc, ◌+◌, ◌-◌, ◌*◌, ◌/◌, ◌%◌, ◌^◌, ◌≤◌, ◌<◌}
use native.Mathlib.Nat.{zero-add, add-zero}
use native.Mathlib.Omega.{arith}
use borrow.Author.Tests.{ltb-true, ltb-false, eq-eqb, eqb-true}
use lib.Dec.{ltb, eqb}
use lib.ListN.{length, get_or, drop, replicate, length-append, length-take, length-drop, length-map, length-replicate, get_or-replicate, get_or-append, get_or-eq_default}
use lib.Seq.{get_or-append-add, get_or-drop, get_or-take, ext_get_or}
use Rattle.lists.specs.Parts.{part, zeros}
use Rattle.lists.proofs.Parts.{part_length}
use Rattle.lists.proofs.Below.{by_test, every_at, every_shown}
use Rattle.lists.proofs.Options.{none≢some, some_is}
use Rattle.wire.specs.Word.{Bytes, number, number_at, le}
use Rattle.wire.specs.Padding.{zero_at}
use Rattle.wire.proofs.Little.{le_length, read_number}
use Rattle.tree.specs.Writer.{Form, in_order}

-- what is said of bytes stands in a list from a place to another
pub record Stands (p : List (Option ℕ)) (s : List ℕ) (from to : ℕ) : Type 0 where
  pub ends : from + length p ≡ to
  pub room : to ≤ length s
  pub each : (i b : ℕ) → get_or p i None ≡ Some b → get_or s (from + i) 0 ≡ b

pub stands_nothing : (s : List ℕ) (at : ℕ) → at ≤ length s → Stands [] s at at
stands_nothing s at h = record { ends = omega arith; room = h; each = λ i b e. absurd (none≢some e) }

-- one after the other
module _ (p q : List (Option ℕ)) (s : List ℕ) (a b c : ℕ) where
  pub stands_both : Stands p s a b → Stands q s b c → Stands (p ++ q) s a c
  stands_both h k = record { ends = omega (arith, length-append p q, h.ends, k.ends); room = k.room; each = each }
    where
      each : (i v : ℕ) → get_or (p ++ q) i None ≡ Some v → get_or s (a + i) 0 ≡ v
      each i v e =
          by_test (ltb i (length p))
          (λ t. h.each i v (sym (get_or-append p q None i (ltb-true i (length p) t)) ∙ e))
          (λ t.
          let j = i - length p in
          let past : length p + j ≡ i = omega (arith, ltb-false i (length p) t) in
          let same : b + j ≡ a + i = omega (arith, past, h.ends) in
          ap (λ (n : ℕ). get_or s n 0) (sym same)
          ∙ k.each j v (sym (get_or-append-add p q j None) ∙ ap (λ (n : ℕ). get_or (p ++ q) n None) past ∙ e))

  pub stands_apart : a + length p ≡ b → Stands (p ++ q) s a c → Stands p s a b × Stands q s b c
  stands_apart e h = (
    record { ends = e; room = omega (arith, length-append p q, h.ends, h.room); each = first },
    record { ends = omega (arith, length-append p q, h.ends); room = h.room; each = second },
  )
    where
      first : (i v : ℕ) → get_or p i None ≡ Some v → get_or s (a + i) 0 ≡ v
      first i v f =
          by_test (ltb i (length p))
          (λ t. h.each i v (get_or-append p q None i (ltb-true i (length p) t) ∙ f))
          (λ t. absurd (none≢some (sym (get_or-eq_default p None (ltb-false i (length p) t)) ∙ f)))

      second : (i v : ℕ) → get_or q i None ≡ Some v → get_or s (b + i) 0 ≡ v
      second i v f =
          let same : a + (length p + i) ≡ b + i = omega (arith, e) in
          ap (λ (n : ℕ). get_or s n 0) (sym same) ∙ h.each (length p + i) v (get_or-append-add p q i None ∙ f)

-- in what is left from a place on
pub stands_left : (p : List (Option ℕ)) (s : List ℕ) (k n : ℕ) → Stands p s k (k + n) → Stands p (drop k s) 0 n
stands_left p s k n h =
    record {
      ends = omega (arith, h.ends);
      room = omega (arith, h.room, length-drop k s);
      each = λ i b e. ap (λ (j : ℕ). get_or (drop k s) j 0) (zero-add i) ∙ get_or-drop k s i 0 ∙ h.each i b e;
    }

pub stands_on : (p : List (Option ℕ)) (s : List ℕ) (k n : ℕ) → k ≤ length s → Stands p (drop k s) 0 n → Stands p s k (k + n)
stands_on p s k n l h =
    record {
      ends = omega (arith, h.ends);
      room = omega (arith, h.room, length-drop k s);
      each = λ i b e. sym (get_or-drop k s i 0) ∙ ap (λ (j : ℕ). get_or (drop k s) j 0) (sym (zero-add i)) ∙ h.each i b e;
    }

-- bytes that may be any
nothing_at : (n i : ℕ) → ◌≡◌ {A = Option ℕ} (get_or (replicate n None) i None) None
nothing_at zero i = refl
nothing_at (suc n) zero = refl
nothing_at (suc n) (suc i) = nothing_at n i

pub any_stand : (n : ℕ) (s : List ℕ) (a b : ℕ) → a + n ≡ b → b ≤ length s → Stands (replicate n None) s a b
any_stand n s a b e h =
    record {
      ends = omega (arith, length-replicate {A = Option ℕ} n None, e);
      room = h;
      each = λ i v f. absurd (none≢some (sym (nothing_at n i) ∙ f));
    }

-- bytes that are given
given_at : (bytes : List ℕ) (i v : ℕ) → get_or (map Some bytes) i None ≡ Some v → (i < length bytes) × (get_or bytes i 0 ≡ v)
given_at [] i v e = absurd (none≢some e)
given_at (b ∷ bytes) zero v e = (omega arith, some_is e)
given_at (b ∷ bytes) (suc i) v e = let g = given_at bytes i v e in (omega (arith, g.0), g.1)

at_given : (bytes : List ℕ) (i : ℕ) → i < length bytes → get_or (map Some bytes) i None ≡ Some (get_or bytes i 0)
at_given [] i h = absurd (omega arith)
at_given (b ∷ bytes) zero h = refl
at_given (b ∷ bytes) (suc i) h = at_given bytes i (omega arith)

module _ (bytes s : List ℕ) (a b : ℕ) where
  pub given_by : a + length bytes ≡ b → b ≤ length s → ((i : ℕ) → i < length bytes → get_or s (a + i) 0 ≡ get_or bytes i 0) → Stands (map Some bytes) s a b
  given_by e h f =
      record {
        ends = omega (arith, length-map {B = Option ℕ} bytes Some, e);
        room = h;
        each = λ i v g. let x = given_at bytes i v g in f i x.0 ∙ x.1;
      }

  pub given_byte : Stands (map Some bytes) s a b → (i : ℕ) → i < length bytes → get_or s (a + i) 0 ≡ get_or bytes i 0
  given_byte h i l = h.each i (get_or bytes i 0) (at_given bytes i l)

  pub given_ends : Stands (map Some bytes) s a b → a + length bytes ≡ b
  given_ends h = omega (arith, length-map {B = Option ℕ} bytes Some, h.ends)

  -- the same as a part of the list
  pub given_part : a + length bytes ≡ b → b ≤ length s → part s a (length bytes) ≡ bytes → Stands (map Some bytes) s a b
  given_part e h f =
      given_by e h λ i l.
      sym (get_or-drop a s i 0) ∙ sym (get_or-take (length bytes) (drop a s) i 0 l) ∙ ap (λ (t : List ℕ). get_or t i 0) f

  pub part_given : Stands (map Some bytes) s a b → part s a (length bytes) ≡ bytes
  part_given h =
      let long : length (part s a (length bytes)) ≡ length bytes = part_length s a (length bytes) (omega (arith, given_ends h, h.room)) in
      ext_get_or 0 (part s a (length bytes)) bytes long λ i l.
      let m : i < length bytes = omega (arith, l, long) in
      get_or-take (length bytes) (drop a s) i 0 m ∙ get_or-drop a s i 0 ∙ given_byte h i m

-- zeros
pub zeros_long : (n : ℕ) → length (map {B = Option ℕ} Some (zeros n)) ≡ n
zeros_long n = length-map {B = Option ℕ} (zeros n) Some ∙ length-replicate {A = ℕ} n 0

pub zeros_stand : (n : ℕ) (s : List ℕ) (a b : ℕ) → a + n ≡ b → b ≤ length s → zero_at s a n ≡ true → Stands (map Some (zeros n)) s a b
unfolding zero_at
zeros_stand n s a b e h z =
    given_by (zeros n) s a b (omega (arith, length-replicate {A = ℕ} n 0, e)) h λ i l.
    let m : i < n = omega (arith, l, length-replicate {A = ℕ} n 0) in
    eqb-true (get_or s (a + i) 0) 0 (every_at n (λ j. eqb (get_or s (a + j) 0) 0) z i m) ∙ sym (get_or-replicate n i 0 0 m)

pub zeros_there : (n : ℕ) (s : List ℕ) (a b : ℕ) → Stands (map Some (zeros n)) s a b → zero_at s a n ≡ true
unfolding zero_at
zeros_there n s a b h =
    every_shown n (λ j. eqb (get_or s (a + j) 0) 0) λ i l.
    eq-eqb (get_or s (a + i) 0) 0 (given_byte (zeros n) s a b h i (omega (arith, l, length-replicate {A = ℕ} n 0)) ∙ get_or-replicate n i 0 0 l)

-- numbers
le_number : (n : ℕ) (s : List ℕ) → length s ≡ n → Bytes s → le n (number s) ≡ s
unfolding le number
le_number zero [] e bytes = refl
le_number zero (b ∷ s) e bytes = absurd (omega arith)
le_number (suc n) [] e bytes = absurd (omega arith)
le_number (suc n) (b ∷ s) e bytes =
    let low : (b + 256 * number s) % 256 ≡ b = omega (arith, bytes 0) in
    let high : (b + 256 * number s) / 256 ≡ number s = omega (arith, bytes 0) in
    rw (low, high) (ap (λ (t : List ℕ). b ∷ t) (le_number n s (omega arith) (λ i. bytes (suc i))))

pub bytes_part : (s : List ℕ) (a n : ℕ) → Bytes s → Bytes (part s a n)
bytes_part s a n bytes i =
    by_test (ltb i n)
    (λ t. rw (get_or-take n (drop a s) i 0 (ltb-true i n t), get_or-drop a s i 0) (bytes (a + i)))
    (λ t.
    let past : length (part s a n) ≤ i = omega (arith, ltb-false i n t, length-take n (drop a s)) in
    rw (get_or-eq_default (part s a n) 0 past) (omega arith))

module _ (n : ℕ) (s : List ℕ) (a b : ℕ) where
  pub number_stands : Bytes s → a + n ≡ b → b ≤ length s → Stands (map Some (le n (number_at n s a))) s a b
  unfolding number_at
  number_stands bytes e h =
      given_part (le n (number_at n s a)) s a b (omega (arith, le_length n (number_at n s a), e)) h
      (ap (part s a) (le_length n (number_at n s a))
      ∙ sym (le_number n (part s a n) (part_length s a n (omega (arith, e, h))) (bytes_part s a n bytes)))

  pub number_there : (v : ℕ) → v < 256 ^ n → Stands (map Some (le n v)) s a b → number_at n s a ≡ v
  number_there v h w = read_number s n a v h (ap (part s a) (sym (le_length n v)) ∙ part_given (le n v) s a b w)

-- parts one after the other, in bytes whose first has the place `place`
module _ (p : Form) (ps : List Form) (place : ℕ) (s : List ℕ) (a b c : ℕ) where
  next_place : a + length (p (place + a)) ≡ b → place + a + length (p (place + a)) ≡ place + b
  next_place e = omega (arith, e)

  pub forms_join : Stands (p (place + a)) s a b → Stands (in_order ps (place + b)) s b c → Stands (in_order (p ∷ ps) (place + a)) s a c
  unfolding in_order
  forms_join h k = rw (next_place h.ends) (stands_both (p (place + a)) (in_order ps (place + b)) s a b c h k)

  pub forms_apart : a + length (p (place + a)) ≡ b → Stands (in_order (p ∷ ps) (place + a)) s a c
      → Stands (p (place + a)) s a b × Stands (in_order ps (place + b)) s b c
  unfolding in_order
  forms_apart e h = stands_apart (p (place + a)) (in_order ps (place + b)) s a b c e (rw (next_place e) at h)

pub forms_end : (place : ℕ) (s : List ℕ) (at : ℕ) → at ≤ length s → Stands (in_order [] place) s at at
unfolding in_order
forms_end place s at h = stands_nothing s at h

pub forms_ended : (place : ℕ) (s : List ℕ) (a b : ℕ) → Stands (in_order [] place) s a b → b ≡ a
unfolding in_order
forms_ended place s a b h = omega (arith, h.ends)

-- they begin at its first byte
pub forms_start : (p : Form) (place : ℕ) (s : List ℕ) (used : ℕ) → Stands (p place) s 0 used → Stands (p (place + 0)) s 0 used
forms_start p place s used h = rw (add-zero place) h

pub forms_started : (p : Form) (place : ℕ) (s : List ℕ) (used : ℕ) → Stands (p (place + 0)) s 0 used → Stands (p place) s 0 used
forms_started p place s used h = rw (add-zero place) at h
