-- Laws of one span laid over a list: its length, each byte of it, and what a second one finds. Assumes nothing.
use mathlib.Core.Path.{◌≡◌, refl, sym, ap, ◌∙◌}
use mathlib.Core.List.{List, ◌++◌, append_assoc, append-nil}
use mathlib.Core.Logic.{◌⊎◌, inl, inr, ⊎_elim}
use Prim.Native.Nat.{ℕ, ◌+◌, ◌-◌, ◌≤◌, ◌<◌, min}
use native.Mathlib.Nat.{add_assoc, zero-add}
use native.Mathlib.Omega.{arith}
use lib.ListN.{length, get_or, take, drop, length-append, length-take, length-drop, drop_of_length-le, get_or-append}
use borrow.Author.Tests.{ltb-true, ltb-false}
use lib.Dec.{ltb}
use borrow.Rule.Slice.PartMut.{put_mid}
use lib.Seq.{sets, sets-eq, paste, ext_get_or, take_at, drop_at, take_all, get_or-take, get_or-drop, get_or-append-add, length-take-le, drop-append-add, drop-drop, take-add}
use Rattle.lists.proofs.Below.{by_test}
use Rattle.wire.specs.Laid.{lay}
use Rattle.lists.specs.Parts.{part}

-- a run of stores, and a copy that is through
pub stores : (t : List ℕ) (at : ℕ) (b : List ℕ) → at + length b ≤ length t → sets t at b ≡ lay t at b
unfolding lay
stores t at b h = sets-eq b t at h ∙ append_assoc (take at t) b (drop (at + length b) t)

pub copied : (t : List ℕ) (at : ℕ) (b : List ℕ) (n : ℕ) → n ≡ length b → paste t at b n ≡ lay t at b
unfolding lay
copied t at b n e = rw (e, take_all (length b) b (omega arith)) (append_assoc (take at t) b (drop (at + length b) t))

-- what a part of a slice is after other bytes were put there
pub put_laid : (t : List ℕ) (at n : ℕ) (b : List ℕ) → n ≡ length b → put_mid at n t b ≡ lay t at b
unfolding lay
put_laid t at n b e = ap (λ (u : List ℕ). take at t ++ (b ++ u)) (drop-drop n at t ∙ ap (λ (k : ℕ). drop (at + k) t) e)

module _ (t : List ℕ) (at : ℕ) (b : List ℕ) (inside : at + length b ≤ length t) where
  pub lay_length : length (lay t at b) ≡ length t
  unfolding lay
  lay_length =
      omega (
        arith,
        length-append (take at t) (b ++ drop (at + length b) t),
        length-append b (drop (at + length b) t),
        length-take-le at t (omega arith),
        length-drop (at + length b) t,
      )

  -- a byte before it, one of its own, one after it
  pub lay_before : (i : ℕ) → i < at → get_or (lay t at b) i 0 ≡ get_or t i 0
  unfolding lay
  lay_before i h =
      get_or-append (take at t) (b ++ drop (at + length b) t) 0 i (omega (arith, length-take-le at t (omega arith)))
      ∙ get_or-take at t i 0 h

  pub lay_own : (i : ℕ) → i < length b → get_or (lay t at b) (at + i) 0 ≡ get_or b i 0
  unfolding lay
  lay_own i h =
      ap (λ (k : ℕ). get_or (take at t ++ (b ++ drop (at + length b) t)) (k + i) 0) (sym (length-take-le at t (omega arith)))
      ∙ get_or-append-add (take at t) (b ++ drop (at + length b) t) i 0
      ∙ get_or-append b (drop (at + length b) t) 0 i h

  pub lay_after : (i : ℕ) → at + length b ≤ i → get_or (lay t at b) i 0 ≡ get_or t i 0
  unfolding lay
  lay_after i h =
      ap (λ (k : ℕ). get_or (take at t ++ (b ++ drop (at + length b) t)) k 0) there
      ∙ get_or-append-add (take at t) (b ++ drop (at + length b) t) (length b + (i - (at + length b))) 0
      ∙ get_or-append-add b (drop (at + length b) t) (i - (at + length b)) 0
      ∙ get_or-drop (at + length b) t (i - (at + length b)) 0
      ∙ ap (λ (k : ℕ). get_or t k 0) back
    where
      there : i ≡ length (take at t) + (length b + (i - (at + length b)))
      there = omega (arith, length-take-le at t (omega arith))

      back : at + length b + (i - (at + length b)) ≡ i
      back = omega arith

  pub lay_outside : (i : ℕ) → (i < at) ⊎ (at + length b ≤ i) → get_or (lay t at b) i 0 ≡ get_or t i 0
  lay_outside i w = ⊎_elim (lay_before i) (lay_after i) w

  -- what was laid is read back
  pub lay_read : part (lay t at b) at (length b) ≡ b
  unfolding lay
  lay_read =
      ap (take (length b)) (drop_at (take at t) (b ++ drop (at + length b) t) at (length-take-le at t (omega arith)))
      ∙ take_at b (drop (at + length b) t) (length b) refl

-- two lists that agree on the bytes of a part have the same part
part_same : (n at : ℕ) (s t : List ℕ) → length s ≡ length t → ((i : ℕ) → i < n → get_or s (at + i) 0 ≡ get_or t (at + i) 0)
    → part s at n ≡ part t at n
part_same n at s t e f =
    ext_get_or 0 (part s at n) (part t at n)
    (long s ∙ ap (λ (k : ℕ). min n (k - at)) e ∙ sym (long t))
    (λ i h. byte s i (less i h) ∙ f i (less i h) ∙ sym (byte t i (less i h)))
  where
    long : (u : List ℕ) → length (part u at n) ≡ min n (length u - at)
    long u = length-take n (drop at u) ∙ ap (min n) (length-drop at u)

    less : (i : ℕ) → i < length (part s at n) → i < n
    less i h = omega (arith, long s)

    byte : (u : List ℕ) (i : ℕ) → i < n → get_or (part u at n) i 0 ≡ get_or u (at + i) 0
    byte u i h = get_or-take n (drop at u) i 0 h ∙ get_or-drop at u i 0

-- a place is one of a span's, or before it, or after it
module _ {P : Type 0} (at n k : ℕ) where
  pub by_place : ((i : ℕ) → i < n → k ≡ at + i → P) → ((k < at) ⊎ (at + n ≤ k) → P) → P
  by_place own other =
      by_test (ltb k at)
      (λ q. other (inl (ltb-true k at q)))
      (λ q. by_test (ltb k (at + n))
      (λ r. own (k - at) (omega (arith, ltb-false k at q, ltb-true k (at + n) r)) (omega (arith, ltb-false k at q)))
      (λ r. other (inr (ltb-false k (at + n) r))))

-- a part that is clear of what was laid is as it was
pub lay_other : (t : List ℕ) (at : ℕ) (b : List ℕ) (n p : ℕ) → at + length b ≤ length t → (p + n ≤ at) ⊎ (at + length b ≤ p)
    → part (lay t at b) p n ≡ part t p n
lay_other t at b n p inside w =
    part_same n p (lay t at b) t (lay_length t at b inside)
    (λ i h. lay_outside t at b inside (p + i) (⊎_elim (λ (l : p + n ≤ at). inl (omega arith)) (λ (l : at + length b ≤ p). inr (omega arith)) w))

-- spans that share no byte may be laid in either order
module _ (t : List ℕ) (i : ℕ) (a : List ℕ) (j : ℕ) (b : List ℕ) (left : i + length a ≤ length t) (right : j + length b ≤ length t)
    (clear : (i + length a ≤ j) ⊎ (j + length b ≤ i)) where
  within_left : i + length a ≤ length (lay t j b)
  within_left = omega (arith, lay_length t j b right)

  within_right : j + length b ≤ length (lay t i a)
  within_right = omega (arith, lay_length t i a left)

  out_of_right : (n : ℕ) → n < length a → (i + n < j) ⊎ (j + length b ≤ i + n)
  out_of_right n h = ⊎_elim (λ (l : i + length a ≤ j). inl (omega arith)) (λ (l : j + length b ≤ i). inr (omega arith)) clear

  out_of_left : (n : ℕ) → n < length b → (j + n < i) ⊎ (i + length a ≤ j + n)
  out_of_left n h = ⊎_elim (λ (l : i + length a ≤ j). inr (omega arith)) (λ (l : j + length b ≤ i). inl (omega arith)) clear

  pub lay_comm : lay (lay t i a) j b ≡ lay (lay t j b) i a
  lay_comm =
      ext_get_or 0 (lay (lay t i a) j b) (lay (lay t j b) i a)
      (lay_length (lay t i a) j b within_right ∙ lay_length t i a left ∙ sym (lay_length (lay t j b) i a within_left ∙ lay_length t j b right))
      (λ k h.
      by_place i (length a) k
      (λ n l e.
      rw e
      (lay_outside (lay t i a) j b within_right (i + n) (out_of_right n l)
      ∙ lay_own t i a left n l
      ∙ sym (lay_own (lay t j b) i a within_left n l)))
      (λ w.
      by_place j (length b) k
      (λ n l e.
      rw e
      (lay_own (lay t i a) j b within_right n l
      ∙ sym (lay_outside (lay t j b) i a within_left (j + n) (out_of_left n l) ∙ lay_own t j b right n l)))
      (λ v.
      lay_outside (lay t i a) j b within_right k v
      ∙ lay_outside t i a left k w
      ∙ sym (lay_outside (lay t j b) i a within_left k w ∙ lay_outside t j b right k v))))

-- a span laid right after another makes one of the two
pub lay_join : (t : List ℕ) (at : ℕ) (x y : List ℕ) → at + length x ≤ length t → lay (lay t at x) (at + length x) y ≡ lay t at (x ++ y)
unfolding lay
lay_join t at x y inside =
    ap (λ (u : List ℕ). take (at + length x) u ++ (y ++ drop (at + length x + length y) u)) (sym (append_assoc (take at t) x rest))
    ∙ rw (take_at front rest (at + length x) long, after)
    (append_assoc (take at t) x (y ++ drop (at + length x + length y) t)
    ∙ ap (λ (u : List ℕ). take at t ++ u) (sym (append_assoc x y (drop (at + length x + length y) t)))
    ∙ ap (λ (n : ℕ). take at t ++ (x ++ y ++ drop n t)) (add_assoc at (length x) (length y) ∙ ap (λ (n : ℕ). at + n) (sym (length-append x y))))
  where
    front : List ℕ
    front = take at t ++ x

    rest : List ℕ
    rest = drop (at + length x) t

    long : length front ≡ at + length x
    long = omega (arith, length-append (take at t) x, length-take-le at t (omega arith))

    after : drop (at + length x + length y) (front ++ rest) ≡ drop (at + length x + length y) t
    after =
        ap (λ (n : ℕ). drop (n + length y) (front ++ rest)) (sym long)
        ∙ drop-append-add front rest (length y)
        ∙ drop-drop (length y) (at + length x) t

-- the same where the first one's length is told as a number
pub lay_next : (t : List ℕ) (at n : ℕ) (x y : List ℕ) → length x ≡ n → at + n ≤ length t → lay (lay t at x) (at + n) y ≡ lay t at (x ++ y)
lay_next t at n x y e inside = ap (λ (k : ℕ). lay (lay t at x) (at + k) y) (sym e) ∙ lay_join t at x y (omega arith)

-- all of a list is laid over
pub lay_whole : (t b : List ℕ) → length t ≤ length b → lay t 0 b ≡ b
unfolding lay
lay_whole t b h = rw (zero-add (length b), drop_of_length-le t {i = length b} h) (append-nil b)

-- a span laid at the place of another that is no longer leaves nothing of it
pub lay_again : (t : List ℕ) (at : ℕ) (x y : List ℕ) → at + length x ≤ length t → length x ≤ length y → lay (lay t at x) at y ≡ lay t at y
unfolding lay
lay_again t at x y inside short =
    rw (take_at (take at t) (x ++ rest) at (length-take-le at t (omega arith)))
    (ap (λ (u : List ℕ). take at t ++ (y ++ u)) after)
  where
    rest : List ℕ
    rest = drop (at + length x) t

    over : ℕ
    over = length y - length x

    long : at + length y ≡ length (take at t ++ x) + over
    long = omega (arith, length-append (take at t) x, length-take-le at t (omega arith))

    back : at + length x + over ≡ at + length y
    back = omega arith

    after : drop (at + length y) (take at t ++ (x ++ rest)) ≡ drop (at + length y) t
    after =
        ap (drop (at + length y)) (sym (append_assoc (take at t) x rest))
        ∙ ap (λ (n : ℕ). drop n ((take at t ++ x) ++ rest)) long
        ∙ drop-append-add (take at t ++ x) rest over
        ∙ drop-drop over (at + length x) t
        ∙ ap (λ (n : ℕ). drop n t) back

-- the first i members of a list are laid, and then a part of it that begins no later than they end
pub lay_part : (t : List ℕ) (at : ℕ) (b : List ℕ) (i j n : ℕ) → at + length b ≤ length t → j ≤ i → i ≤ j + n → j + n ≤ length b
    → lay (lay t at (take i b)) (at + j) (part b j n) ≡ lay t at (take (j + n) b)
lay_part t at b i j n inside begun met ends =
    ap (λ (u : List ℕ). lay (lay t at u) (at + j) (part b j n)) parted
    ∙ ap (λ (u : List ℕ). lay u (at + j) (part b j n)) (sym (lay_next t at j (take j b) (part b j (i - j)) short fits))
    ∙ lay_again (lay t at (take j b)) (at + j) (part b j (i - j)) (part b j n) (omega (arith, less, kept)) (omega (arith, less, all))
    ∙ lay_next t at j (take j b) (part b j n) short fits
    ∙ ap (lay t at) (sym (take-add j n b))
  where
    apart : i ≡ j + (i - j)
    apart = omega arith

    parted : take i b ≡ take j b ++ part b j (i - j)
    parted = ap (λ (k : ℕ). take k b) apart ∙ take-add j (i - j) b

    short : length (take j b) ≡ j
    short = length-take-le j b (omega arith)

    fits : at + j ≤ length t
    fits = omega arith

    less : length (part b j (i - j)) ≡ i - j
    less = length-take-le (i - j) (drop j b) (omega (arith, length-drop j b))

    all : length (part b j n) ≡ n
    all = length-take-le n (drop j b) (omega (arith, length-drop j b))

    kept : length (lay t at (take j b)) ≡ length t
    kept = lay_length t at (take j b) (omega (arith, short))

-- the same where the part is the list's last n members: all of it is laid
pub lay_last : (t : List ℕ) (at : ℕ) (b : List ℕ) (i n : ℕ) → at + length b ≤ length t → n ≤ length b → length b - n ≤ i
    → i ≤ length b → lay (lay t at (take i b)) (at + (length b - n)) (part b (length b - n) n) ≡ lay t at b
lay_last t at b i n inside short begun met =
    lay_part t at b i (length b - n) n inside begun (omega arith) (omega arith)
    ∙ ap (lay t at) (take_all (length b - n + n) b (omega arith))

-- a part of a list is laid, and then the part that follows it
pub lay_parts : (t : List ℕ) (at : ℕ) (b : List ℕ) (i m n : ℕ) → at + m ≤ length t → i + m ≤ length b
    → lay (lay t at (part b i m)) (at + m) (part b (i + m) n) ≡ lay t at (part b i (m + n))
lay_parts t at b i m n inside ends =
    lay_next t at m (part b i m) (part b (i + m) n) (length-take-le m (drop i b) (omega (arith, length-drop i b))) inside
    ∙ ap (λ (u : List ℕ). lay t at (part b i m ++ take n u)) (sym (drop-drop m i b))
    ∙ ap (lay t at) (sym (take-add m n (drop i b)))
