-- Laws of spans laid one after the other: where no two of them meet, each is read back and every other byte is as it was.
-- Assumes nothing.
use mathlib.Core.Path.{◌≡◌, refl, sym, ap, ◌∙◌}
use mathlib.Core.List.{List, [], ◌∷◌, ◌++◌, append_assoc}
use mathlib.Core.Logic.{◌⊎◌, inl, inr, ⊎_elim}
use Prim.Native.Nat.{ℕ, zero, suc, ◌+◌, ◌≤◌, ◌<◌}
use native.Mathlib.Nat.{not-suc-le-zero, le_of_suc-le-suc}
use native.Mathlib.Omega.{arith}
use lib.ListN.{length, get_or, take, drop}
use lib.Seq.{take-append-le, drop-append-le}
use Rattle.lists.specs.Each.{Each, Pairwise}
use Rattle.wire.specs.Laid.{lay, Laid, lays, end_of, Inside, Clear, Outside}
use Rattle.lists.specs.Parts.{part}
use Rattle.wire.proofs.Lay.{lay_length, lay_outside, lay_read, lay_other, lay_comm}

-- a statement of each member, and of each of two lists joined
module _ {A : Type 0} where
  pub each_at : (P : A → Type 0) (s : List A) (d : A) → Each P s → (i : ℕ) → i < length s → P (get_or s i d)
  unfolding Each
  each_at P [] d e i h = absurd (not-suc-le-zero h)
  each_at P (a ∷ s) d e zero h = e.0
  each_at P (a ∷ s) d e (suc i) h = each_at P s d e.1 i (le_of_suc-le-suc h)

  pub each_join : (P : A → Type 0) (s t : List A) → Each P s → Each P t → Each P (s ++ t)
  unfolding Each
  each_join P [] t e f = f
  each_join P (a ∷ s) t e f = (e.0, each_join P s t e.1 f)

  pub each_map : (P Q : A → Type 0) (s : List A) → ((a : A) → P a → Q a) → Each P s → Each Q s
  unfolding Each
  each_map P Q [] f e = tt
  each_map P Q (a ∷ s) f e = (f a e.0, each_map P Q s f e.1)

  pub pairs_join : (R : A → A → Type 0) (s t : List A) → Pairwise R s → Pairwise R t → Each (λ a. Each (R a) t) s → Pairwise R (s ++ t)
  unfolding Each Pairwise
  pairs_join R [] t p q e = q
  pairs_join R (a ∷ s) t p q e = (each_join (R a) s t p.0 e.0, pairs_join R s t p.1 q e.1)

pub lays_join : (t : List ℕ) (s r : List Laid) → lays t (s ++ r) ≡ lays (lays t s) r
unfolding lays
lays_join t [] r = refl
lays_join t (a ∷ s) r = lays_join (lay t a.place a.bytes) s r

-- a list is as long as another, so what lies in one lies in the other
still : (m n : ℕ) (s : List Laid) → m ≡ n → Each (Inside m) s → Each (Inside n) s
still m n s e inside = each_map (Inside m) (Inside n) s (λ a h. omega arith) inside

module _ (t : List ℕ) (a : Laid) (s : List Laid) (inside : Each (Inside (length t)) (a ∷ s)) where
  first : end_of a ≤ length t
  unfolding Each
  first = inside.0

  others : Each (Inside (length (lay t a.place a.bytes))) s
  unfolding Each
  others = still (length t) (length (lay t a.place a.bytes)) s (sym (lay_length t a.place a.bytes inside.0)) inside.1

pub lays_length : (t : List ℕ) (s : List Laid) → Each (Inside (length t)) s → length (lays t s) ≡ length t
unfolding lays
lays_length t [] e = refl
lays_length t (a ∷ s) e =
    lays_length (lay t a.place a.bytes) s (others t a s e) ∙ lay_length t a.place a.bytes (first t a s e)

-- a byte outside all of them is as it was
pub lays_outside : (t : List ℕ) (s : List Laid) (i : ℕ) → Each (Inside (length t)) s → Each (Outside i) s → get_or (lays t s) i 0 ≡ get_or t i 0
unfolding lays Each
lays_outside t [] i e o = refl
lays_outside t (a ∷ s) i e o =
    lays_outside (lay t a.place a.bytes) s i (others t a s e) o.1 ∙ lay_outside t a.place a.bytes (first t a s e) i o.0

-- and so is a part clear of all of them
pub lays_other : (t : List ℕ) (s : List Laid) (n p : ℕ) → Each (Inside (length t)) s
    → Each (λ (a : Laid). (p + n ≤ a.place) ⊎ (end_of a ≤ p)) s → part (lays t s) p n ≡ part t p n
unfolding lays Each
lays_other t [] n p e o = refl
lays_other t (a ∷ s) n p e o =
    lays_other (lay t a.place a.bytes) s n p (others t a s e) o.1
    ∙ lay_other t a.place a.bytes n p (first t a s e) o.0

-- where no two meet, each is read back
pub lays_read : (t : List ℕ) (s : List Laid) (d : Laid) → Each (Inside (length t)) s → Pairwise Clear s → (i : ℕ) → i < length s
    → part (lays t s) (get_or s i d).place (length (get_or s i d).bytes) ≡ (get_or s i d).bytes
unfolding lays Pairwise
lays_read t [] d e c i h = absurd (not-suc-le-zero h)
lays_read t (a ∷ s) d e c zero h =
    lays_other (lay t a.place a.bytes) s (length a.bytes) a.place (others t a s e) c.0
    ∙ lay_read t a.place a.bytes (first t a s e)
lays_read t (a ∷ s) d e c (suc i) h =
    lays_read (lay t a.place a.bytes) s d (others t a s e) c.1 i (le_of_suc-le-suc h)

-- a span clear of others may be laid before them or after them
pub lays_past : (t : List ℕ) (a : Laid) (s : List Laid) → end_of a ≤ length t → Each (Inside (length t)) s → Each (Clear a) s
    → lay (lays t s) a.place a.bytes ≡ lays t (a ∷ s)
unfolding lays Each
lays_past t a [] h e c = refl
lays_past t a (b ∷ s) h e c =
    lays_past (lay t b.place b.bytes) a s (omega (arith, lay_length t b.place b.bytes e.0)) (others t b s e) c.1
    ∙ ap (λ (u : List ℕ). lays u s) (lay_comm t b.place b.bytes a.place a.bytes e.0 h (swap c.0))
  where
    swap : Clear a b → Clear b a
    swap w = ⊎_elim (λ (l : end_of a ≤ b.place). inr l) (λ (l : end_of b ≤ a.place). inl l) w

-- what lies in the first of two lists leaves the second as it is
lay_front : (t u : List ℕ) (at : ℕ) (b : List ℕ) → at + length b ≤ length t → lay (t ++ u) at b ≡ lay t at b ++ u
unfolding lay
lay_front t u at b h =
    rw (take-append-le at t u (omega arith), drop-append-le (at + length b) t u h, append_assoc (take at t) (b ++ drop (at + length b) t) u, append_assoc b (drop (at + length b) t) u)

pub lays_front : (t u : List ℕ) (s : List Laid) → Each (Inside (length t)) s → lays (t ++ u) s ≡ lays t s ++ u
unfolding lays
lays_front t u [] e = refl
lays_front t u (a ∷ s) e =
    ap (λ (x : List ℕ). lays x s) (lay_front t u a.place a.bytes (first t a s e))
    ∙ lays_front (lay t a.place a.bytes) u s (others t a s e)
