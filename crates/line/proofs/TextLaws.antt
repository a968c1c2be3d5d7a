-- Where each hex digit stands, and how a change is found. Assumes nothing.
use mathlib.Core.Path.{◌≡◌, refl, sym, ◌∙◌}
use mathlib.Core.Bool.{Bool, true, false, not, ◌||◌}
use mathlib.Core.List.{List, [], ◌∷◌, ◌++◌}
use Prim.Native.Nat.{ℕ, zero, suc, ◌+◌, ◌*◌, ◌/◌, ◌%◌, ◌≤◌, ◌<◌, min}
use native.Mathlib.Omega.{arith}
use lib.ListN.{length, get_or, set, length-append, take-append-drop, drop, drop_of_length-le}
use lib.Seq.{paste, paste-suc}
use borrow.Author.Tests.{leb-true, leb-false}
use lib.Dec.{eqb, leb}
use Rattle.lists.proofs.Below.{by_test}
use Rattle.lists.specs.Below.{pick, either}
use Rattle.wire.specs.Laid.{lay}
use Rattle.wire.proofs.Lay.{lay_join}
use Rattle.line.specs.declared.Out.{Out}
use Rattle.line.specs.Text.{Put, Written, glyph, hex_pairs, hex_text, fill_byte, changed}

pub pairs_length : (s : List ℕ) → length (hex_pairs s) ≡ 2 * length s
unfolding hex_pairs
pairs_length [] = refl
pairs_length (b ∷ s) = let e = pairs_length s in omega arith

pub pair_high : (s : List ℕ) (i : ℕ) → i < length s → get_or (hex_pairs s) (2 * i) 0 ≡ glyph (get_or s i 0 / 16)
unfolding hex_pairs
pair_high [] i h = absurd (omega arith)
pair_high (b ∷ s) zero h = refl
pair_high (b ∷ s) (suc i) h =
    let two : 2 * suc i ≡ suc (suc (2 * i)) = omega arith in
    rw two (pair_high s i (omega arith))

pub pair_low : (s : List ℕ) (i : ℕ) → i < length s → get_or (hex_pairs s) (2 * i + 1) 0 ≡ glyph (get_or s i 0 % 16)
unfolding hex_pairs
pair_low [] i h = absurd (omega arith)
pair_low (b ∷ s) zero h = refl
pair_low (b ∷ s) (suc i) h =
    let three : 2 * suc i + 1 ≡ suc (suc (2 * i + 1)) = omega arith in
    rw three (pair_low s i (omega arith))

-- two stores copy two more
pub pasted_two : (d h : List ℕ) (at k : ℕ) → at + (k + 1) < length d → k + 1 < length h →
    set (set (paste d at h k) (at + k) (get_or h k 0)) (at + k + 1) (get_or h (k + 1) 0) ≡ paste d at h (k + 2)
pasted_two d h at k p q =
    let one : k + 1 ≡ suc k = omega arith in
    let two : k + 2 ≡ suc (suc k) = omega arith in
    let there : at + k + 1 ≡ at + suc k = omega arith in
    rw (paste-suc d at h k 0 (omega arith) (omega arith), there, one, two) (paste-suc d at h (suc k) 0 (omega arith) (omega arith))

pub text_some : (s : List ℕ) → (length s ≡ 0 → ⊥) → hex_text s ≡ hex_pairs s
unfolding hex_text
text_some [] h = absurd (h refl)
text_some (b ∷ s) h = refl

pub text_none : (s : List ℕ) → length s ≡ 0 → hex_text s ≡ 45 ∷ []
unfolding hex_text
text_none [] h = refl
text_none (b ∷ s) h = absurd (omega arith)

pub hex_short : (s : List ℕ) → length (hex_text s) ≤ 2 * length s + 1
unfolding hex_text
hex_short [] = omega arith
hex_short (b ∷ s) = let e = pairs_length (b ∷ s) in omega arith

-- one byte more: whether one before it changed, or it
pub changed_snoc : (s : List ℕ) (b : ℕ) → changed (s ++ (b ∷ [])) ≡ (changed s || not (eqb b fill_byte))
unfolding changed
changed_snoc [] b = last (eqb b fill_byte)
  where
    last : (t : Bool) → either (pick t false true) false ≡ not t
    last true = refl
    last false = refl
changed_snoc (a ∷ s) b = rw (changed_snoc s b) (apart (pick (eqb a fill_byte) false true) (changed s) (not (eqb b fill_byte)))
  where
    apart : (p q r : Bool) → either p (q || r) ≡ (either p q || r)
    apart true q r = refl
    apart false q r = refl

-- a text after another is both in one
pub put_then : {s t : List ℕ} {at m r : ℕ} {a b c : List ℕ} → Put s at m a b → Put t m r b c → m ≤ length a → Put (s ++ t) at r a c
put_then {s} {t} {at} {m} {r} {a} p q h = record {
  next = omega (arith, p.next, q.next, length-append s t);
  laid = q.laid ∙ rw (p.laid, p.next) (lay_join a at s t (omega (arith, p.next)));
}

-- the same in an output
pub written_then : {s t : List ℕ} {a b c : Out} → Written s a b → Written t b c → b.used ≤ length b.bytes.now → Written (s ++ t) a c
written_then p q h = record {
  put = put_then p.put q.put (omega (arith, h, p.stays.long));
  stays = record { long = q.stays.long ∙ p.stays.long; same = q.stays.same ∙ p.stays.same };
}

-- the room that a text leaves
pub written_room : (room : ℕ) {s : List ℕ} {a b : Out} → Written s a b → a.used + length s + room ≤ length a.bytes.now
    → b.used + room ≤ length b.bytes.now
written_room room w h = omega (arith, w.put.next, w.stays.long, h)

-- a text is laid in one way
pub put_once : (text : List ℕ) (at r r' : ℕ) (a b b' : List ℕ) → Put text at r a b → Put text at r' a b' → (r ≡ r') × (b ≡ b')
put_once text at r r' a b b' p q = (p.next ∙ sym q.next, p.laid ∙ sym q.laid)

pub written_once : (text : List ℕ) (a b b' : Out) → Written text a b → Written text a b'
    → (b.used ≡ b'.used) × (b.bytes.now ≡ b'.bytes.now) × (b.bytes.ghost_name ≡ b'.bytes.ghost_name)
written_once text a b b' p q =
    let o = put_once text a.used b.used b'.used a.bytes.now b.bytes.now b'.bytes.now p.put q.put in
    (o.0, o.1, p.stays.same ∙ sym q.stays.same)

-- no text
pub put_none : (at : ℕ) (a : List ℕ) → Put [] at at a a
unfolding lay
put_none at a = record { next = omega arith; laid = rw none (sym (take-append-drop at a)) }
  where
    none : at + 0 ≡ at
    none = omega arith

-- a place past the end is the end
pub drop_past : (s : List ℕ) (k m : ℕ) → m ≡ min k (length s) → drop m s ≡ drop k s
drop_past s k m e =
    by_test (leb k (length s))
    (λ q. let same : m ≡ k = omega (arith, e, leb-true k (length s) q) in rw same)
    (λ q. let far : length s ≤ k = omega (arith, leb-false k (length s) q) in let near : length s ≤ m = omega (arith, e, far) in
    rw (drop_of_length-le s near, drop_of_length-le s far))
