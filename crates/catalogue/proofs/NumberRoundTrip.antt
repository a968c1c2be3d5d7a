-- What the writer writes reads back, and what reads is what the writer writes. Assumes nothing.
use mathlib.Core.Path.{◌≡◌, refl, sym, ap, ap₂, ◌∙◌}
use mathlib.Core.List.{List, [], ◌∷◌, ◌++◌}
use Rattle.std.specs.Prelude.{Option, None, Some}
use Prim.Native.Nat.{ℕ, zero, suc, ◌+◌, ◌-◌, ◌*◌, ◌/◌, ◌%◌, ◌^◌, ◌≤◌, ◌<◌}
use native.Mathlib.Omega.{arith}
use native.Mathlib.Numerals.{add-one}
use borrow.Author.Tests.{lt-ltb, le-ltb, ltb-true, ltb-false, ne_eqb, le-leb, leb-true}
use lib.Dec.{ltb, leb}
use lib.ListN.{length, take, drop, take-append-drop}
use lib.Seq.{drop-append_seam}
use Rattle.wire.specs.Word.{Bytes}
use Rattle.lists.proofs.Below.{by_test}
use Rattle.lists.proofs.Options.{none≢some, pair_is}
use Rattle.catalogue.specs.Groups.{groups, further, within, number, split_after, groups_of, written}
use Rattle.catalogue.proofs.Inside.{further_inv}

-- the first group and what the rest holds, joined
joined : (b v n : ℕ) → (v ≡ 0 → ⊥) → further b (Some (v, n)) ≡ Some (b + 128 * v, n + 1)
joined b v n h = rw (ne_eqb v 0 h)

-- the writer's bytes, whatever follows them
pub groups_written : (k v : ℕ) (rest : List ℕ) → v < 128 ^ suc k → groups (groups_of k v ++ rest) ≡ Some (v, length (groups_of k v))
unfolding groups groups_of
groups_written zero v rest h = rw (lt-ltb v 128 h)
groups_written (suc k) v rest h =
    by_test (ltb v 128)
    (λ q. rw (q, q))
    (λ q.
    rw (q, le-ltb (v % 128 + 128) 128 (omega arith), groups_written k (v / 128) rest (omega arith))
    (joined (v % 128 + 128 - 128) (v / 128) (length (groups_of k (v / 128))) (λ e. omega (arith, ltb-false v 128 q))
    ∙ ap₂ (λ (a b : ℕ). Some (a, b)) (omega arith) (add-one (length (groups_of k (v / 128))))))

small : (k v : ℕ) → v < 128 → groups_of k v ≡ v ∷ []
unfolding groups_of
small zero v h = refl
small (suc k) v h = rw (lt-ltb v 128 h)

large : (k b v : ℕ) → 128 ≤ b → b < 256 → (v ≡ 0 → ⊥) → groups_of (suc k) (b - 128 + 128 * v) ≡ b ∷ groups_of k v
unfolding groups_of
large k b v h l n =
    rw (le-ltb (b - 128 + 128 * v) 128 (omega arith))
    (ap₂ (λ (a w : ℕ). a ∷ groups_of k w) (omega arith) (omega arith))

-- one group in front of others that are the writer's
more : (k b v n : ℕ) (s : List ℕ) (r : ℕ × ℕ) → 128 ≤ b → b < 256 → (r.0 ≡ 0 → ⊥) → v ≡ b - 128 + 128 * r.0 → n ≡ r.1 + 1
    → v < 128 ^ suc k → ((j : ℕ) → r.0 < 128 ^ suc j → take r.1 s ≡ groups_of j r.0) → take n (b ∷ s) ≡ groups_of k v
more zero b v n s r h l z p q fits rest = absurd (omega arith)
more (suc k) b v n s r h l z p q fits rest =
    rw (q, add-one, p, large k b r.0 h l z) (ap (λ (t : List ℕ). b ∷ t) (rest k (omega arith)))

-- the bytes that a number was read from are the writer's
pub written_groups : (k : ℕ) (s : List ℕ) (v n : ℕ) → Bytes s → groups s ≡ Some (v, n) → v < 128 ^ suc k → take n s ≡ groups_of k v
unfolding groups
written_groups k [] v n bytes e h = absurd (none≢some e)
written_groups k (b ∷ s) v n bytes e h =
    by_test (ltb b 128)
    (λ q.
    let t : Some (b, 1) ≡ Some (v, n) = rw q at e in
    let p : b ≡ v = (pair_is t).0 in
    let m : 1 ≡ n = (pair_is t).1 in
    rw (← p, ← m) (sym (small k b (ltb-true b 128 q))))
    (λ q.
    let f = further_inv (b - 128) (groups s) v n (rw q at e) in
    more k b v n s f.0 (ltb-false b 128 q) (bytes 0) f.2 f.3 f.4 h
    (λ j l. written_groups j s f.0.0 f.0.1 (λ i. bytes (suc i)) f.1 l))

-- the plain parser reads what the writer wrote, whatever follows it
pub number_written : (limit v : ℕ) (rest : List ℕ) → v ≤ limit → limit < 128 ^ 10 → number limit (written v ++ rest) ≡ Some (v, rest)
unfolding number
number_written limit v rest h l =
    rw (groups_written 9 v rest (omega arith), le-leb v limit h, drop-append_seam (written v) rest)

-- and what it read is what the writer writes
pub number_read : (limit : ℕ) (s : List ℕ) (v : ℕ) (rest : List ℕ) → limit < 128 ^ 10 → Bytes s → number limit s ≡ Some (v, rest)
    → (s ≡ written v ++ rest) × (v ≤ limit)
unfolding number
number_read limit s v rest l bytes e = go (groups s) refl e
  where
    go : (g : Option (ℕ × ℕ)) → groups s ≡ g → split_after s (within limit g) ≡ Some (v, rest) → (s ≡ written v ++ rest) × (v ≤ limit)
    go None p q = absurd (none≢some q)
    go (Some r) p q =
        by_test (leb r.0 limit)
        (λ t.
        let w : Some (r.0, drop r.1 s) ≡ Some (v, rest) = rw t at q in
        let value : r.0 ≡ v = (pair_is w).0 in
        let after : drop r.1 s ≡ rest = (pair_is w).1 in
        let small : r.0 ≤ limit = leb-true r.0 limit t in (
          sym (take-append-drop r.1 s)
              ∙ ap₂ (λ (a b : List ℕ). a ++ b) (written_groups 9 s r.0 r.1 bytes p (omega arith) ∙ ap written value) after,
          omega arith,
        ))
        (λ t. absurd (none≢some (rw t at q)))
