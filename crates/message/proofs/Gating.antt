-- The kind of a message, and refusals 6 to 8. Assumes nothing.
use mathlib.Core.Path.{◌≡◌, refl, sym, ap, ◌∙◌}
use mathlib.Core.Bool.{Bool, true, false}
use mathlib.Core.List.{List}
use Rattle.std.specs.Prelude.{Option, None, Some, Ok, Err}
use Rattle.refusal.specs.declared.Refusal.{Refusal}
use Rattle.refusal.specs.declared.Refusal.TheVariants.{NotServed}
use Rattle.refusal.specs.Numbers.{refusal_number, refusing, number_of}
use Rattle.refusal.proofs.Numbers.{number_least, given_number, given_is, refused_number}
use Prim.Native.Nat.{ℕ, suc, ◌+◌, ◌-◌, ◌*◌, ◌≤◌, ◌<◌}
use native.Mathlib.Omega.{arith}
use borrow.Author.Tests.{eq-eqb, ne_eqb, lt-ltb, le-ltb, ltb-true, ltb-false, le-leb, lt-leb}
use lib.Dec.{ltb, eqb}
use lib.ListN.{length, get_or}
use Rattle.lists.specs.Below.{pick}
use Rattle.wire.specs.Word.{number_at}
use Rattle.wire.specs.Checksum.{checksum, checksum_told}
use Rattle.lists.proofs.Below.{by_test}
use Rattle.table.specs.Seat.{Seat, seat_of}
use Rattle.refusal.specs.Refusal.{first_cause}
use Rattle.message.specs.declared.Kind.{Kind}
use Rattle.message.specs.AnswerTold.{kind_at, gated}
use Rattle.message.specs.Message.{kind_number, message_table, kinds, kind_from, kind_of, served, tested, msg_of, checksum_wrong, gate_causes}

left_is : (k : ℕ) → k < kinds → kinds - k ≡ suc (kinds - (k + 1))
left_is k h = omega arith

pub kind_here : (k msg : ℕ) → k < kinds → get_or message_table (2 * k) 0 ≡ msg → kind_from (kinds - k) k msg ≡ k
unfolding kind_from
kind_here k msg h e = rw (left_is k h, eq-eqb (get_or message_table (2 * k) 0) msg e)

pub kind_more : (k msg : ℕ) → k < kinds → (get_or message_table (2 * k) 0 ≡ msg → ⊥) → kind_from (kinds - k) k msg ≡ kind_from (kinds - (k + 1)) (k + 1) msg
unfolding kind_from
kind_more k msg h e = rw (left_is k h, ne_eqb (get_or message_table (2 * k) 0) msg e)

pub kind_none : (k msg : ℕ) → k ≡ kinds → kind_from (kinds - k) k msg ≡ k
unfolding kind_from
kind_none k msg e = rw e

-- a kind by the number at which it stands
pub kind_told : (n : ℕ) (kind : Kind) → kind_at n ≡ Some kind → n ≡ kind_number kind
kind_told n kind e = grind arith

pub kind_untold : (n : ℕ) → kind_at n ≡ None → kinds ≤ n
kind_untold n e = grind arith

pub kind_served : (n : ℕ) (kind : Kind) → kind_at n ≡ Some kind → n < kinds
kind_served n kind e = grind arith

pub kind_tested : (n : ℕ) (kind : Kind) → kind_at n ≡ Some kind → tested n ≡ tested (kind_number kind)
kind_tested n kind e = ap tested (kind_told n kind e)

-- the ways that refusals 6 to 8 can go
module _ (b m : List ℕ) where
  pub not_served_lem : kinds ≤ kind_of (msg_of m) → first_cause (gate_causes (seat_of b) m) ≡ 6
  unfolding first_cause
  not_served_lem h = by_test (eqb (get_or b 0 0) 0) (λ q. rw (q, le-ltb (kind_of (msg_of m)) kinds h)) (λ q. rw (q, le-ltb (kind_of (msg_of m)) kinds h))

  pub unconnected : kind_of (msg_of m) < kinds → get_or b 0 0 ≡ 0 → first_cause (gate_causes (seat_of b) m) ≡ 7
  unfolding first_cause
  unconnected h e = rw (eq-eqb (get_or b 0 0) 0 e, lt-ltb (kind_of (msg_of m)) kinds h)

  checked_by : kind_of (msg_of m) < kinds → (get_or b 0 0 ≡ 0 → ⊥) → (wrong : Bool) → checksum_wrong (get_or b 1 0) (kind_of (msg_of m)) m ≡ wrong
      → first_cause (gate_causes (seat_of b) m) ≡ pick wrong 8 0
  unfolding first_cause
  checked_by h o wrong e = rw (ne_eqb (get_or b 0 0) 0 o, lt-ltb (kind_of (msg_of m)) kinds h, e)

  pub old_client : kind_of (msg_of m) < kinds → (get_or b 0 0 ≡ 0 → ⊥) → get_or b 1 0 < 8 → first_cause (gate_causes (seat_of b) m) ≡ 0
  old_client h o v = checked_by h o false (rw (lt-leb 8 (get_or b 1 0) v))

  pub not_tested : kind_of (msg_of m) < kinds → (get_or b 0 0 ≡ 0 → ⊥) → 8 ≤ get_or b 1 0 → tested (kind_of (msg_of m)) ≡ false → first_cause (gate_causes (seat_of b) m) ≡ 0
  not_tested h o v t = checked_by h o false (rw (le-leb 8 (get_or b 1 0) v, t))

  module _ (h : kind_of (msg_of m) < kinds) (o : get_or b 0 0 ≡ 0 → ⊥) (v : 8 ≤ get_or b 1 0) (t : tested (kind_of (msg_of m)) ≡ true) where
    pub right : number_at 4 m 8 ≡ checksum m → first_cause (gate_causes (seat_of b) m) ≡ 0
    right e = checked_by h o false (rw (le-leb 8 (get_or b 1 0) v, t, eq-eqb (number_at 4 m 8) (checksum m) e))

    pub wrong : (number_at 4 m 8 ≡ checksum m → ⊥) → first_cause (gate_causes (seat_of b) m) ≡ 8
    wrong e = checked_by h o true (rw (le-leb 8 (get_or b 1 0) v, t, ne_eqb (number_at 4 m 8) (checksum m) e))

pub told_is : (m : List ℕ) → 16 ≤ length m → length m ≤ 16384 → checksum_told m ≡ checksum m
unfolding checksum_told
told_is m l h = rw (le-leb 16 (length m) l, le-leb (length m) 16384 h)

-- what holds where none of 6 to 8 applies, and how large a refusal is
pub gate_served : (b m : List ℕ) → first_cause (gate_causes (seat_of b) m) ≡ 0 → kind_of (msg_of m) < kinds
gate_served b m e =
    by_test (ltb (kind_of (msg_of m)) kinds)
    (λ q. ltb-true (kind_of (msg_of m)) kinds q)
    (λ q. absurd (let z : ◌≡◌ {A = ℕ} 6 0 = sym (not_served_lem b m (ltb-false (kind_of (msg_of m)) kinds q)) ∙ e in omega arith))

pub gate_connected : (b m : List ℕ) → first_cause (gate_causes (seat_of b) m) ≡ 0 → get_or b 0 0 ≡ 0 → ⊥
gate_connected b m e o = let z : ◌≡◌ {A = ℕ} 7 0 = sym (unconnected b m (gate_served b m e) o) ∙ e in omega arith

pub gate_small : (held : Option Seat) (m : List ℕ) → first_cause (gate_causes held m) < 17
unfolding first_cause
gate_small None m = by_test (served (msg_of m)) (λ q. rw q (omega arith)) (λ q. rw q (omega arith))
gate_small (Some s) m =
    by_test (served (msg_of m))
    (λ q.
    by_test (checksum_wrong s.version (kind_of (msg_of m)) m)
    (λ w. rw (q, w) (omega arith))
    (λ w. rw (q, w) (omega arith)))
    (λ q. rw q (omega arith))

-- an answer of the gate by its cases
pub gate_admits : (b m : List ℕ) (kind : Kind) → Ok kind ≡ gated (kind_at (kind_of (msg_of m))) (first_cause (gate_causes (seat_of b) m))
    → (first_cause (gate_causes (seat_of b) m) ≡ 0) × (kind_of (msg_of m) ≡ kind_number kind)
gate_admits b m kind e = go (kind_at (kind_of (msg_of m))) refl e
  where
    go : (o : Option Kind) → kind_at (kind_of (msg_of m)) ≡ o → Ok kind ≡ gated o (first_cause (gate_causes (seat_of b) m))
        → (first_cause (gate_causes (seat_of b) m) ≡ 0) × (kind_of (msg_of m) ≡ kind_number kind)
    go None p f = absurd (number_least NotServed (sym (ap number_of f)))
    go (Some k) p f =
        let z = given_number (first_cause (gate_causes (seat_of b) m)) k kind (gate_small (seat_of b) m) f in
        (z, kind_told (kind_of (msg_of m)) kind (p ∙ ap Some (sym (given_is kind k (f ∙ ap (λ (n : ℕ). refusing n k) z)))))

pub gate_refuses : (b m : List ℕ) (r : Refusal) → Err r ≡ gated (kind_at (kind_of (msg_of m))) (first_cause (gate_causes (seat_of b) m))
    → first_cause (gate_causes (seat_of b) m) ≡ refusal_number r
gate_refuses b m r e = go (kind_at (kind_of (msg_of m))) refl e
  where
    go : (o : Option Kind) → kind_at (kind_of (msg_of m)) ≡ o → Err r ≡ gated o (first_cause (gate_causes (seat_of b) m))
        → first_cause (gate_causes (seat_of b) m) ≡ refusal_number r
    go None p f = not_served_lem b m (kind_untold (kind_of (msg_of m)) p) ∙ sym (ap number_of f)
    go (Some k) p f = refused_number (first_cause (gate_causes (seat_of b) m)) k r (gate_small (seat_of b) m) f
