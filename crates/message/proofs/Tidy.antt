-- The columns that a body was read to have flags of 0 or 1, and zero under a flag of 0. Assumes nothing.
use mathlib.Core.Path.{◌≡◌, refl, subst}
use mathlib.Core.Bool.{Bool, true, false}
use mathlib.Core.List.{List, [], ◌∷◌}
use Rattle.std.specs.Prelude.{Option, None, Some}
use Prim.Native.Nat.{ℕ, zero, suc, ◌+◌, ◌≤◌}
use native.Mathlib.Omega.{arith}
use borrow.Author.Tests.{eq-eqb, eqb-false, leb-true}
use lib.Dec.{leb, eqb}
use lib.ListN.{length}
use Rattle.lists.specs.Below.{pick}
use Rattle.lists.proofs.Below.{by_test, both_true}
use Rattle.lists.proofs.Options.{none≢some, some_is, then_inv}
use Rattle.wire.specs.Header.{header_size}
use Rattle.lists.specs.Every.{every}
use Rattle.bindings.specs.declared.Value.{Value}
use Rattle.bindings.specs.declared.Spot.{Spot}
use Rattle.bindings.specs.declared.Column.{Column}
use Rattle.bindings.specs.Plain.{Bindings, before, type_width, bytes, numeral, padded, flag, spot, value, property, column, columns, bindings}
use Rattle.lists.specs.Options.{and_then}
use Rattle.table.specs.Well.{flagged, tidy}

-- a flag that was read is 0 or 1
flag_small : (at : ℕ) (s : List ℕ) (r : ℕ × ℕ × List ℕ) → flag at s ≡ Some r → r.0 ≤ 1
unfolding flag
flag_small at [] r e = absurd (none≢some e)
flag_small at (b ∷ s) r e =
    by_test (leb b 1)
    (λ q. subst (λ (p : ℕ × ℕ × List ℕ). p.0 ≤ 1) (some_is (rw q at e)) (leb-true b 1 q))
    (λ q. absurd (none≢some (rw q at e)))

used_one : (used rest : ℕ) → used ≤ 1 → eqb used 0 ≡ false → flagged used rest ≡ true
used_one used rest h q = rw (q, one)
  where
    one : eqb used 1 ≡ true
    one = eq-eqb used 1 (omega (arith, eqb-false used 0 q))

-- so a spot and a value are tidy
abbrev SpotTidy : Spot → Type 0
SpotTidy p = (flagged p.used p.offset ≡ true) × (p.used ≤ 1)

spot_tidy : (at : ℕ) (s : List ℕ) (r : Spot × ℕ × List ℕ) → spot at s ≡ Some r → SpotTidy r.0
unfolding spot
spot_tidy at s r e =
    let f = then_inv (flag at s) _ r e in
    go f.0.0 f.0.1 f.0.2 (flag_small at s f.0 f.1) f.2
  where
    go : (used at : ℕ) (s : List ℕ) → used ≤ 1
        → pick (eqb used 0) (Some (record { used = 0; offset = 0 }, at, s))
        (and_then (padded 2 at s) (λ (_, at, s). and_then (numeral 2 at s) (λ (offset, at, s). Some (record { used = used; offset = offset }, at, s))))
        ≡ Some r
        → SpotTidy r.0
    go used at s h w =
        by_test (eqb used 0)
        (λ q. subst (λ (p : Spot × ℕ × List ℕ). SpotTidy p.0) (some_is (rw q at w)) (refl, omega arith))
        (λ q.
        let p = then_inv (padded 2 at s) _ r (rw q at w) in
        let n = then_inv (numeral 2 p.0.1 p.0.2) _ r p.2 in
        subst (λ (x : Spot × ℕ × List ℕ). SpotTidy x.0) (some_is n.2) (used_one used n.0.0 h q, h))

value_tidy : (at : ℕ) (s : List ℕ) (r : Value × ℕ × List ℕ) → value at s ≡ Some r → flagged r.0.used (r.0.offset + r.0.size) ≡ true
unfolding value
value_tidy at s r e =
    let f = then_inv (spot at s) _ r e in
    go f.0.0 f.0.1 f.0.2 (spot_tidy at s f.0 f.1).1 f.2
  where
    go : (p : Spot) (at : ℕ) (s : List ℕ) → p.used ≤ 1
        → pick (eqb p.used 0) (Some (record { used = 0; offset = 0; size = 0 }, at, s))
        (and_then (numeral 2 at s) (λ (size, at, s). Some (record { used = p.used; offset = p.offset; size = size }, at, s)))
        ≡ Some r
        → flagged r.0.used (r.0.offset + r.0.size) ≡ true
    go p at s h w =
        by_test (eqb p.used 0)
        (λ q. subst (λ (x : Value × ℕ × List ℕ). flagged x.0.used (x.0.offset + x.0.size) ≡ true) (some_is (rw q at w)) refl)
        (λ q.
        let n = then_inv (numeral 2 at s) _ r (rw q at w) in
        subst (λ (x : Value × ℕ × List ℕ). flagged x.0.used (x.0.offset + x.0.size) ≡ true) (some_is n.2)
        (used_one p.used (p.offset + n.0.0) h q))

column_tidy : (at : ℕ) (s : List ℕ) (r : Column × ℕ × List ℕ) → column at s ≡ Some r → tidy r.0 ≡ true
unfolding column
column_tidy at s r e =
    let p = then_inv (property at s) _ r e in
    let t = then_inv (numeral type_width p.0.1 p.0.2) _ r p.2 in
    let v = then_inv (value t.0.1 t.0.2) _ r t.2 in
    let a = then_inv (spot v.0.1 v.0.2) _ r v.2 in
    let l = then_inv (spot a.0.1 a.0.2) _ r a.2 in
    subst (λ (x : Column × ℕ × List ℕ). tidy x.0 ≡ true) (some_is l.2)
    (both_true _ _ (value_tidy t.0.1 t.0.2 v.0 v.1)
    (both_true _ _ (spot_tidy v.0.1 v.0.2 a.0 a.1).0 (spot_tidy a.0.1 a.0.2 l.0 l.1).0))

columns_tidy : (n at : ℕ) (s : List ℕ) (found : List Column) → columns n at s ≡ Some found → every tidy found ≡ true
unfolding columns every
columns_tidy zero at [] found e = subst (λ (x : List Column). every tidy x ≡ true) (some_is e) refl
columns_tidy zero at (b ∷ s) found e = absurd (none≢some e)
columns_tidy (suc n) at s found e =
    let p = then_inv (padded 4 at s) _ found e in
    let c = then_inv (column p.0.1 p.0.2) _ found p.2 in
    go c.0.0 (columns n c.0.1 c.0.2) (column_tidy p.0.1 p.0.2 c.0 c.1) (columns_tidy n c.0.1 c.0.2) c.2
  where
    go : (c : Column) (o : Option (List Column)) → tidy c ≡ true → ((x : List Column) → o ≡ Some x → every tidy x ≡ true) → before c o ≡ Some found
        → every tidy found ≡ true
    go c None t h w = absurd (none≢some w)
    go c (Some x) t h w = subst (λ (y : List Column). every tidy y ≡ true) (some_is w) (both_true (tidy c) (every tidy x) t (h x refl))

pub bindings_tidy : (m : List ℕ) (x : Bindings) → bindings m ≡ Some x → every tidy x.columns ≡ true
unfolding bindings
bindings_tidy m x e =
    let h = then_inv (bytes header_size 0 m) _ x e in
    let c = then_inv (numeral 4 h.0.1 h.0.2) _ x h.2 in
    let w = then_inv (numeral 4 c.0.1 c.0.2) _ x c.2 in
    let d = then_inv (numeral 4 w.0.1 w.0.2) _ x w.2 in
    let u = then_inv (numeral 4 d.0.1 d.0.2) _ x d.2 in
    described c.0.0 w.0.0 (eqb d.0.0 (length u.0.2)) u.0.1 u.0.2 u.2
  where
    listed : (handle width : ℕ) (count at : ℕ) (s : List ℕ) (o : Option (List Column)) → columns count at s ≡ o
        → and_then o (λ c. Some (record { handle = handle; width = width; columns = c })) ≡ Some x → every tidy x.columns ≡ true
    listed handle width count at s None p w = absurd (none≢some w)
    listed handle width count at s (Some found) p w =
        subst (λ (y : Bindings). every tidy y.columns ≡ true) (some_is w) (columns_tidy count at s found p)

    described : (handle width : ℕ) (right : Bool) (at : ℕ) (s : List ℕ)
        → pick right (and_then (numeral 4 at s) (λ (count, at, s). and_then (columns count at s) (λ c. Some (record { handle = handle; width = width; columns = c })))) None
        ≡ Some x
        → every tidy x.columns ≡ true
    described handle width true at s w =
        let n = then_inv (numeral 4 at s) _ x w in
        listed handle width n.0.0 n.0.1 n.0.2 (columns n.0.0 n.0.1 n.0.2) refl n.2
    described handle width false at s w = absurd (none≢some w)
