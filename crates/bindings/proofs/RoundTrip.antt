-- What reads is exactly what the writer writes: bindings that fit are read back from their message, whatever its free bytes are, and a
-- message that reads is that of the bindings it reads to, which fit, with some free bytes. Assumes nothing.
use mathlib.Core.Path.{◌≡◌, refl, sym, ap, ap₂, subst, ◌∙◌}
use mathlib.Core.Bool.{Bool, true}
use mathlib.Core.List.{List, [], ◌∷◌, ◌++◌, append_assoc}
use mathlib.Core.Logic.{◌↔◌, inl, inr, ⊎_elim}
use Rattle.std.specs.Prelude.{Option, None, Some}
use Prim.Native.Nat.{ℕ, zero, suc, ◌+◌, ◌≤◌, ◌<◌}
use native.Mathlib.Nat.{add-zero, zero-add, add_assoc, pow-suc}
use native.Mathlib.Omega.{arith}
use borrow.Author.Tests.{le-leb, leb-true, eq-eqb, ne_eqb, eqb-true, eqb-false}
use lib.Dec.{leb, eqb}
use lib.ListN.{length, get_or, take, drop, length-append, take-append-drop}
use lib.Seq.{take_at, drop_at, get_or-append-add, length-take-le, ext_get_or}
use Rattle.lists.specs.Below.{pick, every_below}
use Rattle.lists.specs.Each.{Each}
use Rattle.lists.specs.Every.{every}
use Rattle.lists.specs.Options.{and_then}
use Rattle.lists.specs.Parts.{zeros}
use Rattle.lists.proofs.Below.{by_test, both_left, both_right, every_at}
use Rattle.lists.proofs.Options.{none≢some, some_is, then_inv}
use Rattle.wire.specs.Header.{header_size}
use Rattle.wire.specs.Padding.{padding}
use Rattle.wire.specs.Property.{key_property, note_property, known, cell_size}
use Rattle.wire.specs.PropertySpec.{set_size, set_first, set_ours, numbered, spec}
use Rattle.wire.specs.Word.{Bytes, number, le}
use Rattle.wire.proofs.Little.{le_length, number_le}
use Rattle.bindings.proofs.Sound.{fit_parts, columns_parts}
use Rattle.bindings.specs.declared.Value.{Value}
use Rattle.bindings.specs.declared.Spot.{Spot}
use Rattle.bindings.specs.declared.Column.{Column}
use Rattle.bindings.specs.Fit.{typed, column_fits, fit}
use Rattle.bindings.specs.Plain.{Bindings, before, type_width, bytes, numeral, zero_bytes, flag, spot, value, property, column, columns, bindings}
use Rattle.bindings.specs.Writer.{Foreign, Free, followed, write_spot, write_value, write_property, write_column, write_columns, write_described, write, InBytes, SpotFits, ValueFits, ColumnFits, ForeignFits, Fits}

-- What is written is read, whatever follows it.
bytes_read : (n at : ℕ) (b rest : List ℕ) → length b ≡ n → bytes n at (b ++ rest) ≡ Some (b, at + length b, rest)
bytes_read n at b rest e =
    rw (le-leb n (length (b ++ rest)) (omega (arith, length-append b rest)), take_at b rest n e, drop_at b rest n e, e)

number_read : (n at v : ℕ) (rest : List ℕ) → InBytes n v → numeral n at (le n v ++ rest) ≡ Some (v, at + length (le n v), rest)
number_read n at v rest h = rw (bytes_read n at (le n v) rest (le_length n v), number_le n v h)

zeros_read : (n at : ℕ) (rest : List ℕ) → zero_bytes n at (zeros n ++ rest) ≡ Some (tt, at + length (zeros n), rest)
unfolding zero_bytes
zeros_read zero at rest = rw add-zero
zeros_read (suc n) at rest = zeros_read n (at + 1) rest ∙ ap (λ (m : ℕ). Some (tt, m, rest)) (omega arith)

spot_read : (at : ℕ) (p : Spot) (rest : List ℕ) → SpotFits p → spot at (write_spot at p ++ rest) ≡ Some (p, at + length (write_spot at p), rest)
unfolding spot write_spot flag
spot_read at p rest (inl u) = rw (u.0, u.1)
spot_read at p rest (inr u) =
    rw (
      u.0,
      append_assoc (zeros (padding 2 (at + 1))) (le 2 p.offset) rest,
      zeros_read (padding 2 (at + 1)) (at + 1) (le 2 p.offset ++ rest),
      number_read 2 (at + 1 + length (zeros (padding 2 (at + 1)))) p.offset rest u.1,
    )
    (ap (λ (n : ℕ). Some (record { used = 1; offset = p.offset }, n, rest))
    (omega (arith, length-append (zeros (padding 2 (at + 1))) (le 2 p.offset))))

value_read : (at : ℕ) (v : Value) (rest : List ℕ) → ValueFits v → value at (write_value at v ++ rest) ≡ Some (v, at + length (write_value at v), rest)
unfolding value write_value
value_read at v rest (inl u) =
    let p : Spot = record { used = v.used; offset = v.offset } in
    rw (
      append_assoc (write_spot at p) (pick (eqb v.used 0) [] (le 2 v.size)) rest,
      spot_read at p _ (inl (u.0, u.1)),
      u.0,
      u.1,
      u.2,
      length-append (write_spot at (record { used = 0; offset = 0 })) [],
      add-zero,
    )
value_read at v rest (inr u) =
    let p : Spot = record { used = v.used; offset = v.offset } in
    rw (
      append_assoc (write_spot at p) (pick (eqb v.used 0) [] (le 2 v.size)) rest,
      spot_read at p _ (inr (u.0, u.1)),
      ne_eqb v.used 0 (λ e. omega (arith, u.0)),
      number_read 2 (at + length (write_spot at p)) v.size rest u.2,
    )
    (ap (λ (n : ℕ). Some (v, n, rest)) (omega (arith, length-append (write_spot at p) (le 2 v.size))))

-- our own set identifier
abbrev ours : List ℕ
ours = take set_size (spec 0)

ours_ours : set_ours ours 0 ≡ true
unfolding set_ours every_below
ours_ours = refl

name_read : (at : ℕ) (set : List ℕ) (v : ℕ) (rest : List ℕ) → length set ≡ set_size → InBytes 4 v
    → property at ((set ++ (le 4 numbered ++ le 4 v)) ++ rest)
    ≡ Some (pick (set_ours set 0) v 0, at + length (set ++ (le 4 numbered ++ le 4 v)), rest)
unfolding property
name_read at set v rest e h =
    simp append_assoc
    (rw (bytes_read set_size at set _ e, number_read 4 (at + length set) numbered _ (omega arith), number_read 4 (at + length set + length (le 4 numbered)) v rest h)
    (ap (λ (n : ℕ). Some (pick (set_ours set 0) v 0, n, rest))
    (omega (arith, length-append set (le 4 numbered ++ le 4 v), length-append (le 4 numbered) (le 4 v)))))

property_read : (at : ℕ) (other : Foreign) (p : ℕ) (rest : List ℕ) → ForeignFits other → InBytes 4 p
    → property at (write_property other p ++ rest) ≡ Some (p, at + length (write_property other p), rest)
unfolding write_property
property_read at other p rest fits h =
    by_test (eqb p 0)
    (λ q.
    rw (q, name_read at other.set other.number rest fits.set fits.number)
    (ap (λ (v : ℕ). Some (v, at + length (other.set ++ (le 4 numbered ++ le 4 other.number)), rest)) (fits.none ∙ sym (eqb-true p 0 q))))
    (λ q. rw q (name_read at ours p rest refl h ∙ ap (λ (b : Bool). Some (pick b p 0, at + length (spec p), rest)) ours_ours))

column_read : (other : Foreign) (at : ℕ) (c : Column) (rest : List ℕ) → ForeignFits other → ColumnFits c
    → column at (write_column other at c ++ rest) ≡ Some (c, at + length (write_column other at c), rest)
unfolding column write_column
column_read other at c rest named fits =
    simp (append_assoc, length-append, ← add_assoc)
    (rw (
      property_read at other c.property _ named fits.property,
      number_read type_width _ c.vtype _ fits.vtype,
      value_read _ c.value _ fits.value,
      spot_read _ c.status _ fits.status,
      spot_read _ c.length rest fits.length,
    ))

columns_read : (others : ℕ → Foreign) (at : ℕ) (s : List Column) → ((k : ℕ) → ForeignFits (others k)) → Each ColumnFits s
    → columns (length s) at (write_columns others at s) ≡ Some s
unfolding columns write_columns Each
columns_read others at [] named fits = refl
columns_read others at (c ∷ s) named fits =
    rw (
      zeros_read (padding 4 at) at _,
      column_read (others 0) (at + length (zeros (padding 4 at))) c _ (named 0) fits.0,
      columns_read (λ k. others (suc k)) _ s (λ k. named (suc k)) fits.1,
    )

-- bindings that fit are read back, whatever the free bytes are
pub reads_written : (free : Free) (b : Bindings) → Fits free b → bindings (write free b) ≡ Some b
unfolding bindings
reads_written free b fits =
    rw (
      bytes_read header_size 0 free.header _ fits.header,
      number_read 4 _ b.handle _ fits.handle,
      number_read 4 _ b.width _ fits.width,
      number_read 4 _ (length (write_described free.foreign b.columns)) _ fits.described,
      number_read 4 _ free.dummy _ fits.dummy,
      eq-eqb (length (write_described free.foreign b.columns)) _ refl,
      number_read 4 _ (length b.columns) _ fits.count,
      first,
      columns_read free.foreign (header_size + 20) b.columns fits.foreign fits.each,
    )
  where
    first : 0 + length free.header + length (le 4 b.handle) + length (le 4 b.width) + length (le 4 (length (write_described free.foreign b.columns)))
        + length (le 4 free.dummy) + length (le 4 (length b.columns))
        ≡ header_size + 20
    first =
        omega (
          arith,
          fits.header,
          le_length 4 b.handle,
          le_length 4 b.width,
          le_length 4 (length (write_described free.foreign b.columns)),
          le_length 4 free.dummy,
          le_length 4 (length b.columns),
        )

-- What was read is what is written: from bytes at a place these were taken, and such are the place after them and the bytes that are left.
record Taken (at : ℕ) (s w : List ℕ) (next : ℕ) (rest : List ℕ) : Type 0 where
  made : s ≡ w ++ rest
  after : next ≡ at + length w
  bytes : Bytes rest

taken : (at : ℕ) (s w : List ℕ) (next : ℕ) (rest : List ℕ) → Bytes s → s ≡ w ++ rest → next ≡ at + length w → Taken at s w next rest
taken at s w next rest small e f =
    record { made = e; after = f; bytes = λ i. rw (← (get_or-append-add w rest i 0), ← e) (small (length w + i)) }

-- one part after another, and the last of them
then_taken : (at : ℕ) (s w : List ℕ) (next : ℕ) (rest : List ℕ) (f : ℕ → List ℕ) (last : ℕ) (left : List ℕ) → Taken at s w next rest
    → Taken next rest (f next) last left → Taken at s (followed at w f) last left
then_taken at s w next rest f last left t u =
    rw (← t.after)
    (record {
      made = t.made ∙ ap (λ (r : List ℕ). w ++ r) u.made ∙ sym (append_assoc w (f next) left);
      after = omega (arith, t.after, u.after, length-append w (f next));
      bytes = u.bytes;
    })

then_all : (at : ℕ) (s w : List ℕ) (next : ℕ) (rest : List ℕ) (f : ℕ → List ℕ) → Taken at s w next rest → rest ≡ f next → s ≡ followed at w f
then_all at s w next rest f t e = t.made ∙ ap (λ (r : List ℕ). w ++ r) e ∙ ap (λ (n : ℕ). w ++ f n) t.after

-- what a reader gives is such, and what follows it gave something: then this follows from what it gave
reading : {A B P : Type 0} {o : Option A} {f : A → Option B} {b : B} {Such : A → Type 0} → ((a : A) → o ≡ Some a → Such a) → and_then o f ≡ Some b
    → ((a : A) → Such a → f a ≡ Some b → P) → P
reading {o = o} {f = f} {b = b} back e k = let i = then_inv o f b e in k i.0 (back i.0 i.1) i.2

-- what was read fits, and its bytes were taken
abbrev Back : {A : Type 0} → (A → Type 0) → (ℕ → A → List ℕ) → ℕ → List ℕ → A × ℕ × List ℕ → Type 0
Back Fit written at s r = Fit r.0 × Taken at s (written at r.0) r.1 r.2

-- bytes and numbers
abbrev BytesBack : ℕ → ℕ → List ℕ → List ℕ × ℕ × List ℕ → Type 0
BytesBack n = Back (λ b. length b ≡ n) (λ _ b. b)

bytes_back : (n at : ℕ) (s : List ℕ) → Bytes s → (r : List ℕ × ℕ × List ℕ) → bytes n at s ≡ Some r → BytesBack n at s r
bytes_back n at s small r e =
    by_test (leb n (length s))
    (λ q.
    let l = length-take-le n s (leb-true n (length s) q) in
    subst (BytesBack n at s) (some_is (rw q at e))
    (l, taken at s (take n s) (at + n) (drop n s) small (sym (take-append-drop n s)) (omega (arith, l))))
    (λ q. absurd (none≢some (rw q at e)))

number_bytes : (n : ℕ) (s : List ℕ) → Bytes s → n ≤ length s → (le n (number (take n s)) ≡ take n s) × InBytes n (number (take n s))
unfolding number le
number_bytes zero s small h = (refl, omega arith)
number_bytes (suc n) [] small h = absurd (omega arith)
number_bytes (suc n) (b ∷ s) small h =
    let f = number_bytes n s (λ i. small (suc i)) (omega arith) in (
      ap₂ (λ (a : ℕ) (r : List ℕ). a ∷ r) (omega (arith, small 0)) (ap (le n) (omega (arith, small 0)) ∙ f.0),
      rw pow-suc (omega (arith, small 0, f.1)),
    )

abbrev NumberBack : ℕ → ℕ → List ℕ → ℕ × ℕ × List ℕ → Type 0
NumberBack n = Back (InBytes n) (λ _ v. le n v)

number_back : (n at : ℕ) (s : List ℕ) → Bytes s → (r : ℕ × ℕ × List ℕ) → numeral n at s ≡ Some r → NumberBack n at s r
number_back n at s small r e =
    by_test (leb n (length s))
    (λ q.
    let f = number_bytes n s small (leb-true n (length s) q) in
    subst (NumberBack n at s) (some_is (rw q at e)) (
      f.1,
      taken at s (le n (number (take n s))) (at + n) (drop n s) small (rw f.0 (sym (take-append-drop n s))) (rw (le_length n (number (take n s)))),
    ))
    (λ q. absurd (none≢some (rw q at e)))

-- zero bytes
abbrev ZerosBack : ℕ → ℕ → List ℕ → Unit {0} × ℕ × List ℕ → Type 0
ZerosBack n at s r = Taken at s (zeros n) r.1 r.2

zeros_back : (n at : ℕ) (s : List ℕ) → Bytes s → (r : Unit {0} × ℕ × List ℕ) → zero_bytes n at s ≡ Some r → ZerosBack n at s r
unfolding zero_bytes
zeros_back zero at s small r e = subst (ZerosBack 0 at s) (some_is e) (taken at s [] at s small refl (omega arith))
zeros_back (suc n) at [] small r e = absurd (none≢some e)
zeros_back (suc n) at (b ∷ s) small r e =
    by_test (eqb b 0)
    (λ q.
    let t = zeros_back n (at + 1) s (λ i. small (suc i)) r (rw q at e) in
    taken at (b ∷ s) (zeros (suc n)) r.1 r.2 small (ap₂ (λ (a : ℕ) (r : List ℕ). a ∷ r) (eqb-true b 0 q) t.made) (omega (arith, t.after)))
    (λ q. absurd (none≢some (rw q at e)))

-- a flag
abbrev FlagBack : ℕ → List ℕ → ℕ × ℕ × List ℕ → Type 0
FlagBack = Back (λ used. used ≤ 1) (λ _ used. used ∷ [])

flag_back : (at : ℕ) (s : List ℕ) → Bytes s → (r : ℕ × ℕ × List ℕ) → flag at s ≡ Some r → FlagBack at s r
unfolding flag
flag_back at [] small r e = absurd (none≢some e)
flag_back at (b ∷ s) small r e =
    by_test (leb b 1)
    (λ q. subst (FlagBack at (b ∷ s)) (some_is (rw q at e)) (leb-true b 1 q, taken at (b ∷ s) (b ∷ []) (at + 1) s small refl refl))
    (λ q. absurd (none≢some (rw q at e)))

-- a spot, not used or used
abbrev SpotBack : ℕ → List ℕ → Spot × ℕ × List ℕ → Type 0
SpotBack = Back SpotFits write_spot

spot_back : (at : ℕ) (s : List ℕ) → Bytes s → (r : Spot × ℕ × List ℕ) → spot at s ≡ Some r → SpotBack at s r
unfolding spot write_spot
spot_back at s small r e =
    reading (flag_back at s small) e (λ (used, a, s₁) t q.
    by_test (eqb used 0)
    (λ z. subst (SpotBack at s) (some_is (rw z at q)) (inl (refl, refl), rw (eqb-true used 0 z) at t.1))
    (λ z.
    reading (zeros_back (padding 2 a) a s₁ t.1.bytes) (rw z at q) (λ (_, b, s₂) u p.
    reading (number_back 2 b s₂ u.bytes) p (λ (offset, next, rest) v o.
    subst (SpotBack at s) (some_is o) (
      inr (omega (arith, t.0, eqb-false used 0 z), v.0),
      rw z
          (then_taken at s (used ∷ []) a s₁ (λ a. zeros (padding 2 a) ++ le 2 offset) next rest t.1
          (then_taken a s₁ (zeros (padding 2 a)) b s₂ (λ _. le 2 offset) next rest u v.1)),
    )))))

-- a value
abbrev ValueBack : ℕ → List ℕ → Value × ℕ × List ℕ → Type 0
ValueBack = Back ValueFits write_value

value_back : (at : ℕ) (s : List ℕ) → Bytes s → (r : Value × ℕ × List ℕ) → value at s ≡ Some r → ValueBack at s r
unfolding value write_value
value_back at s small r e =
    reading (spot_back at s small) e (λ (p, a, s₁) t q.
    ⊎_elim
    (λ (u : (p.used ≡ 0) × (p.offset ≡ 0)).
    subst (ValueBack at s) (some_is (rw u.0 at q)) (
      inl (refl, refl, refl),
      then_taken at s (write_spot at (record { used = 0; offset = 0 })) a s₁ (λ _. []) a s₁ (rw (u.0, u.1) at t.1) (taken a s₁ [] a s₁ t.1.bytes refl (omega arith)),
    ))
    (λ (u : (p.used ≡ 1) × InBytes 2 p.offset).
    reading (number_back 2 a s₁ t.1.bytes) (rw u.0 at q) (λ (size, next, rest) v o.
    subst (ValueBack at s) (some_is o) (
      inr (refl, u.1, v.0),
      then_taken at s (write_spot at (record { used = 1; offset = p.offset })) a s₁ (λ _. le 2 size) next rest (rw u.0 at t.1) v.1,
    )))
    t.0)

-- the sixteen bytes of our set are no others
ours_only : (set : List ℕ) → length set ≡ set_size → set_ours set 0 ≡ true → set ≡ ours
unfolding set_ours
ours_only set e q = ext_get_or 0 set ours e (λ i h. at set q i (omega arith) ∙ sym (at ours ours_ours i (omega arith)))
  where
    at : (t : List ℕ) → every_below set_size (λ i. eqb (get_or t (0 + i) 0) (set_first + i)) ≡ true → (i : ℕ) → i < set_size → get_or t i 0 ≡ set_first + i
    at t q i h =
        rw zero-add at (eqb-true (get_or t (0 + i) 0) (set_first + i) (every_at set_size (λ i. eqb (get_or t (0 + i) 0) (set_first + i)) q i h))

-- a property: one of ours, or a foreign one; where no foreign one is wanted, our own set and the number 0
abbrev nobody : Foreign
nobody = record { set = ours; number = 0 }

nobody_fits : ForeignFits nobody
nobody_fits = record { set = refl; number = omega arith; none = rw ours_ours }

abbrev PropertyBack : ℕ → List ℕ → ℕ × ℕ × List ℕ → Type 0
PropertyBack at s r = InBytes 4 r.0 × (other : Foreign) × ForeignFits other × Taken at s (write_property other r.0) r.1 r.2

property_named : (at : ℕ) (s set : List ℕ) (v next : ℕ) (rest : List ℕ) → length set ≡ set_size → InBytes 4 v
    → Taken at s (set ++ (le 4 numbered ++ le 4 v)) next rest → PropertyBack at s (pick (set_ours set 0) v 0, next, rest)
unfolding write_property
property_named at s set v next rest e h t =
    by_test (set_ours set 0)
    (λ q.
    rw q
    (by_test (eqb v 0)
    (λ z. (h, record { set = set; number = v }, record { set = e; number = h; none = rw (q, eqb-true v 0 z) }, rw z t))
    (λ z. (
      h,
      nobody,
      nobody_fits,
      rw z (subst (λ (b : List ℕ). Taken at s (b ++ (le 4 numbered ++ le 4 v)) next rest) (ours_only set e q) t),
    ))))
    (λ q. rw q (omega arith, record { set = set; number = v }, record { set = e; number = h; none = rw q }, t))

property_back : (at : ℕ) (s : List ℕ) → Bytes s → (r : ℕ × ℕ × List ℕ) → property at s ≡ Some r → PropertyBack at s r
unfolding property
property_back at s small r e =
    reading (bytes_back set_size at s small) e (λ (set, a, s₁) t p.
    reading (number_back 4 a s₁ t.1.bytes) p (λ (kind, b, s₂) u q.
    reading (number_back 4 b s₂ u.1.bytes) q (λ (v, next, rest) w o.
    by_test (eqb kind numbered)
    (λ z.
    subst (PropertyBack at s) (some_is (rw z at o))
    (property_named at s set v next rest t.0 w.0
    (then_taken at s set a s₁ (λ _. le 4 numbered ++ le 4 v) next rest t.1
    (then_taken a s₁ (le 4 numbered) b s₂ (λ _. le 4 v) next rest (rw (eqb-true kind numbered z) at u.1) w.1))))
    (λ z. absurd (none≢some (rw z at o))))))

-- a column
abbrev ColumnBack : ℕ → List ℕ → Column × ℕ × List ℕ → Type 0
ColumnBack at s r = ColumnFits r.0 × (other : Foreign) × ForeignFits other × Taken at s (write_column other at r.0) r.1 r.2

column_back : (at : ℕ) (s : List ℕ) → Bytes s → (r : Column × ℕ × List ℕ) → column at s ≡ Some r → ColumnBack at s r
unfolding column write_column
column_back at s small r e =
    reading (property_back at s small) e (λ (p, a, s₁) t e₁.
    reading (number_back type_width a s₁ t.3.bytes) e₁ (λ (vtype, b, s₂) u e₂.
    reading (value_back b s₂ u.1.bytes) e₂ (λ (v, c, s₃) w e₃.
    reading (spot_back c s₃ w.1.bytes) e₃ (λ (status, d, s₄) x e₄.
    reading (spot_back d s₄ x.1.bytes) e₄ (λ (len, next, rest) y e₅.
    let four : ℕ → List ℕ = λ at. write_spot at len in
    let three : ℕ → List ℕ = λ at. followed at (write_spot at status) four in
    let two : ℕ → List ℕ = λ at. followed at (write_value at v) three in
    let one : ℕ → List ℕ = λ at. followed at (le type_width vtype) two in
    subst (ColumnBack at s) (some_is e₅) (
      record { property = t.0; vtype = u.0; value = w.0; status = x.0; length = y.0 },
      t.1,
      t.2,
      then_taken at s (write_property t.1 p) a s₁ one next rest t.3
          (then_taken a s₁ (le type_width vtype) b s₂ two next rest u.1
          (then_taken b s₂ (write_value b v) c s₃ three next rest w.1
          (then_taken c s₃ (write_spot c status) d s₄ four next rest x.1 y.1))),
    ))))))

-- columns, and the foreign properties of them all
abbrev on_top : Foreign → (ℕ → Foreign) → ℕ → Foreign
on_top other others zero = other
on_top other others (suc k) = others k

on_top_fits : (other : Foreign) (others : ℕ → Foreign) → ForeignFits other → ((k : ℕ) → ForeignFits (others k))
    → (k : ℕ) → ForeignFits (on_top other others k)
on_top_fits other others h f zero = h
on_top_fits other others h f (suc k) = f k

before_inv : (c : Column) (o : Option (List Column)) (s : List Column) → before c o ≡ Some s
    → (others : List Column) × (o ≡ Some others) × (c ∷ others ≡ s)
before_inv c None s e = absurd (none≢some e)
before_inv c (Some others) s e = (others, refl, some_is e)

abbrev ColumnsBack : ℕ → ℕ → List ℕ → List Column → Type 0
ColumnsBack n at s found =
    (length found ≡ n) × Each ColumnFits found × (others : ℕ → Foreign) × ((k : ℕ) → ForeignFits (others k)) × (s ≡ write_columns others at found)

columns_back : (n at : ℕ) (s : List ℕ) → Bytes s → (found : List Column) → columns n at s ≡ Some found → ColumnsBack n at s found
unfolding columns write_columns Each
columns_back zero at [] small found e = subst (ColumnsBack 0 at []) (some_is e) (refl, tt, (λ k. nobody), (λ k. nobody_fits), refl)
columns_back zero at (b ∷ s) small found e = absurd (none≢some e)
columns_back (suc n) at s small found e =
    reading (zeros_back (padding 4 at) at s small) e (λ (_, a, s₁) t p.
    reading (column_back a s₁ t.bytes) p (λ (c, b, s₂) u q.
    let h = before_inv c (columns n b s₂) found q in
    let r = columns_back n b s₂ u.3.bytes h.0 h.1 in
    let two : ℕ → List ℕ = λ at. write_columns r.2 at h.0 in
    let one : ℕ → List ℕ = λ at. followed at (write_column u.1 at c) two in
    subst (ColumnsBack (suc n) at s) h.2 (
      ap suc r.0,
      (u.0, r.1),
      on_top u.1 r.2,
      on_top_fits u.1 r.2 u.2 r.3,
      then_all at s (zeros (padding 4 at)) a s₁ one t (then_all a s₁ (write_column u.1 a c) b s₂ two u.3 r.4),
    )))

-- the parts of a message, joined
abbrev MessageBack : List ℕ → Bindings → Type 0
MessageBack m b = (free : Free) × Fits free b × (m ≡ write free b)

message_made : (m header s₁ s₂ s₃ s₄ s₅ s₆ : List ℕ) (a₁ a₂ a₃ a₄ a₅ a₆ handle width described dummy count : ℕ) (found : List Column)
    → BytesBack header_size 0 m (header, a₁, s₁) → NumberBack 4 a₁ s₁ (handle, a₂, s₂) → NumberBack 4 a₂ s₂ (width, a₃, s₃)
    → NumberBack 4 a₃ s₃ (described, a₄, s₄) → NumberBack 4 a₄ s₄ (dummy, a₅, s₅) → NumberBack 4 a₅ s₅ (count, a₆, s₆)
    → described ≡ length s₅ → ColumnsBack count a₆ s₆ found → MessageBack m (record { handle = handle; width = width; columns = found })
message_made m header s₁ s₂ s₃ s₄ s₅ s₆ a₁ a₂ a₃ a₄ a₅ a₆ handle width described dummy count found t₁ t₂ t₃ t₄ t₅ t₆ d c = (
  record { header = header; dummy = dummy; foreign = c.2 },
  record {
    header = t₁.0;
    dummy = t₅.0;
    foreign = c.3;
    handle = t₂.0;
    width = t₃.0;
    count = rw c.0 t₆.0;
    described = rw (← body, ← d) t₄.0;
    each = c.1;
  },
  rw (t₁.1.made, t₂.1.made, t₃.1.made, t₄.1.made, t₅.1.made, d, body),
)
  where
    first : a₆ ≡ header_size + 20
    first =
        omega (
          arith,
          t₁.0,
          t₁.1.after,
          t₂.1.after,
          t₃.1.after,
          t₄.1.after,
          t₅.1.after,
          t₆.1.after,
          le_length 4 handle,
          le_length 4 width,
          le_length 4 described,
          le_length 4 dummy,
          le_length 4 count,
        )

    body : s₅ ≡ write_described c.2 found
    body =
        t₆.1.made
        ∙ ap₂ (λ (n : ℕ) (t : List ℕ). le 4 n ++ t) (sym c.0) (c.4 ∙ ap (λ (a : ℕ). write_columns c.2 a found) first)

-- a message that reads is what is written of the bindings that it reads to, which fit, with free bytes that fit
pub written_reads : (m : List ℕ) (b : Bindings) → Bytes m → bindings m ≡ Some b → (free : Free) × Fits free b × (m ≡ write free b)
unfolding bindings
written_reads m b small e =
    reading (bytes_back header_size 0 m small) e (λ (header, a₁, s₁) t₁ e₁.
    reading (number_back 4 a₁ s₁ t₁.1.bytes) e₁ (λ (handle, a₂, s₂) t₂ e₂.
    reading (number_back 4 a₂ s₂ t₂.1.bytes) e₂ (λ (width, a₃, s₃) t₃ e₃.
    reading (number_back 4 a₃ s₃ t₃.1.bytes) e₃ (λ (described, a₄, s₄) t₄ e₄.
    reading (number_back 4 a₄ s₄ t₄.1.bytes) e₄ (λ (dummy, a₅, s₅) t₅ e₅.
    by_test (eqb described (length s₅))
    (λ q.
    reading (number_back 4 a₅ s₅ t₅.1.bytes) (rw q at e₅) (λ (count, a₆, s₆) t₆ e₆.
    reading (columns_back count a₆ s₆ t₆.1.bytes) e₆ (λ found c e₇.
    subst (MessageBack m) (some_is e₇)
    (message_made m header s₁ s₂ s₃ s₄ s₅ s₆ a₁ a₂ a₃ a₄ a₅ a₆ handle width described dummy count found t₁ t₂ t₃ t₄ t₅ t₆
    (eqb-true described (length s₅) q)
    c))))
    (λ q. absurd (none≢some (rw q at e₅))))))))

-- messages that differ in their free bytes alone read alike
pub free_unread : (free other : Free) (b : Bindings) → Fits free b → Fits other b → bindings (write free b) ≡ bindings (write other b)
free_unread free other b h k = reads_written free b h ∙ sym (reads_written other b k)

-- refusal 9 of a body, by the writer alone: it is that of no bindings, whatever is free
pub no_bindings_lem : (m : List ℕ) → Bytes m → (bindings m ≡ None) ↔ ((free : Free) (b : Bindings) → Fits free b → m ≡ write free b → ⊥)
no_bindings_lem m small = (
  λ e free b fits w. none≢some (sym e ∙ ap bindings w ∙ reads_written free b fits),
  λ h. go (bindings m) refl h,
)
  where
    go : (o : Option Bindings) → bindings m ≡ o → ((free : Free) (b : Bindings) → Fits free b → m ≡ write free b → ⊥) → bindings m ≡ None
    go None e h = e
    go (Some b) e h = let back = written_reads m b small e in absurd (h back.0 b back.1 back.2)

-- Of bindings that pass 12 every property is known, so that nothing but the header and _dummy is free.
known_decides : (a b : Foreign) (p : ℕ) → known p ≡ true → write_property a p ≡ write_property b p
unfolding write_property
known_decides a b p e = rw (ne_eqb p 0 (λ z. omega (arith, leb-true key_property p (both_left (leb key_property p) (leb p note_property) e))))

columns_decide : (others these : ℕ → Foreign) (at : ℕ) (s : List Column) → every column_fits s ≡ true → write_columns others at s ≡ write_columns these at s
unfolding write_columns write_column every
columns_decide others these at [] e = refl
columns_decide others these at (c ∷ s) e =
    rw (
      known_decides (others 0) (these 0) c.property (both_left (known c.property) (typed (cell_size c.property c.vtype) c.value) (both_left (column_fits c) (every column_fits s) e)),
      columns_decide (λ k. others (suc k)) (λ k. these (suc k)) _ s (both_right (column_fits c) (every column_fits s) e),
    )

pub fit_decides : (header : List ℕ) (dummy : ℕ) (others these : ℕ → Foreign) (b : Bindings) → fit b.width b.columns ≡ true
    → write (record { header = header; dummy = dummy; foreign = others }) b ≡ write (record { header = header; dummy = dummy; foreign = these }) b
fit_decides header dummy others these b e =
    let each = (columns_parts b.width b.columns (fit_parts b.width b.columns e).2).0 in
    rw (columns_decide others these (header_size + 20) b.columns each)
