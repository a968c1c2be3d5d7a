-- Laws of texts and rows by their places: what one that was read says of the bytes, and what is known of one that stands there.
-- Assumes nothing.
use mathlib.Core.Path.{◌≡◌, refl, ap, subst}
use mathlib.Core.Bool.{true}
use mathlib.Core.List.{List}
use Rattle.std.specs.Prelude.{Option, None, Some}
use Prim.Native.Nat.{ℕ, ◌+◌, ◌-◌, ◌≤◌, ◌<◌}
use native.Mathlib.Omega.{arith}
use borrow.Author.Tests.{leb-true}
use lib.Dec.{leb, eqb}
use lib.ListN.{length, take, drop}
use Rattle.lists.specs.Below.{both}
use Rattle.wire.specs.Word.{halves}
use Rattle.wire.specs.Property.{label_property, of_texts}
use Rattle.lists.proofs.Below.{by_test, both_left, both_right}
use Rattle.lists.proofs.Options.{none≢some, some_is, pair_is, then_inv}
use Rattle.catalogue.specs.NumberPlaces.{reading_at}
use Rattle.catalogue.proofs.Inside.{Read, reading_read}
use Rattle.catalogue.specs.Limits.{key_most, number_most, size_most}
use Rattle.catalogue.specs.Plain.{none_zero}
use Rattle.catalogue.specs.CataloguePlaces.{with_read, unit_bytes_of, units_part, text_after_at, text_at, row_at, row_of, row_seen, no_fields, fields_seen}
use Rattle.catalogue.specs.CatalogueReady.{NumberAtReady, TextAtReady, RowAtReady, UnitsReady, FieldsReady}
use Rattle.catalogue.specs.declared.Text.{Text}
use Rattle.catalogue.specs.declared.Fields.{Fields}

-- what a text that was read says of the bytes
pub record TextRead (s : List ℕ) (at : ℕ) (t : Text) (next : ℕ) : Type 0 where
  pub small : t.size ≤ size_most
  pub past : at < t.start
  pub ends : t.start + unit_bytes_of t.size ≡ next
  pub inside : next ≤ length s
  pub clear : none_zero (halves (units_part s t)) ≡ true

units_read : (s : List ℕ) (at size start : ℕ) (t : Text) (next : ℕ) → Read size_most s at size start → text_after_at s size start ≡ Some (t, next)
    → TextRead s at t next
units_read s at size start t next r e =
    by_test
    (both (leb (unit_bytes_of size) (length s - start)) (none_zero (halves (take (unit_bytes_of size) (drop start s)))))
    (λ q.
    let f : ◌≡◌ {A = Option (Text × ℕ)} (Some (record { size = size; start = start }, start + unit_bytes_of size)) (Some (t, next)) = rw q at e in
    let a : record { size = size; start = start } ≡ t = (pair_is f).0 in
    let p : start + unit_bytes_of size ≡ next = (pair_is f).1 in
    let l : unit_bytes_of size ≤ length s - start = leb-true (unit_bytes_of size) (length s - start) (both_left _ (none_zero (halves (take (unit_bytes_of size) (drop start s)))) q) in
    rw (← a, ← p)
    record {
      small = r.small;
      past = r.past;
      ends = refl;
      inside = omega (arith, l, r.inside);
      clear = both_right (leb (unit_bytes_of size) (length s - start)) _ q;
    })
    (λ q. absurd (none≢some (rw q at e)))

pub text_read : (s : List ℕ) (at : ℕ) (t : Text) (next : ℕ) → text_at s at ≡ Some (t, next) → TextRead s at t next
unfolding text_at
text_read s at t next e =
    let i = then_inv (reading_at size_most s at) _ (t, next) e in
    units_read s at i.0.0 i.0.1 t next (reading_read size_most s at i.0.0 i.0.1 i.1) i.2

-- what a row that was read says of the bytes
pub record RowRead (s : List ℕ) (at : ℕ) (f : Fields) (next : ℕ) : Type 0 where
  pub key : f.key ≤ key_most
  pub language : f.language ≤ number_most
  pub default : f.default ≤ number_most
  pub label_at : ℕ
  pub label_next : ℕ
  pub label : TextRead s label_at f.label label_next
  pub note : TextRead s label_next f.note next
  pub past : at < label_at

pub row_read : (s : List ℕ) (at : ℕ) (f : Fields) (next : ℕ) → row_at s at ≡ Some (f, next) → RowRead s at f next
unfolding row_at
row_read s at f next e =
    let k = then_inv (reading_at key_most s at) _ (f, next) e in
    let l = then_inv (reading_at number_most s k.0.1) _ (f, next) k.2 in
    let d = then_inv (reading_at number_most s l.0.1) _ (f, next) l.2 in
    let a = then_inv (text_at s d.0.1) _ (f, next) d.2 in
    let b = then_inv (text_at s a.0.1) _ (f, next) a.2 in
    let rk = reading_read key_most s at k.0.0 k.0.1 k.1 in
    let rl = reading_read number_most s k.0.1 l.0.0 l.0.1 l.1 in
    let rd = reading_read number_most s l.0.1 d.0.0 d.0.1 d.1 in
    let r : RowRead s at (record { key = k.0.0; language = l.0.0; default = d.0.0; label = a.0.0; note = b.0.0 }) b.0.1
    =
    record {
      key = rk.small;
      language = rl.small;
      default = rd.small;
      label_at = d.0.1;
      label_next = a.0.1;
      label = text_read s d.0.1 a.0.0 a.0.1 a.1;
      note = text_read s a.0.1 b.0.0 b.0.1 b.1;
      past = omega (arith, rk.past, rl.past, rd.past);
    } in
    subst (λ (x : Fields × ℕ). RowRead s at x.0 x.1) (some_is b.2) r

pub row_inside : (s : List ℕ) (at : ℕ) (f : Fields) (next : ℕ) → row_at s at ≡ Some (f, next) → next ≤ length s
row_inside s at f next e = (row_read s at f next e).note.inside

-- the fields of a row that was read may be looked at
text_ready : (s : List ℕ) (at : ℕ) (t : Text) (next : ℕ) → TextRead s at t next → UnitsReady s t
text_ready s at t next h = record { small = h.small; inside = omega (arith, h.ends, h.inside) }

pub row_ready : (s : List ℕ) (at : ℕ) (f : Fields) (next : ℕ) → row_at s at ≡ Some (f, next) → FieldsReady s f
row_ready s at f next e =
    let r = row_read s at f next e in
    record {
      key = r.key;
      language = r.language;
      default = r.default;
      label = text_ready s r.label_at f.label r.label_next r.label;
      note = text_ready s r.label_next f.note next r.note;
    }

-- the fields found at a place stand in the bytes, and are those of the row seen there
pub seen_stand : (s : List ℕ) (at : ℕ) → FieldsReady s (fields_seen s at)
seen_stand s at = go (row_at s at) refl
  where
    empty : UnitsReady s (record { size = 0; start = 0 })
    empty = record { small = omega arith; inside = omega arith }

    go : (r : Option (Fields × ℕ)) → row_at s at ≡ r → FieldsReady s (with_read r no_fields (λ f next. f))
    go None e = record { key = omega arith; language = omega arith; default = omega arith; label = empty; note = empty }
    go (Some r) e = row_ready s at r.0 r.1 e

pub seen_row_lem : (s : List ℕ) (at : ℕ) → row_of s (fields_seen s at) ≡ row_seen s at
seen_row_lem s at = go (row_at s at)
  where
    go : (r : Option (Fields × ℕ)) → row_of s (with_read r no_fields (λ f next. f))
        ≡ with_read r (row_of s no_fields) (λ f next. row_of s f)
    go None = refl
    go (Some r) = refl

-- the size of a text that stands at a place stands there, and the text is known by it
pub size_there : (s : List ℕ) (at : ℕ) → TextAtReady s at → NumberAtReady size_most s at
unfolding text_at
size_there s at there =
    let i = then_inv (reading_at size_most s at) _ (there.0, there.1) there.2 in
    (i.0.0, i.0.1, i.1)

pub text_known : (s : List ℕ) (at size start : ℕ) → reading_at size_most s at ≡ Some (size, start) → TextAtReady s at
    → text_at s at ≡ Some (record { size = size; start = start }, start + unit_bytes_of size)
unfolding text_at
text_known s at size start e there =
    let f : text_after_at s size start ≡ Some (there.0, there.1) = rw e at there.2 in
    by_test
    (both (leb (unit_bytes_of size) (length s - start)) (none_zero (halves (take (unit_bytes_of size) (drop start s)))))
    (λ q. rw (e, q))
    (λ q. absurd (none≢some (rw q at f)))

-- a row's numbers stand one after the other, and its texts where its numbers end
pub key_there : (s : List ℕ) (at : ℕ) → RowAtReady s at → NumberAtReady key_most s at
unfolding row_at
key_there s at there =
    let i = then_inv (reading_at key_most s at) _ (there.0, there.1) there.2 in
    (i.0.0, i.0.1, i.1)

pub language_there : (s : List ℕ) (at key at₁ : ℕ) → reading_at key_most s at ≡ Some (key, at₁) → RowAtReady s at → NumberAtReady number_most s at₁
unfolding row_at
language_there s at key at₁ a there =
    let i = then_inv (reading_at number_most s at₁) _ (there.0, there.1) (rw a at there.2) in
    (i.0.0, i.0.1, i.1)

pub default_there : (s : List ℕ) (at key at₁ : ℕ) → reading_at key_most s at ≡ Some (key, at₁) → (language at₂ : ℕ) → reading_at number_most s at₁ ≡ Some (language, at₂)
    → RowAtReady s at → NumberAtReady number_most s at₂
unfolding row_at
default_there s at key at₁ a language at₂ b there =
    let i = then_inv (reading_at number_most s at₂) _ (there.0, there.1) (rw (a, b) at there.2) in
    (i.0.0, i.0.1, i.1)

module _ (s : List ℕ) (at key at₁ language at₂ default at₃ : ℕ) (a : reading_at key_most s at ≡ Some (key, at₁)) (b : reading_at number_most s at₁ ≡ Some (language, at₂))
    (c : reading_at number_most s at₂ ≡ Some (default, at₃)) (there : RowAtReady s at) where
  pub label_there : TextAtReady s at₃
  unfolding row_at
  label_there =
      let i = then_inv (text_at s at₃) _ (there.0, there.1) (rw (a, b, c) at there.2) in
      (i.0.0, i.0.1, i.1)

  pub note_there : (label : Text) (at₄ : ℕ) → text_at s at₃ ≡ Some (label, at₄) → TextAtReady s at₄
  unfolding row_at
  note_there label at₄ d =
      let i = then_inv (text_at s at₄) _ (there.0, there.1) (rw (a, b, c, d) at there.2) in
      (i.0.0, i.0.1, i.1)

-- the part from a text's start to its end is its units
pub units_part_lem : (s : List ℕ) (t : Text) (end : ℕ) → end ≡ t.start + unit_bytes_of t.size → take (end - t.start) (drop t.start s) ≡ units_part s t
units_part_lem s t end e = ap (λ (n : ℕ). take n (drop t.start s)) same
  where
    same : end - t.start ≡ unit_bytes_of t.size
    same = omega arith

-- the text that a property names lies inside
pub text_inside : (s : List ℕ) (property : ℕ) (f : Fields) → FieldsReady s f → UnitsReady s (of_texts property f.label f.note)
text_inside s property f stand = by_test (eqb property label_property) (λ q. rw q stand.label) (λ q. rw q stand.note)
