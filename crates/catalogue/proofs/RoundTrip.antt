-- What parses is exactly what the writer writes: rows that fit are read back from their bytes, and bytes that parse are those
-- of the rows they parse to, which fit. Assumes nothing.
use mathlib.Core.Path.{◌≡◌, refl, sym, ap, ap₂, subst, ◌∙◌}
use mathlib.Core.Bool.{true, false, not}
use mathlib.Core.List.{List, [], ◌∷◌, ◌++◌, append_assoc, append-nil}
use Rattle.std.specs.Prelude.{Option, None, Some}
use Prim.Native.Nat.{ℕ, zero, suc, ◌+◌, ◌-◌, ◌*◌, ◌≤◌, ◌<◌}
use native.Mathlib.Numerals.{add-one}
use native.Mathlib.Omega.{arith}
use borrow.Author.Tests.{ne_eqb, eqb-false, le-leb, leb-true, not-true}
use lib.Dec.{leb, eqb}
use lib.ListN.{length, get_or, take, drop, length-append, take-append-drop}
use lib.Seq.{take_at, drop_at, get_or-append-add, length-take-le}
use Rattle.lists.specs.Below.{both}
use Rattle.wire.specs.Word.{Bytes, halves, le}
use Rattle.wire.proofs.Halves.{halves_length}
use Rattle.lists.proofs.Options.{none≢some, some_is, pair_is, then_inv}
use Rattle.lists.proofs.Below.{by_test, both_left, both_right, every_at, every_shown}
use Rattle.catalogue.specs.Groups.{number, written}
use Rattle.catalogue.proofs.NumberRoundTrip.{number_written, number_read}
use Rattle.catalogue.specs.Limits.{rows_most, key_most, number_most, size_most, bytes_most}
use Rattle.catalogue.specs.Plain.{Row, none_zero, text_after, text, row, rows, whole, catalogue}
use Rattle.catalogue.specs.Writer.{unit_bytes, write_text, write_row, write_rows, write, TextFits, RowFits, RowsFit, Fits}

-- a list after another is of bytes where the joined one is
bytes_after : (s a rest : List ℕ) → s ≡ a ++ rest → Bytes s → Bytes rest
bytes_after s a rest e bytes i = rw (← (get_or-append-add a rest i 0), ← e) (bytes (length a + i))

-- the units of a text and their bytes
unit_bytes_length : (units : List ℕ) → length (unit_bytes units) ≡ 2 * length units
unfolding unit_bytes le
unit_bytes_length [] = refl
unit_bytes_length (u ∷ units) = omega (arith, unit_bytes_length units)

abbrev Units : List ℕ → Type 0
Units units = (i : ℕ) → i < length units → (0 < get_or units i 0) × (get_or units i 0 < 65536)

halves_written : (units : List ℕ) → Units units → halves (unit_bytes units) ≡ units
unfolding unit_bytes le halves
halves_written [] h = refl
halves_written (u ∷ units) h =
    ap₂ ◌∷◌ (omega (arith, (h 0 (omega arith)).1)) (halves_written units (λ i l. h (suc i) (omega arith)))

-- the bytes of the units of an even number of bytes are those bytes
pub written_halves : (s : List ℕ) (n : ℕ) → length s ≡ 2 * n → Bytes s → unit_bytes (halves s) ≡ s
unfolding unit_bytes le halves
written_halves [] n e bytes = refl
written_halves (a ∷ []) n e bytes = absurd (omega arith)
written_halves (a ∷ b ∷ s) n e bytes =
    ap₂ (λ (x : ℕ) (r : List ℕ). x ∷ r) (omega (arith, bytes 0))
    (ap₂ (λ (x : ℕ) (r : List ℕ). x ∷ r) (omega (arith, bytes 0, bytes 1)) (written_halves s (n - 1) (omega arith) (λ i. bytes (suc (suc i)))))

halves_small : (s : List ℕ) → Bytes s → (i : ℕ) → get_or (halves s) i 0 < 65536
unfolding halves
halves_small [] bytes i = omega arith
halves_small (a ∷ []) bytes i = omega arith
halves_small (a ∷ b ∷ s) bytes zero = omega (arith, bytes 0, bytes 1)
halves_small (a ∷ b ∷ s) bytes (suc i) = halves_small s (λ j. bytes (suc (suc j))) i

units_clear : (units : List ℕ) → Units units → none_zero units ≡ true
units_clear units h =
    every_shown (length units) (λ i. not (eqb (get_or units i 0) 0)) (λ i l. rw (ne_eqb (get_or units i 0) 0 (λ e. omega (arith, (h i l).0))))

clear_units : (s : List ℕ) → Bytes s → none_zero (halves s) ≡ true → Units (halves s)
clear_units s bytes e i l =
    let nonzero : eqb (get_or (halves s) i 0) 0 ≡ false = not-true _ (every_at (length (halves s)) (λ k. not (eqb (get_or (halves s) k 0) 0)) e i l) in
    (omega (arith, eqb-false (get_or (halves s) i 0) 0 nonzero), halves_small s bytes i)

-- a text
text_written : (t : Option (List ℕ)) (rest : List ℕ) → TextFits t → text (write_text t ++ rest) ≡ Some (t, rest)
unfolding text
text_written None rest fits = rw (number_written size_most 0 rest (omega arith) (omega arith))
text_written (Some units) rest fits =
    rw (
      append_assoc (written (length units + 1)) (unit_bytes units) rest,
      number_written size_most (length units + 1) (unit_bytes units ++ rest) (omega (arith, fits.0)) (omega arith),
      add-one,
      take_at (unit_bytes units) rest (2 * length units) (unit_bytes_length units),
      drop_at (unit_bytes units) rest (2 * length units) (unit_bytes_length units),
      halves_written units fits.1,
      units_clear units fits.1,
      le-leb (2 * length units) (length (unit_bytes units ++ rest)) (omega (arith, length-append (unit_bytes units) rest, unit_bytes_length units)),
    )

bytes_take : (n : ℕ) (s : List ℕ) → Bytes s → Bytes (take n s)
bytes_take zero s bytes i = omega arith
bytes_take (suc n) [] bytes i = omega arith
bytes_take (suc n) (b ∷ s) bytes zero = bytes 0
bytes_take (suc n) (b ∷ s) bytes (suc i) = bytes_take n s (λ j. bytes (suc j)) i

-- the units that a text was read to, after its size
units_back : (n : ℕ) (s : List ℕ) → suc n ≤ size_most → Bytes s → 2 * n ≤ length s → none_zero (halves (take (2 * n) s)) ≡ true
    → (written (suc n) ++ s ≡ write_text (Some (halves (take (2 * n) s))) ++ drop (2 * n) s) × TextFits (Some (halves (take (2 * n) s)))
units_back n s h bytes l clear = (
  ap (λ (m : ℕ). written m ++ s) size
      ∙ ap (λ (r : List ℕ). written (length units + 1) ++ r) (sym (take-append-drop (2 * n) s))
      ∙ sym (append_assoc (written (length units + 1)) (take (2 * n) s) (drop (2 * n) s))
      ∙ ap (λ (r : List ℕ). (written (length units + 1) ++ r) ++ drop (2 * n) s) (sym (written_halves (take (2 * n) s) n taken bytes')),
  (omega (arith, size), clear_units (take (2 * n) s) bytes' clear),
)
  where
    units : List ℕ
    units = halves (take (2 * n) s)

    bytes' : Bytes (take (2 * n) s)
    bytes' = bytes_take (2 * n) s bytes

    taken : length (take (2 * n) s) ≡ 2 * n
    taken = length-take-le (2 * n) s l

    size : suc n ≡ length units + 1
    size = omega (arith, halves_length (take (2 * n) s), taken)

text_back : (s : List ℕ) (t : Option (List ℕ)) (rest : List ℕ) → Bytes s → text s ≡ Some (t, rest) → (s ≡ write_text t ++ rest) × TextFits t
unfolding text
text_back s t rest bytes e =
    let i = then_inv (number size_most s) _ (t, rest) e in
    let r = number_read size_most s i.0.0 i.0.1 (omega arith) bytes i.1 in
    go i.0.0 i.0.1 r.0 r.1 i.2
  where
    go : (n : ℕ) (after : List ℕ) → s ≡ written n ++ after → n ≤ size_most → text_after n after ≡ Some (t, rest) → (s ≡ write_text t ++ rest) × TextFits t
    go zero after w h q =
        let f : ◌≡◌ {A = Option (Option (List ℕ) × List ℕ)} (Some (None, after)) (Some (t, rest)) = q in
        rw (← (pair_is f).0, ← (pair_is f).1) (w, tt)
    go (suc n) after w h q =
        by_test (both (leb (2 * n) (length after)) (none_zero (halves (take (2 * n) after))))
        (λ c.
        let f : ◌≡◌ {A = Option (Option (List ℕ) × List ℕ)} (Some (Some (halves (take (2 * n) after)), drop (2 * n) after)) (Some (t, rest)) = rw c at q in
        let b = units_back n after h (bytes_after s (written (suc n)) after w bytes)
        (leb-true (2 * n) (length after) (both_left _ (none_zero (halves (take (2 * n) after))) c))
        (both_right (leb (2 * n) (length after)) _ c) in
        rw (← (pair_is f).0, ← (pair_is f).1) (w ∙ b.0, b.1))
        (λ c. absurd (none≢some (rw c at q)))

-- a row
row_written : (r : Row) (rest : List ℕ) → RowFits r → row (write_row r ++ rest) ≡ Some (r, rest)
unfolding row
row_written r rest fits =
    simp append_assoc
    (rw (
      number_written key_most r.key _ fits.key (omega arith),
      number_written number_most r.language _ fits.language (omega arith),
      number_written number_most r.default _ fits.default (omega arith),
      text_written r.label _ fits.label,
      text_written r.note rest fits.note,
    ))

joined : (r : Row) (s s₁ s₂ s₃ s₄ rest : List ℕ) → s ≡ written r.key ++ s₁ → s₁ ≡ written r.language ++ s₂ → s₂ ≡ written r.default ++ s₃
    → s₃ ≡ write_text r.label ++ s₄ → s₄ ≡ write_text r.note ++ rest → s ≡ write_row r ++ rest
joined r s s₁ s₂ s₃ s₄ rest e₁ e₂ e₃ e₄ e₅ = rw (e₁, e₂, e₃, e₄, e₅) (simp append_assoc)

fields_back : (k l d : ℕ) (a b : Option (List ℕ)) (s s₁ s₂ s₃ s₄ s₅ : List ℕ) → Bytes s → number key_most s ≡ Some (k, s₁) → number number_most s₁ ≡ Some (l, s₂)
    → number number_most s₂ ≡ Some (d, s₃) → text s₃ ≡ Some (a, s₄) → text s₄ ≡ Some (b, s₅)
    → (s ≡ write_row (record { key = k; language = l; default = d; label = a; note = b }) ++ s₅) × RowFits (record { key = k; language = l; default = d; label = a; note = b })
fields_back k l d a b s s₁ s₂ s₃ s₄ s₅ bytes e₁ e₂ e₃ e₄ e₅ =
    let k' = number_read key_most s k s₁ (omega arith) bytes e₁ in
    let bytes₁ = bytes_after s (written k) s₁ k'.0 bytes in
    let l' = number_read number_most s₁ l s₂ (omega arith) bytes₁ e₂ in
    let bytes₂ = bytes_after s₁ (written l) s₂ l'.0 bytes₁ in
    let d' = number_read number_most s₂ d s₃ (omega arith) bytes₂ e₃ in
    let bytes₃ = bytes_after s₂ (written d) s₃ d'.0 bytes₂ in
    let a' = text_back s₃ a s₄ bytes₃ e₄ in
    let b' = text_back s₄ b s₅ (bytes_after s₃ (write_text a) s₄ a'.0 bytes₃) e₅ in (
      joined (record { key = k; language = l; default = d; label = a; note = b }) s s₁ s₂ s₃ s₄ s₅ k'.0 l'.0 d'.0 a'.0 b'.0,
      record { key = k'.1; language = l'.1; default = d'.1; label = a'.1; note = b'.1 },
    )

row_back : (s : List ℕ) (r : Row) (rest : List ℕ) → Bytes s → row s ≡ Some (r, rest) → (s ≡ write_row r ++ rest) × RowFits r
unfolding row
row_back s r rest bytes e =
    let k = then_inv (number key_most s) _ (r, rest) e in
    let l = then_inv (number number_most k.0.1) _ (r, rest) k.2 in
    let d = then_inv (number number_most l.0.1) _ (r, rest) l.2 in
    let a = then_inv (text d.0.1) _ (r, rest) d.2 in
    let b = then_inv (text a.0.1) _ (r, rest) a.2 in
    told k.0.0 l.0.0 d.0.0 a.0.0 b.0.0 b.0.1 b.2
    (fields_back k.0.0 l.0.0 d.0.0 a.0.0 b.0.0 s k.0.1 l.0.1 d.0.1 a.0.1 b.0.1 bytes k.1 l.1 d.1 a.1 b.1)
  where
    told : (k l d : ℕ) (a b : Option (List ℕ)) (s₅ : List ℕ)
        → ◌≡◌ {A = Option (Row × List ℕ)} (Some (record { key = k; language = l; default = d; label = a; note = b }, s₅)) (Some (r, rest))
        → (s ≡ write_row (record { key = k; language = l; default = d; label = a; note = b }) ++ s₅) × RowFits (record { key = k; language = l; default = d; label = a; note = b })
        → (s ≡ write_row r ++ rest) × RowFits r
    told k l d a b s₅ q w =
        subst (λ (p : Row × List ℕ). (s ≡ write_row p.0 ++ p.1) × RowFits p.0) (some_is q) w

-- rows, one after the other
rows_written : (rs : List Row) (rest : List ℕ) → RowsFit rs → rows (length rs) (write_rows rs ++ rest) ≡ Some (rs, rest)
unfolding rows write_rows RowsFit
rows_written [] rest fits = refl
rows_written (r ∷ rs) rest fits =
    rw (append_assoc (write_row r) (write_rows rs) rest, row_written r (write_rows rs ++ rest) fits.0, rows_written rs rest fits.1)

rows_back : (n : ℕ) (s : List ℕ) (rs : List Row) (rest : List ℕ) → Bytes s → rows n s ≡ Some (rs, rest)
    → (s ≡ write_rows rs ++ rest) × RowsFit rs × (length rs ≡ n)
unfolding rows write_rows RowsFit
rows_back zero s rs rest bytes e = subst (λ (p : List Row × List ℕ). (s ≡ write_rows p.0 ++ p.1) × RowsFit p.0 × (length p.0 ≡ 0)) (some_is e) (refl, tt, refl)
rows_back (suc n) s rs rest bytes e =
    let f = then_inv (row s) _ (rs, rest) e in
    let g = then_inv (rows n f.0.1) _ (rs, rest) f.2 in
    let r' = row_back s f.0.0 f.0.1 bytes f.1 in
    let rs' = rows_back n f.0.1 g.0.0 g.0.1 (bytes_after s (write_row f.0.0) f.0.1 r'.0 bytes) g.1 in
    told f.0.0 f.0.1 g.0.0 g.0.1 r' rs' g.2
  where
    told : (r : Row) (s₁ : List ℕ) (others : List Row) (s₂ : List ℕ) → (s ≡ write_row r ++ s₁) × RowFits r
        → (s₁ ≡ write_rows others ++ s₂) × RowsFit others × (length others ≡ n)
        → ◌≡◌ {A = Option (List Row × List ℕ)} (Some (r ∷ others, s₂)) (Some (rs, rest))
        → (s ≡ write_rows rs ++ rest) × RowsFit rs × (length rs ≡ suc n)
    told r s₁ others s₂ a b q =
        subst (λ (p : List Row × List ℕ). (s ≡ write_rows p.0 ++ p.1) × RowsFit p.0 × (length p.0 ≡ suc n)) (some_is q)
        (a.0 ∙ ap (λ (t : List ℕ). write_row r ++ t) b.0 ∙ sym (append_assoc (write_row r) (write_rows others) s₂), (a.1, b.1), ap suc b.2)

-- the whole: rows that fit parse back from what is written of them
pub parses_written : (rs : List Row) → Fits rs → catalogue (write rs) ≡ Some rs
unfolding catalogue
parses_written rs fits =
    rw (
      le-leb (length (write rs)) bytes_most fits.size,
      number_written rows_most (length rs) (write_rows rs) fits.count (omega arith),
      ← (append-nil (write_rows rs)),
      rows_written rs [] fits.each,
    )

whole_back : (rs : List Row) (rest : List ℕ) (told : List Row) → whole rs rest ≡ Some told → (rest ≡ []) × (rs ≡ told)
whole_back rs [] told e = (refl, some_is e)
whole_back rs (b ∷ rest) told e = absurd (none≢some e)

-- and bytes that parse are what is written of the rows they parse to, which fit
pub written_parses : (s : List ℕ) (rs : List Row) → Bytes s → catalogue s ≡ Some rs → (s ≡ write rs) × Fits rs
unfolding catalogue
written_parses s rs bytes e =
    by_test (leb (length s) bytes_most)
    (λ q.
    let n = then_inv (number rows_most s) _ rs (rw q at e) in
    let m = then_inv (rows n.0.0 n.0.1) _ rs n.2 in
    go q n.0.0 n.0.1 m.0.0 m.0.1 n.1 m.1 m.2)
    (λ q. absurd (none≢some (rw q at e)))
  where
    go : leb (length s) bytes_most ≡ true → (n : ℕ) (s₁ : List ℕ) (found : List Row) (s₂ : List ℕ) → number rows_most s ≡ Some (n, s₁)
        → rows n s₁ ≡ Some (found, s₂) → whole found s₂ ≡ Some rs → (s ≡ write rs) × Fits rs
    go q n s₁ found s₂ a b w =
        let n' = number_read rows_most s n s₁ (omega arith) bytes a in
        let r' = rows_back n s₁ found s₂ (bytes_after s (written n) s₁ n'.0 bytes) b in
        let w' = whole_back found s₂ rs w in
        let count : length rs ≡ n = ap length (sym w'.1) ∙ r'.2 in
        let each : write_rows found ++ s₂ ≡ write_rows rs = ap₂ (λ (f : List Row) (t : List ℕ). write_rows f ++ t) w'.1 w'.0 ∙ append-nil (write_rows rs) in
        let same : s ≡ write rs = n'.0 ∙ ap₂ (λ (m : ℕ) (t : List ℕ). written m ++ t) (sym count) (r'.0 ∙ each) in (
          same,
          record {
            count = omega (arith, n'.1);
            each = subst RowsFit w'.1 r'.1;
            size = subst (λ (t : List ℕ). length t ≤ bytes_most) same (leb-true (length s) bytes_most q);
          },
        )
