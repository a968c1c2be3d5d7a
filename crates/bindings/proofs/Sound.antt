-- Bindings that pass are sound. Assumes nothing.
use mathlib.Core.Path.{◌≡◌}
use mathlib.Core.Bool.{true}
use mathlib.Core.List.{List}
use mathlib.Core.Logic.{◌⊎◌, inl, inr, ⊎_elim}
use Prim.Native.Nat.{ℕ, ◌+◌, ◌*◌, ◌≤◌, ◌<◌}
use native.Mathlib.Omega.{arith}
use borrow.Author.Tests.{leb-true, ltb-true, ltb-false, eqb-true, eqb-false, eq-eqb, not-true}
use lib.Dec.{leb, ltb}
use lib.ListN.{length}
use Rattle.lists.specs.Below.{both, within}
use Rattle.lists.proofs.Below.{by_test, both_left, both_right}
use Rattle.lists.specs.Every.{every, pairwise}
use Rattle.bindings.specs.Column.{columns_most}
use Rattle.wire.specs.Property.{key_property, note_property, known, cell_size}
use Rattle.bindings.specs.Fit.{sized, column_fits, differ, spans_of, inside, apart, row_most, columns_fit, fit, span_of}
use Rattle.bindings.specs.Sound.{column, span, Holds, Sound}
use Rattle.bindings.specs.declared.Value.{Value}
use Rattle.bindings.specs.declared.Column.{Column}
use Rattle.bindings.specs.declared.Span.{Span}
use Rattle.bindings.proofs.Spans.{inside_none}
use Rattle.bindings.proofs.Parts.{every_part, pair_parts}
use Rattle.lists.proofs.Every.{all_three, every_index, pair_index}

range : (low high n : ℕ) → within low high n ≡ true → (low ≤ n) × (n ≤ high)
range low high n e =
    (leb-true low n (both_left (leb low n) (leb n high) e), leb-true n high (both_right (leb low n) (leb n high) e))

-- a column that fits: its property, its type, its size
pub parts : (c : Column) → column_fits c ≡ true
    → (known c.property ≡ true) × (ltb 0 (cell_size c.property c.vtype) ≡ true) × (sized (cell_size c.property c.vtype) c.value ≡ true)
parts c e = all_three (known c.property) (ltb 0 (cell_size c.property c.vtype)) (sized (cell_size c.property c.vtype) c.value) e

pub sized_used : (size : ℕ) (v : Value) → sized size v ≡ true → v.used ≡ 1 → v.size ≡ size
sized_used size v e u = eqb-true v.size size (rw (eq-eqb v.used 1 u) at e)

-- two spans of which one ends before the other begins have no byte in common
shares : (a b : Span) → apart a b ≡ true → (byte : ℕ) → Holds a byte → Holds b byte → ⊥
shares a b e byte h k =
    by_test (leb (a.place + a.size) b.place)
    (λ q. omega (arith, leb-true (a.place + a.size) b.place q))
    (λ q. omega (arith, leb-true (b.place + b.size) a.place (rw q at e)))

-- of two numbers that differ, one is below the other
pub either_way : (a b : ℕ) → (a ≡ b → ⊥) → (a < b) ⊎ (b < a)
either_way a b d = by_test (ltb a b) (λ q. inl (ltb-true a b q)) (λ q. inr (omega (arith, ltb-false a b q)))

-- the parts of the definition
pub fit_parts : (width : ℕ) (columns : List Column) → fit width columns ≡ true
    → (within 1 columns_most (length columns) ≡ true) × (within 1 row_most width ≡ true) × (columns_fit width columns ≡ true)
unfolding fit
fit_parts width columns e = all_three (within 1 columns_most (length columns)) (within 1 row_most width) (columns_fit width columns) e

pub columns_parts : (width : ℕ) (columns : List Column) → columns_fit width columns ≡ true
    → (every column_fits columns ≡ true) × (pairwise differ columns ≡ true) × (both (every (inside width) (spans_of columns)) (pairwise apart (spans_of columns)) ≡ true)
unfolding columns_fit
columns_parts width columns e =
    all_three (every column_fits columns) (pairwise differ columns) (both (every (inside width) (spans_of columns)) (pairwise apart (spans_of columns))) e

pub fit_sound : (width : ℕ) (columns : List Column) → fit width columns ≡ true → Sound width columns
fit_sound width columns e =
    let f = fit_parts width columns e in
    let p = columns_parts width columns f.2 in
    let lie = both_left (every (inside width) (spans_of columns)) (pairwise apart (spans_of columns)) p.2 in
    let clear = both_right (every (inside width) (spans_of columns)) (pairwise apart (spans_of columns)) p.2 in
    let each : (k : ℕ) → k < length columns → column_fits (column columns k) ≡ true = every_index column_fits columns _ p.0 in
    let size : ℕ → ℕ = λ k. cell_size (column columns k).property (column columns k).vtype in
    record {
      count = range 1 columns_most (length columns) f.0;
      row = range 1 row_most width f.1;
      known = λ k h. range key_property note_property (column columns k).property (parts (column columns k) (each k h)).0;
      once = λ j k h b. eqb-false (column columns j).property (column columns k).property (not-true _ (pair_index differ columns _ p.1 j k h b));
      typed = λ k h. ltb-true 0 (size k) (parts (column columns k) (each k h)).1;
      sized = λ k h. sized_used (size k) (column columns k).value (parts (column columns k) (each k h)).2;
      inside = λ i h. leb-true ((span columns i).place + (span columns i).size) width (every_index (inside width) (spans_of columns) _ lie i h);
      apart = λ i j h b. shares (span columns i) (span columns j) (pair_index apart (spans_of columns) _ clear i j h b);
      part_inside = λ k q h b.
          leb-true ((span_of (column columns k) q).place + (span_of (column columns k) q).size) width
          (every_part (inside width) (inside_none width) columns lie k q h b);
      parts_apart = λ j p k q h b m n d byte x y.
          ⊎_elim
          (λ l. shares (span_of (column columns j) p) (span_of (column columns k) q) (pair_parts columns clear j p k q l m b n) byte x y)
          (λ l. shares (span_of (column columns k) q) (span_of (column columns j) p) (pair_parts columns clear k q j p l h n b) byte y x)
          (either_way (3 * j + p) (3 * k + q) d);
    }
