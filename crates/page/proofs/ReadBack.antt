-- Each status, length, number and text of a reply is read back at its bound place. Assumes nothing.
use mathlib.Core.Path.{◌≡◌, refl, sym, ap, ◌∙◌}
use mathlib.Core.Bool.{true}
use mathlib.Core.List.{List, [], ◌∷◌, ◌++◌, append_assoc}
use Prim.Native.Nat.{ℕ, ◌+◌, ◌*◌, ◌^◌, ◌≤◌, ◌<◌}
use native.Mathlib.Nat.{add-zero}
use native.Mathlib.Omega.{arith}
use borrow.Author.Tests.{eq-eqb, eqb-true}
use lib.Dec.{eqb}
use lib.ListN.{length, get_or, drop, replicate, length-append}
use lib.Seq.{get_or-take, get_or-drop}
use Rattle.wire.specs.Word.{le, number_at}
use Rattle.lists.proofs.Below.{by_test}
use Rattle.catalogue.specs.Plain.{Row, row_in}
use Rattle.wire.specs.Property.{variant_type, variant_size, length_size}
use Rattle.bindings.specs.Fit.{fit}
use Rattle.bindings.specs.Sound.{column}
use Rattle.bindings.specs.declared.Column.{Column}
use Rattle.lists.specs.Each.{Each}
use Rattle.wire.specs.Laid.{Laid}
use Rattle.lists.specs.Parts.{part, zeros}
use Rattle.wire.proofs.Little.{le_length, read_number}
use Rattle.page.specs.Field.{Field, number, text, absent, field_of}
use Rattle.page.specs.Cell.{offset_width, length_of, kind_of, content_of, variant, variant_of, cell_of, column_spans}
use Rattle.page.proofs.Units.{block_length}
use Rattle.page.specs.Rows.{all_blocks, rows_spans}
use Rattle.page.specs.Page.{head_spans, page}
use Rattle.page.specs.Reads.{row_place, block_place, Held, number_place, Reads}
use Rattle.page.proofs.Inner.{inner, inner_number}
use Rattle.page.proofs.Pick.{each_right, of_block, of_cells, of_reply}
use Rattle.page.proofs.Reply.{page_reads}

-- a span is read back
abbrev Back : List ℕ → Laid → Type 0
Back u a = part u a.place (length a.bytes) ≡ a.bytes

one_byte : (u : List ℕ) (at v : ℕ) → part u at 1 ≡ v ∷ [] → get_or u at 0 ≡ v
one_byte u at v e =
    ap (λ (k : ℕ). get_or u k 0) (sym (add-zero at))
    ∙ sym (get_or-take 1 (drop at u) 0 0 (omega arith) ∙ get_or-drop at u 0 0)
    ∙ ap (λ (l : List ℕ). get_or l 0 0) e

length_held : (property : ℕ) (f : Field) → Held f → length_of property f < 256 ^ 4
length_held property (number v) h = omega arith
length_held property (text units) h = h
length_held property absent h = omega arith

kind_held : (property : ℕ) (f : Field) → kind_of property f < 256 ^ 2
kind_held property (number v) = omega arith
kind_held property (text units) = omega arith
kind_held property absent = omega arith

-- a cell of sixteen bytes by its type and number, also where the text is absent
variant_is : (property offset : ℕ) (f : Field) → variant_of property offset f ≡ variant (kind_of property f) 4 (content_of offset f)
unfolding le
variant_is property offset (number v) = refl
variant_is property offset (text units) = refl
variant_is property offset absent = refl

cell_is : (property type offset : ℕ) (f : Field) → type ≡ variant_type
    → cell_of property type offset f ≡ variant (kind_of property f) 4 (content_of offset f)
cell_is property type offset f e = rw (eq-eqb type variant_type e) (variant_is property offset f)

module _ (u : List ℕ) (at n property type offset : ℕ) (f : Field) (is : type ≡ variant_type) (e : part u at n ≡ cell_of property type offset f) where
  cell_type : number_at 2 u at ≡ kind_of property f
  cell_type =
      ap (number_at 2 u) (sym (add-zero at))
      ∙ inner_number u at n 2 (kind_of property f) [] (replicate 6 0 ++ (le 4 (content_of offset f) ++ replicate 4 0)) (kind_held property f)
      (e ∙ cell_is property type offset f is)

  cell_number : content_of offset f < 256 ^ 4 → number_at 4 u (at + 8) ≡ content_of offset f
  cell_number h =
      ap (λ (k : ℕ). number_at 4 u (at + k)) (sym eight)
      ∙ inner_number u at n 4 (content_of offset f) (le 2 (kind_of property f) ++ replicate 6 0) (replicate 4 0) h
      (e ∙ cell_is property type offset f is ∙ sym (append_assoc (le 2 (kind_of property f)) (replicate 6 0) (le 4 (content_of offset f) ++ replicate 4 0)))
    where
      eight : length (le 2 (kind_of property f) ++ replicate 6 0) ≡ 8
      eight = omega (arith, length-append (le 2 (kind_of property f)) (replicate 6 0), le_length 2 (kind_of property f))

  -- all other bytes are zero
  cell_blank : part u (at + 2) 6 ≡ zeros 6
  cell_blank =
      ap (λ (k : ℕ). part u (at + k) 6) (sym (le_length 2 (kind_of property f)))
      ∙ inner u at n (le 2 (kind_of property f)) (zeros 6) (le 4 (content_of offset f) ++ zeros 4) (e ∙ cell_is property type offset f is)

  cell_rest : part u (at + 12) 4 ≡ zeros 4
  unfolding le
  cell_rest =
      inner u at n (le 2 (kind_of property f) ++ (zeros 6 ++ le 4 (content_of offset f))) (zeros 4) []
      (e ∙ cell_is property type offset f is)

cell_nothing : (u : List ℕ) (at property type offset : ℕ) → type ≡ variant_type
    → part u at (length (cell_of property type offset absent)) ≡ cell_of property type offset absent → part u at variant_size ≡ zeros variant_size
cell_nothing u at property type offset is e = rw (eq-eqb type variant_type is) at e

-- a number in its cell, of either kind
cell_value : (u : List ℕ) (at n property offset v : ℕ) (c : Column) → v < 256 ^ 4 → part u at n ≡ cell_of property c.vtype offset (number v) → n ≡ length (cell_of property c.vtype offset (number v))
    → number_at 4 u (at + number_place c) ≡ v
cell_value u at n property offset v c h e l =
    by_test (eqb c.vtype variant_type)
    (λ q. rw q (cell_number u at n property c.vtype offset (number v) (eqb-true c.vtype variant_type q) e h))
    (λ q.
    let m : n ≡ length (le 4 v) = rw q at l in
    let k : part u at n ≡ le 4 v = rw q at e in
    rw (q, add-zero at) (read_number u 4 at v h (ap (λ (i : ℕ). part u at i) (sym (m ∙ le_length 4 v)) ∙ k)))

module _ (size from width base status : ℕ) (columns : List Column) (rows : List Row) (fits : fit width columns ≡ true) (head : 32 ≤ from)
    (room : from + length rows * width + all_blocks columns rows ≤ size) (offset : base + size < 256 ^ offset_width) (t : List ℕ) (long : size ≤ length t) where
  pub reads_back : (j k : ℕ) → j < length rows → k < length columns → Held (field_of (column columns k).property (row_in rows j))
      → Reads
      (page size from width base status columns rows t)
      base
      (row_place from width j)
      (block_place size columns rows j k)
      (column columns k)
      (field_of (column columns k).property (row_in rows j))
  reads_back j k h l held =
      let c : Column = column columns k in
      let r : Row = row_in rows j in
      let f : Field = field_of c.property r in
      let u : List ℕ = page size from width base status columns rows t in
      let row : ℕ = row_place from width j in
      let place : ℕ = block_place size columns rows j k in
      let all : Each (Back u) (column_spans base row place c r)
      = of_reply (Back u) base width from size j k columns rows h l
      (each_right (Back u) (head_spans status (length rows)) (rows_spans base width from size columns rows) (page_reads size from width base status columns rows fits head room t long)) in
      let cells = of_cells (Back u) base row place c r all in
      record {
        status = λ w. one_byte u (row + c.status.offset) _ (cells.status w);
        length = λ w.
            read_number u length_size (row + c.length.offset) (length_of c.property f) (length_held c.property f held)
            (ap (λ (i : ℕ). part u (row + c.length.offset) i) (sym (le_length length_size (length_of c.property f))) ∙ cells.length w);
        type = λ w v.
            cell_type u (row + c.value.offset) (length (cell_of c.property c.vtype (base + place) f)) c.property c.vtype (base + place) f v (cells.value w);
        value = λ w v e.
            cell_value u (row + c.value.offset) (length (cell_of c.property c.vtype (base + place) (number v))) c.property (base + place) v c (rw e at held) (rw e at (cells.value w)) refl;
        offset = λ w v units e.
            cell_number u (row + c.value.offset) (length (cell_of c.property c.vtype (base + place) (text units))) c.property c.vtype (base + place) (text units) v (rw e at (cells.value w)) (omega (arith, offset));
        blank = λ w v. cell_blank u (row + c.value.offset) (length (cell_of c.property c.vtype (base + place) f)) c.property c.vtype (base + place) f v (cells.value w);
        rest = λ w v. cell_rest u (row + c.value.offset) (length (cell_of c.property c.vtype (base + place) f)) c.property c.vtype (base + place) f v (cells.value w);
        nothing = λ w v e. cell_nothing u (row + c.value.offset) c.property c.vtype (base + place) v (rw e at (cells.value w));
        block = λ w units e.
            ap (λ (i : ℕ). part u place i) (sym (block_length units)) ∙ of_block (Back u) base row place c r all w units e;
      }
