-- A whole reply: every span in use lies inside it and no two meet, so that each is read back, every other byte is zero, and
-- those past its end are as they were. Assumes nothing.
use mathlib.Core.Path.{◌≡◌, sym, ap, ◌∙◌}
use mathlib.Core.Bool.{true}
use mathlib.Core.List.{List, [], ◌∷◌, ◌++◌}
use mathlib.Core.Logic.{inl, inr}
use Prim.Native.Nat.{ℕ, suc, ◌+◌, ◌*◌, ◌≤◌, ◌<◌}
use native.Mathlib.Omega.{arith}
use lib.ListN.{length, get_or, drop, replicate, length-append, length-drop, length-replicate, get_or-replicate, get_or-append}
use lib.Seq.{get_or-append-add, get_or-drop}
use Rattle.catalogue.specs.Plain.{Row}
use Rattle.bindings.specs.Fit.{fit}
use Rattle.bindings.specs.declared.Column.{Column}
use Rattle.wire.specs.Word.{le}
use Rattle.lists.specs.Each.{Each, Pairwise}
use Rattle.wire.specs.Laid.{Laid, end_of, Inside, Clear, Outside, cleared, four_words, header, lays}
use Rattle.lists.specs.Parts.{part}
use Rattle.wire.proofs.Lays.{each_map, lays_length, lays_outside, lays_read, lays_front}
use Rattle.page.specs.Rows.{all_blocks, rows_spans}
use Rattle.page.specs.Page.{page_spans, page_bytes, page}
use Rattle.wire.specs.Header.{get_rows_msg}
use Rattle.page.specs.RowReady.{needed}
use Rattle.page.proofs.FillSteps.{needs_are}
use Rattle.page.proofs.Parts.{good}
use Rattle.page.proofs.Lie.{rows_lie, rows_clear}

-- a statement of each index is one of each member
each_by_index : {A : Type 0} (P : A → Type 0) (d : A) (s : List A) → ((i : ℕ) → i < length s → P (get_or s i d)) → Each P s
unfolding Each
each_by_index P d [] f = tt
each_by_index P d (a ∷ s) f = (f 0 (omega arith), each_by_index P d s (λ i h. f (suc i) (omega arith)))

-- the first n bytes zero
module _ (size : ℕ) (t : List ℕ) where
  cleared_length : size ≤ length t → length (cleared size t) ≡ length t
  cleared_length h = omega (arith, length-append (replicate size 0) (drop size t), length-replicate {A = ℕ} size 0, length-drop size t)

  cleared_zero : (i : ℕ) → i < size → get_or (cleared size t) i 0 ≡ 0
  cleared_zero i h =
      get_or-append (replicate size 0) (drop size t) 0 i (omega (arith, length-replicate {A = ℕ} size 0)) ∙ get_or-replicate size i 0 0 h

  cleared_past : (i : ℕ) → get_or (cleared size t) (size + i) 0 ≡ get_or t (size + i) 0
  cleared_past i =
      ap (λ (n : ℕ). get_or (replicate size 0 ++ drop size t) (n + i) 0) (sym (length-replicate size 0))
      ∙ get_or-append-add (replicate size 0) (drop size t) i 0
      ∙ get_or-drop size t i 0

module _ (size from width base status : ℕ) (columns : List Column) (rows : List Row) (fits : fit width columns ≡ true) (head : 32 ≤ from)
    (room : from + length rows * width + all_blocks columns rows ≤ size) where
  needed_fits : from + needed width columns rows ≤ size
  needed_fits = omega (arith, needs_are width columns rows)

  -- "all spans in use lie inside the reply"
  pub page_inside : Each (Inside size) (page_spans size from width base status columns rows)
  unfolding Each le
  page_inside = (
    omega arith,
    (
      omega arith,
      each_map (λ a. (from ≤ a.place) × (end_of a ≤ size)) (Inside size) (rows_spans base width from size columns rows) (λ a p. p.1)
          (rows_lie base width columns (good width columns fits) rows from size needed_fits),
    ),
  )

  -- "and no two meet"
  pub page_clear : Pairwise Clear (page_spans size from width base status columns rows)
  unfolding Each Pairwise le
  page_clear = (
    (inl (omega arith), after (header get_rows_msg status) (omega arith)),
    (
      after (record { place = 16; bytes = four_words (length rows) 1 0 0 }) (omega arith),
      rows_clear base width columns (good width columns fits) rows from size needed_fits,
    ),
  )
    where
      after : (a : Laid) → end_of a ≤ 32 → Each (Clear a) (rows_spans base width from size columns rows)
      after a h =
          each_map (λ b. (from ≤ b.place) × (end_of b ≤ size)) (Clear a) (rows_spans base width from size columns rows) (λ b p. inl (omega arith))
          (rows_lie base width columns (good width columns fits) rows from size needed_fits)

  in_reply : Each (Inside (length {A = ℕ} (replicate size 0))) (page_spans size from width base status columns rows)
  in_reply =
      each_map (Inside size) (Inside (length {A = ℕ} (replicate size 0))) (page_spans size from width base status columns rows)
      (λ a h. omega (arith, length-replicate {A = ℕ} size 0)) page_inside

  -- "The reply is B bytes", and a buffer has it before the bytes that are unchanged
  pub bytes_length : length (page_bytes size from width base status columns rows) ≡ size
  unfolding page_bytes
  bytes_length = lays_length (replicate size 0) (page_spans size from width base status columns rows) in_reply ∙ length-replicate size 0

  pub page_is : (t : List ℕ) → page size from width base status columns rows t ≡ page_bytes size from width base status columns rows ++ drop size t
  unfolding page page_bytes
  page_is t = lays_front (replicate size 0) (drop size t) (page_spans size from width base status columns rows) in_reply

  module _ (t : List ℕ) (long : size ≤ length t) where
    pub in_buffer : Each (Inside (length (cleared size t))) (page_spans size from width base status columns rows)
    in_buffer =
        each_map (Inside size) (Inside (length (cleared size t))) (page_spans size from width base status columns rows)
        (λ a h. omega (arith, cleared_length size t long)) page_inside

    -- each span is read back
    pub page_reads : Each (λ a. part (page size from width base status columns rows t) a.place (length a.bytes) ≡ a.bytes) (page_spans size from width base status columns rows)
    unfolding page
    page_reads =
        each_by_index (λ a. part (lays (cleared size t) (page_spans size from width base status columns rows)) a.place (length a.bytes) ≡ a.bytes)
        (record { place = 0; bytes = [] })
        (page_spans size from width base status columns rows)
        (lays_read (cleared size t) (page_spans size from width base status columns rows) (record { place = 0; bytes = [] }) in_buffer page_clear)

    -- "All bytes not named are zero; those past B are unchanged"
    pub page_zero : (i : ℕ) → i < size → Each (Outside i) (page_spans size from width base status columns rows) → get_or (page size from width base status columns rows t) i 0 ≡ 0
    unfolding page
    page_zero i h o = lays_outside (cleared size t) (page_spans size from width base status columns rows) i in_buffer o ∙ cleared_zero size t i h

    pub page_past : (i : ℕ) → get_or (page size from width base status columns rows t) (size + i) 0 ≡ get_or t (size + i) 0
    unfolding page
    page_past i =
        lays_outside (cleared size t) (page_spans size from width base status columns rows) (size + i) in_buffer
        (each_map (Inside size) (Outside (size + i)) (page_spans size from width base status columns rows) (λ a h. inr (omega arith)) page_inside)
        ∙ cleared_past size t i
