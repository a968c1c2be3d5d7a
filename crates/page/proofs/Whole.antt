-- The whole reply, written in four steps: zeros, the rows, four words, the header. The head may be laid after the rows, since it
-- is clear of them. Assumes nothing.
use mathlib.Core.Path.{◌≡◌, ap, ◌∙◌}
use mathlib.Core.Bool.{true}
use mathlib.Core.List.{List, ◌∷◌}
use Prim.Native.Nat.{ℕ, ◌+◌, ◌-◌, ◌*◌, ◌≤◌}
use native.Mathlib.Omega.{arith}
use lib.ListN.{length, take}
use lib.Seq.{length-take-le}
use Rattle.catalogue.specs.Plain.{Row}
use Rattle.bindings.specs.Fit.{fit}
use Rattle.bindings.specs.declared.Column.{Column}
use Rattle.lists.specs.Each.{Each, Pairwise}
use Rattle.wire.specs.Laid.{Laid, lay, lays, cleared, four_words, header}
use Rattle.wire.proofs.Lays.{lays_past}
use Rattle.page.specs.Rows.{all_blocks, returned, rows_spans}
use Rattle.page.specs.Page.{page}
use Rattle.wire.specs.Header.{get_rows_msg}
use Rattle.page.proofs.Greatest.{returned_is, returned_room}
use Rattle.page.proofs.Reply.{page_clear, in_buffer}

module _ (size from width base status : ℕ) (columns : List Column) (rows : List Row) (fits : fit width columns ≡ true) (head : 32 ≤ from)
    (room : from + length rows * width + all_blocks columns rows ≤ size) (t : List ℕ) (long : size ≤ length t) where
  page_laid : (u₁ u₂ u₃ u₄ : List ℕ) → u₁ ≡ cleared size t → u₂ ≡ lays u₁ (rows_spans base width from size columns rows)
      → u₃ ≡ lay u₂ 16 (four_words (length rows) 1 0 0) → u₄ ≡ lay u₃ 0 (header get_rows_msg status).bytes
      → u₄ ≡ page size from width base status columns rows t
  unfolding page Each Pairwise
  page_laid u₁ u₂ u₃ u₄ e₁ e₂ e₃ e₄ =
      let inside = in_buffer size from width base status columns rows fits head room t long in
      let clear = page_clear size from width base status columns rows fits head room in
      let spans : List Laid = rows_spans base width from size columns rows in
      e₄
      ∙ ap (λ (u : List ℕ). lay u 0 (header get_rows_msg status).bytes)
      (e₃
      ∙ ap (λ (u : List ℕ). lay u 16 (four_words (length rows) 1 0 0)) (e₂ ∙ ap (λ (u : List ℕ). lays u spans) e₁)
      ∙ lays_past (cleared size t) (record { place = 16; bytes = four_words (length rows) 1 0 0 }) spans inside.1.0 inside.1.1 clear.1.0)
      ∙ lays_past (cleared size t) (header get_rows_msg status) (record { place = 16; bytes = four_words (length rows) 1 0 0 } ∷ spans) inside.0 inside.1 clear.0

-- with the rows that are returned, and the status by what then remains
pub page_whole : (size from width base asked : ℕ) (columns : List Column) (all : List Row) → fit width columns ≡ true → 32 ≤ from → from ≤ size
    → (t : List ℕ) → size ≤ length t → (k status : ℕ) → k ≡ returned width columns asked (size - from) all
    → (u₁ u₂ u₃ u₄ : List ℕ) → u₁ ≡ cleared size t → u₂ ≡ lays u₁ (rows_spans base width from size columns (take k all))
    → u₃ ≡ lay u₂ 16 (four_words k 1 0 0) → u₄ ≡ lay u₃ 0 (header get_rows_msg status).bytes
    → u₄ ≡ page size from width base status columns (take k all) t
page_whole size from width base asked columns all fits head inside t long k status e u₁ u₂ u₃ u₄ e₁ e₂ e₃ e₄ =
    page_laid size from width base status columns (take k all) fits head room t long u₁ u₂ u₃ u₄ e₁ e₂
    (e₃ ∙ ap (λ (n : ℕ). lay u₂ 16 (four_words n 1 0 0)) sent)
    e₄
  where
    few : k ≤ length all
    few = omega (arith, e, (returned_is size from width columns asked all inside).left)

    sent : k ≡ length (take k all)
    sent = omega (arith, length-take-le k all few)

    room : from + length (take k all) * width + all_blocks columns (take k all) ≤ size
    room = rw e (returned_room size from width columns asked all inside)
