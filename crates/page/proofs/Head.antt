-- The words before the rows are read back, and rows of a catalogue have fields that cells hold. Assumes nothing.
use mathlib.Core.Path.{◌≡◌, sym, ◌∙◌}
use mathlib.Core.Bool.{true}
use mathlib.Core.List.{List, [], ◌++◌, append-nil}
use Prim.Native.Nat.{ℕ, ◌+◌, ◌*◌, ◌^◌, ◌≤◌, ◌<◌}
use native.Mathlib.Omega.{arith}
use lib.ListN.{length}
use Rattle.wire.specs.Word.{le, number_at}
use Rattle.catalogue.specs.CataloguePlaces.{row_seen, fields_seen}
use Rattle.catalogue.specs.Plain.{Row}
use Rattle.bindings.specs.Fit.{fit}
use Rattle.bindings.specs.declared.Column.{Column}
use Rattle.lists.specs.Each.{Each}
use Rattle.wire.specs.Laid.{four_words}
use Rattle.lists.specs.Parts.{part}
use Rattle.page.specs.Field.{field_of}
use Rattle.catalogue.proofs.RowLaws.{seen_stand, seen_row_lem}
use Rattle.page.proofs.Fields.{field_held}
use Rattle.page.specs.Rows.{all_blocks}
use Rattle.page.specs.Page.{page}
use Rattle.wire.specs.Header.{get_rows_msg}
use Rattle.page.specs.Reads.{Held, HeadReads}
use Rattle.page.proofs.Inner.{first_word, other_words}
use Rattle.page.proofs.Reply.{page_reads}

pub held_seen : (s : List ℕ) (at property : ℕ) → Held (field_of property (row_seen s at))
held_seen s at property = rw (← (seen_row_lem s at)) (field_held s property (fields_seen s at) (seen_stand s at))

-- four words in a row
four_read : (u : List ℕ) (n at a b c d : ℕ) → a < 256 ^ 4 → b < 256 ^ 4 → c < 256 ^ 4 → d < 256 ^ 4 → part u at n ≡ four_words a b c d
    → (number_at 4 u at ≡ a) × (number_at 4 u (at + 4) ≡ b) × (number_at 4 u (at + 4 + 4) ≡ c) × (number_at 4 u (at + 4 + 4 + 4) ≡ d)
four_read u n at a b c d ha hb hc hd e =
    let e₂ = other_words u n at a (le 4 b ++ (le 4 c ++ le 4 d)) e in
    let e₃ = other_words u (length (le 4 b ++ (le 4 c ++ le 4 d))) (at + 4) b (le 4 c ++ le 4 d) e₂ in
    let e₄ = other_words u (length (le 4 c ++ le 4 d)) (at + 4 + 4) c (le 4 d) e₃ in (
      first_word u n at a (le 4 b ++ (le 4 c ++ le 4 d)) e ha,
      first_word u (length (le 4 b ++ (le 4 c ++ le 4 d))) (at + 4) b (le 4 c ++ le 4 d) e₂ hb,
      first_word u (length (le 4 c ++ le 4 d)) (at + 4 + 4) c (le 4 d) e₃ hc,
      first_word u (length (le 4 d)) (at + 4 + 4 + 4) d [] (e₄ ∙ sym (append-nil (le 4 d))) hd,
    )

module _ (size from width base status : ℕ) (columns : List Column) (rows : List Row) (fits : fit width columns ≡ true) (head : 32 ≤ from)
    (room : from + length rows * width + all_blocks columns rows ≤ size) (t : List ℕ) (long : size ≤ length t) where
  pub head_reads : status < 256 ^ 4 → length rows < 256 ^ 4 → HeadReads (page size from width base status columns rows t) status (length rows)
  unfolding Each
  head_reads hs hr =
      let u : List ℕ = page size from width base status columns rows t in
      let all = page_reads size from width base status columns rows fits head room t long in
      let a = four_read u (length (four_words get_rows_msg status 0 0)) 0 get_rows_msg status 0 0 (omega arith) hs (omega arith) (omega arith) all.0 in
      let b = four_read u (length (four_words (length rows) 1 0 0)) 16 (length rows) 1 0 0 hr (omega arith) (omega arith) (omega arith) all.1.0 in
      record {
        message = a.0;
        result = a.1;
        checksum = a.2;
        reserved = a.3;
        count = b.0;
        seek = b.1;
        chapter = b.2;
        skip = b.3;
      }
