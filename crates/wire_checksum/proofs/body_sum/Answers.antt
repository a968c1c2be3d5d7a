-- The loop's invariant: the sum is that of the words passed; what is left is one short word, or none. Assumes nothing.
use borrow.Author.Rules.{rules}
use mathlib.Core.Path.{◌≡◌, ap, ◌∙◌}
use mathlib.Core.List.{List, []}
use Prim.Native.Nat.{ℕ, ◌*◌, ◌/◌, ◌<◌}
use native.Mathlib.Omega.{arith}
use lib.ListN.{length, get_or}
use Rattle.std.specs.Int.{w32, from_le_bytes}
use Rattle.wire.specs.Word.{number_at}
use Rattle.wire.specs.Checksum.{sum_of_words}
use Rattle.wire.proofs.Sums.{sum_more, sum_rest, chunk_at, word_of}
use Rattle.wire_checksum.proofs.body_sum.Goals as goal

pub loop-word-init : goal.loop-word-init
unfolding sum_of_words
loop-word-init c = search rules

pub loop-word-preserved : goal.loop-word-preserved
loop-word-preserved c =
    let s = c.args.body.now in
    let k = c.loop-word.word-index in
    let below : k < length s / 4 = omega (arith, c.as_chunks.ensures.front_len) in
    let row = ap (λ (ws : List (List ℕ)). get_or ws k []) c.as_chunks.ensures.front ∙ chunk_at k (length s / 4) s below in
    let read : c.from_le_bytes.result ≡ number_at 4 s (4 * k) = c.from_le_bytes.ensures ∙ ap (from_le_bytes w32) row ∙ word_of s (4 * k) in
    (omega arith, omega (arith, sum_more k s))

pub returns : goal.returns
returns c =
    let s = c.args.body.now in
    let through : c.loop-word.word-index ≡ length s / 4 = omega (arith, c.as_chunks.ensures.front_len) in
    omega (
      arith,
      sum_rest s,
      ap (λ (n : ℕ). sum_of_words n s) through,
      ap (λ (t : List ℕ). number_at 4 t 0) c.as_chunks.ensures.back,
    )
