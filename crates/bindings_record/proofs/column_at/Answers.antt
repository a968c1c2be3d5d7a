-- The words of the k-th chunk are those of the k-th record. Assumes nothing.
use Rattle.std.proofs.Common.{ℕ, ◌<◌, ◌/◌, length}
use native.Mathlib.Nat.{add-zero}
use native.Mathlib.Omega.{arith}
use Rattle.bindings.proofs.Records.{in_chunk}
use Rattle.bindings_record.proofs.column_at.Goals as goal

pub returns : goal.returns
returns c =
    let w = c.args.records.now in
    let word = λ (j : ℕ) (i : j < 9). in_chunk 9 (length w / 9) c.args.index j w (omega arith) i in
    rw (
      c.as_chunks.ensures.front,
      word 0 (omega arith),
      word 1 (omega arith),
      word 2 (omega arith),
      word 3 (omega arith),
      word 4 (omega arith),
      word 5 (omega arith),
      word 6 (omega arith),
      word 7 (omega arith),
      word 8 (omega arith),
      add-zero,
    )
