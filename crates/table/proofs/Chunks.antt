-- A table taken apart into arrays of a seat's size: each is a seat's words. Assumes nothing.
use mathlib.Core.Path.{◌≡◌, ap, ◌∙◌}
use mathlib.Core.List.{List, []}
use Prim.Native.Nat.{ℕ, zero, suc, ◌+◌, ◌*◌, ◌/◌, ◌<◌}
use native.Mathlib.Omega.{arith}
use lib.ListN.{length, get_or, take, drop}
use lib.Seq.{drop-drop}
use Rattle.std.specs.Simd.{first_chunks}
use Rattle.lists.specs.Parts.{part}
use Rattle.table.specs.Layout.{seats, seat_size, table_size, seat_part}

chunk_at : (n k : ℕ) (t : List ℕ) (i : ℕ) → i < k → get_or (first_chunks n k t) i [] ≡ part t (n * i) n
chunk_at n zero t i h = absurd (omega arith)
chunk_at n (suc k) t zero h = ap (λ (j : ℕ). take n (drop j t)) none
  where
    none : 0 ≡ n * 0
    none = omega arith
chunk_at n (suc k) t (suc i) h =
    chunk_at n k (drop n t) i (omega arith) ∙ ap (take n) (drop-drop (n * i) n t ∙ ap (λ (j : ℕ). drop j t) more)
  where
    more : n + n * i ≡ n * suc i
    more = omega arith

-- a table's seats, as arrays
module _ (t : List ℕ) (l : length t ≡ table_size) (chunks : List (List ℕ)) (e : chunks ≡ first_chunks seat_size (length t / seat_size) t) where
  eight : chunks ≡ first_chunks seat_size seats t
  eight = rw l at e

  pub seats_count : length chunks ≡ seats
  seats_count = ap length eight

  pub seat_chunk : (seat : ℕ) → seat < seats → get_or chunks seat [] ≡ seat_part t seat
  seat_chunk seat h = ap (λ (c : List (List ℕ)). get_or c seat []) eight ∙ chunk_at seat_size seats t seat h
