-- Laws of lists that rise. Assumes nothing.
use mathlib.Core.List.{List, [], ◌∷◌, ◌++◌}
use Prim.Native.Nat.{ℕ, zero, suc, ◌+◌, ◌≤◌, ◌<◌}
use native.Mathlib.Numerals.{add-one}
use native.Mathlib.Omega.{arith}
use lib.ListN.{length, get_or}
use Rattle.lists.specs.Rising.{Rises, RisesIn}

-- the ends can be moved apart
pub rises_wider : (down low high up : ℕ) (ns : List ℕ) → down ≤ low → high ≤ up → RisesIn low high ns → RisesIn down up ns
unfolding RisesIn
rises_wider down low high up [] d u r = omega arith
rises_wider down low high up (n ∷ ns) d u r = (omega (arith, r.0), rises_wider (n + 1) (n + 1) high up ns (omega arith) u r.1)

-- one list after another
pub rises_append : (low mid high : ℕ) (ns ms : List ℕ) → RisesIn low mid ns → RisesIn mid high ms → RisesIn low high (ns ++ ms)
unfolding RisesIn
rises_append low mid high [] ms r q = rises_wider low mid high high ms r (omega arith) q
rises_append low mid high (n ∷ ns) ms r q = (r.0, rises_append (n + 1) mid high ns ms r.1 q)

-- it is as short as the room between its ends
pub rises_room : (low high : ℕ) (ns : List ℕ) → RisesIn low high ns → low + length ns ≤ high
unfolding RisesIn
rises_room low high [] r = omega arith
rises_room low high (n ∷ ns) r = omega (arith, r.0, rises_room (n + 1) high ns r.1)

-- each number lies between the ends, and above the one before it
pub rises_between : (low high : ℕ) (ns : List ℕ) → RisesIn low high ns → (i : ℕ) → i < length ns → (low ≤ get_or ns i 0) × (get_or ns i 0 < high)
unfolding RisesIn
rises_between low high [] r i h = absurd (omega arith)
rises_between low high (n ∷ ns) r zero h = (r.0, omega (arith, rises_room (n + 1) high ns r.1))
rises_between low high (n ∷ ns) r (suc i) h = let b = rises_between (n + 1) high ns r.1 i (omega arith) in (omega (arith, r.0, b.0), b.1)

pub rises : (low high : ℕ) (ns : List ℕ) → RisesIn low high ns → Rises ns
unfolding RisesIn
rises low high [] r i h = absurd (omega arith)
rises low high (n ∷ ns) r zero h = omega (arith, (rises_between (n + 1) high ns r.1 0 (omega arith)).0)
rises low high (n ∷ ns) r (suc i) h = rw add-one (rw add-one at (rises (n + 1) high ns r.1 i (omega arith)))
