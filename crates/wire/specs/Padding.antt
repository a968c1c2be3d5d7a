-- Padding (source, 2.2.1.3, 2.2.1.7 and CTableColumn; 01, "Bindings" and "Restriction trees": "Padding is zero").
use Rattle.std.specs.Prelude.{Bool, List, ℕ, ◌+◌, ◌-◌, ◌%◌, eqb, get_or}
use Rattle.lists.specs.Below.{every_below}

-- "such that the following field begins at an offset that is a multiple of 4", or of another unit: how many bytes stand before it,
-- from a place that is counted from the first byte of the message or of the tree
abbrev pub padding : ℕ → ℕ → ℕ
padding unit place = (unit - place % unit) % unit

-- n bytes from a place on are zero
unfoldable pub zero_at : List ℕ → ℕ → ℕ → Bool
zero_at s at n = every_below n (λ i. eqb (get_or s (at + i) 0) 0)
