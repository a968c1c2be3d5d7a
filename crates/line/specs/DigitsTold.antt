-- What is told of the bytes that a part of a line spells.
use Rattle.std.specs.Prelude.{◌≡◌, List, ◌++◌, ℕ, ◌/◌, length, drop}
use Rattle.line.specs.Digits.{hex_bytes}

-- so many bytes are the first of a buffer, and the rest of it is as before
pub record Loaded (digits : List ℕ) (r : ℕ) (before after : List ℕ) : Type 0 where
  pub counted : r ≡ length digits / 2
  pub laid : after ≡ hex_bytes digits ++ drop (length digits / 2) before
