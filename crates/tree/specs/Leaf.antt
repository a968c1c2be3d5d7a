-- A leaf of a restriction tree as data (01, "Restriction trees").
use Rattle.std.specs.Prelude.{List, ℕ}

-- "Content: properties 5 and 6, phrase of 1 to 64 units, method 0 or 1"; "Property: relations 0 to 5 .., properties 2 to 4", and the
-- value that the row's number is related to
pub data Leaf : Type 0 where
  content : (property : ℕ) (phrase : List ℕ) (method : ℕ) → Leaf
  relation : (relop property value : ℕ) → Leaf
