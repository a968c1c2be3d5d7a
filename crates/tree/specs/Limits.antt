-- The limits of a restriction tree (01, "Restriction trees"), each named once.
use Rattle.std.specs.Prelude.{ℕ}

-- "Limits: 4,096 bytes, 64 nodes, 8 levels (root is 1)"
abbrev pub bytes_most : ℕ
bytes_most = 4096

abbrev pub nodes_most : ℕ
nodes_most = 64

abbrev pub levels_most : ℕ
levels_most = 8

-- "phrase of 1 to 64 units"
abbrev pub phrase_most : ℕ
phrase_most = 64
