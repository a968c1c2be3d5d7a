-- The longest line, and the room that answers need.
use Rattle.std.specs.Prelude.{ℕ}

-- "a line of over 131,072 bytes .."
abbrev pub line_most : ℕ
line_most = 131072

-- the output has at least so many bytes: room for what may wait before a line (`out_full`), and for any answer
abbrev pub out_size : ℕ
out_size = 131072
