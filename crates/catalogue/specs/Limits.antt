-- The limits of the option catalogue (01, "The option catalogue"), each named once.
use Rattle.std.specs.Prelude.{ℕ}

-- "the row count (0 to 1,024)"
abbrev pub rows_most : ℕ
rows_most = 1024

-- "Every number is .. at most 4,294,967,295": the limit of a key, and that of a language and a default
abbrev pub key_most : ℕ
key_most = 0xffff_ffff

abbrev pub number_most : ℕ
number_most = 0xffff_ffff

-- "its count of UTF-16 units plus one (at most 2,048 units)": so the number that a text begins with is at most 2,049
abbrev pub size_most : ℕ
size_most = 2049

-- "At most 1,048,576 bytes"
abbrev pub bytes_most : ℕ
bytes_most = 0x10_0000
