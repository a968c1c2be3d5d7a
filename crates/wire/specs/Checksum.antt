-- The checksum of a message (01, "Header and checksum").
use Rattle.std.specs.Prelude.{Bool, List, ℕ, zero, suc, ◌+◌, ◌-◌, ◌*◌, ◌/◌, ◌%◌, leb, length, drop}
use Rattle.std.specs.Int.Bits.{bit_xor}
use Rattle.lists.specs.Below.{both, pick}
use Rattle.wire.specs.Word.{number_at}
use Rattle.wire.specs.Header.{header_size, message_most}

-- a size that refusal 5, "message under 16 or over 16,384 bytes", lets pass
abbrev pub message_sized : List ℕ → Bool
message_sized m = both (leb header_size (length m)) (leb (length m) message_most)

-- the first k 32-bit words of a list of bytes, added up
unfoldable pub sum_of_words : ℕ → List ℕ → ℕ
sum_of_words zero s = 0
sum_of_words (suc k) s = number_at 4 s (4 * k) + sum_of_words k s

-- all its words, "a last short word filled with zero bytes"
unfoldable pub body_sum : List ℕ → ℕ
body_sum s = sum_of_words ((length s + 3) / 4) s

-- the words after the header are added modulo 2^32; exclusive-or with 0x59533959; _msg subtracted modulo 2^32
unfoldable pub checksum : List ℕ → ℕ
checksum m = (bit_xor (body_sum (drop header_size m) % 0x1_0000_0000) 0x59533959 + 0x1_0000_0000 - number_at 4 m 0) % 0x1_0000_0000

-- what the pipe host is told: the checksum, or 4,294,967,296 for a message of a size that 5 names
unfoldable pub checksum_told : List ℕ → ℕ
checksum_told m = pick (message_sized m) (checksum m) 0x1_0000_0000
