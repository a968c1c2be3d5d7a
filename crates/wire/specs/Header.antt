-- The header of a message, the numbers of the messages, and what every body has first (01, "Header and checksum").
use Rattle.std.specs.Prelude.{ℕ}

-- "Sixteen bytes, four little-endian words: _msg, _status, _ulChecksum, _ulReserved2"
abbrev pub header_size : ℕ
header_size = 16

abbrev pub msg_at : ℕ
msg_at = 0

abbrev pub checksum_at : ℕ
checksum_at = 8

-- "Numbers: disconnect 0xC9, free cursor 0xCB, get rows 0xCC, set bindings 0xD0"
abbrev pub disconnect_msg : ℕ
disconnect_msg = 0xC9

abbrev pub free_cursor_msg : ℕ
free_cursor_msg = 0xCB

abbrev pub get_rows_msg : ℕ
get_rows_msg = 0xCC

abbrev pub set_bindings_msg : ℕ
set_bindings_msg = 0xD0

-- "message .. over 16,384 bytes", "reply buffer under 16,384 bytes", "_cbReadBuffer .. to 16,384": the most bytes of a message and of a
-- reply
abbrev pub message_most : ℕ
message_most = 16384

-- _hCursor, the first word of every body that has one
abbrev pub handle_at : ℕ
handle_at = header_size
