-- Worked bytes, by which the numbers of 01 are told.
use Rattle.std.specs.Prelude.{List, [], ◌∷◌, ◌++◌, ℕ}
use Rattle.wire.specs.Word.{le}

-- words as bytes
abbrev pub words_of : List ℕ → List ℕ
words_of [] = []
words_of (w ∷ ws) = le 4 w ++ words_of ws

-- a message: its number, three words that the checksum does not read, and the words of its body
abbrev pub message_of : ℕ → List ℕ → List ℕ
message_of msg body = words_of (msg ∷ 0 ∷ 0 ∷ 0 ∷ body)
