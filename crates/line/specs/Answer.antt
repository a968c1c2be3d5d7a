-- The answers to the calls of a file, as the README's tables have them (README, "Replaying recorded calls"). Each is a line.
use Rattle.std.specs.Prelude.{Bool, true, false, List, [], ◌∷◌, ◌++◌, ℕ, take, drop}
use Rattle.line.specs.Text.{decimal_text, hex_text, changed}
use Rattle.line.specs.Line.{connect_name, open_name, message_name}
use Rattle.line.specs.declared.Reason.{Reason}
use Rattle.line.specs.declared.Reason.TheVariants.{UnknownCall, MissingWord, ExtraWord, BadNumber, BadHex, TooLong, NoSuchWord}

-- a space between two words, and the line's end
abbrev pub space : List ℕ
space = 32 ∷ []

abbrev pub feed : List ℕ
feed = 10 ∷ []

-- the reasons, letter by letter
abbrev pub reason_text : Reason → List ℕ
reason_text UnknownCall = 117 ∷ 110 ∷ 107 ∷ 110 ∷ 111 ∷ 119 ∷ 110 ∷ 32 ∷ 99 ∷ 97 ∷ 108 ∷ 108 ∷ []
reason_text MissingWord = 109 ∷ 105 ∷ 115 ∷ 115 ∷ 105 ∷ 110 ∷ 103 ∷ 32 ∷ 119 ∷ 111 ∷ 114 ∷ 100 ∷ []
reason_text ExtraWord = 101 ∷ 120 ∷ 116 ∷ 114 ∷ 97 ∷ 32 ∷ 119 ∷ 111 ∷ 114 ∷ 100 ∷ []
reason_text BadNumber = 98 ∷ 97 ∷ 100 ∷ 32 ∷ 110 ∷ 117 ∷ 109 ∷ 98 ∷ 101 ∷ 114 ∷ []
reason_text BadHex = 98 ∷ 97 ∷ 100 ∷ 32 ∷ 104 ∷ 101 ∷ 120 ∷ []
reason_text TooLong = 116 ∷ 111 ∷ 111 ∷ 32 ∷ 108 ∷ 111 ∷ 110 ∷ 103 ∷ []
reason_text NoSuchWord = 110 ∷ 111 ∷ 32 ∷ 115 ∷ 117 ∷ 99 ∷ 104 ∷ 32 ∷ 119 ∷ 111 ∷ 114 ∷ 100 ∷ []

-- the first word of an answer to a line that is no call
abbrev pub error_name : List ℕ
error_name = 101 ∷ 114 ∷ 114 ∷ 111 ∷ 114 ∷ []

-- "`error LINE REASON`"
unfoldable pub error_text : ℕ → Reason → List ℕ
error_text line reason = (error_name ++ space) ++ (decimal_text line ++ (space ++ (reason_text reason ++ feed)))

-- "`connect REFUSAL`"
unfoldable pub connect_text : ℕ → List ℕ
connect_text refusal = (connect_name ++ space) ++ (decimal_text refusal ++ feed)

-- "`open REFUSAL HANDLE`"
unfoldable pub open_text : ℕ → ℕ → List ℕ
open_text refusal handle = (open_name ++ space) ++ (decimal_text refusal ++ (space ++ (decimal_text handle ++ feed)))

-- "where a byte past COUNT changed, the answer ends in ` spilled`"
abbrev pub end_text : Bool → List ℕ
end_text true = 32 ∷ 115 ∷ 112 ∷ 105 ∷ 108 ∷ 108 ∷ 101 ∷ 100 ∷ 10 ∷ []
end_text false = feed

-- "`message REFUSAL COUNT HEX`, HEX the COUNT bytes written": the first so many of the reply buffer
unfoldable pub message_text : ℕ → ℕ → List ℕ → List ℕ
message_text refusal count reply =
    (message_name ++ space)
    ++ (decimal_text refusal ++ (space ++ (decimal_text count ++ (space ++ (hex_text (take count reply) ++ end_text (changed (drop count reply)))))))

-- the bytes of an answer without hex digits, at most
abbrev pub plain : ℕ
plain = 100
