-- The call that a line of a calls file is, its comment cut off, or why it is none (README, "Replaying recorded calls"). Words are
-- judged from left to right, each fully before the next: that it is there, its form, its limit; and after the last, that no further word
-- is there.
use Rattle.std.specs.Prelude.{List, [], ◌∷◌, ℕ, ◌-◌, ◌/◌, eqb, ltb, length, Option, Result, Ok, Err}
use Rattle.std.specs.Option.{ok_or}
use Rattle.lists.specs.Below.{pick}
use Rattle.line.specs.Runs.{word_start, word_end, same_bytes}
use Rattle.line.specs.Digits.{decimal, is_dash, is_hex}
use Rattle.line.specs.declared.Reason.{Reason}
use Rattle.line.specs.declared.Reason.TheVariants.{UnknownCall, MissingWord, ExtraWord, BadNumber, BadHex, TooLong, NoSuchWord}
use Rattle.line.specs.declared.Digits.{Digits}
use Rattle.line.specs.declared.Call.{Call}
use Rattle.line.specs.declared.Call.TheVariants as call
use Rattle.lists.specs.Parts.{between}

-- "a catalogue over 32,768 bytes, a tree or message over 20,000, ROOM over 20,000"; "INDEX above 17,199"
abbrev pub catalogue_most : ℕ
catalogue_most = 32768

abbrev pub bytes_most : ℕ
bytes_most = 20000

abbrev pub room_most : ℕ
room_most = 20000

abbrev pub index_most : ℕ
index_most = 17199

-- what follows what reads; the first fault is the line's
abbrev pub and_then : {A B : Type 0} → Result A Reason → (A → Result B Reason) → Result B Reason
and_then (Err reason) f = Err reason
and_then (Ok a) f = f a

-- the value of a number word, and the place after it
abbrev pub numbered : ℕ → Option ℕ → Result (ℕ × ℕ) Reason
numbered end o = and_then (ok_or o BadNumber) (λ value. Ok (value, end))

unfoldable pub number_in : List ℕ → ℕ → ℕ → Result (ℕ × ℕ) Reason
number_in s start end = pick (eqb start end) (Err MissingWord) (numbered end (decimal (between start end s)))

unfoldable pub number_word : List ℕ → ℕ → Result (ℕ × ℕ) Reason
number_word s at = number_in s (word_start s at) (word_end s (word_start s at))

-- the digits of a hex word; the place after the last of them is that after the word
abbrev pub digits : ℕ → ℕ → Digits
digits first last = record { first = first; last = last }

unfoldable pub hex_in : ℕ → List ℕ → ℕ → ℕ → Result Digits Reason
hex_in most s start end =
    pick (eqb start end) (Err MissingWord)
    (pick (is_dash (between start end s)) (Ok (digits end end))
    (pick (is_hex (between start end s))
    (pick (ltb most ((end - start) / 2)) (Err TooLong) (Ok (digits start end)))
    (Err BadHex)))

unfoldable pub hex_word : ℕ → List ℕ → ℕ → Result Digits Reason
hex_word most s at = hex_in most s (word_start s at) (word_end s (word_start s at))

-- no further word
abbrev pub whole : List ℕ → ℕ → Call → Result Call Reason
whole s at c = pick (ltb (word_start s at) (length s)) (Err ExtraWord) (Ok c)

-- catalogue HEX
unfoldable pub catalogue_from : List ℕ → ℕ → Result Call Reason
catalogue_from s at = and_then (hex_word catalogue_most s at) (λ hex. whole s hex.last (call.Catalogue hex))

-- connect SEAT VERSION
unfoldable pub connect_from : List ℕ → ℕ → Result Call Reason
connect_from s at =
    and_then (number_word s at) (λ seat.
    and_then (number_word s seat.1) (λ version. whole s version.1 (call.Connect seat.0 version.0)))

-- open SEAT HEX
unfoldable pub open_from : List ℕ → ℕ → Result Call Reason
open_from s at =
    and_then (number_word s at) (λ seat.
    and_then (hex_word bytes_most s seat.1) (λ tree. whole s tree.last (call.Open seat.0 tree)))

-- message SEAT ROOM HEX
unfoldable pub room_from : ℕ → List ℕ → ℕ → Result Call Reason
room_from seat s at =
    and_then (number_word s at) (λ room.
    pick (ltb room_most room.0) (Err TooLong)
    (and_then (hex_word bytes_most s room.1) (λ bytes. whole s bytes.last (call.Message seat room.0 bytes))))

unfoldable pub message_from : List ℕ → ℕ → Result Call Reason
message_from s at = and_then (number_word s at) (λ seat. room_from seat.0 s seat.1)

-- word INDEX VALUE
unfoldable pub word_from : List ℕ → ℕ → Result Call Reason
word_from s at =
    and_then (number_word s at) (λ index.
    pick (ltb index_most index.0) (Err NoSuchWord)
    (and_then (number_word s index.1) (λ value. whole s value.1 (call.Word index.0 value.0))))

-- the names of the calls, letter by letter
abbrev pub catalogue_name : List ℕ
catalogue_name = 99 ∷ 97 ∷ 116 ∷ 97 ∷ 108 ∷ 111 ∷ 103 ∷ 117 ∷ 101 ∷ []

abbrev pub connect_name : List ℕ
connect_name = 99 ∷ 111 ∷ 110 ∷ 110 ∷ 101 ∷ 99 ∷ 116 ∷ []

abbrev pub open_name : List ℕ
open_name = 111 ∷ 112 ∷ 101 ∷ 110 ∷ []

abbrev pub message_name : List ℕ
message_name = 109 ∷ 101 ∷ 115 ∷ 115 ∷ 97 ∷ 103 ∷ 101 ∷ []

abbrev pub word_name : List ℕ
word_name = 119 ∷ 111 ∷ 114 ∷ 100 ∷ []

-- the call of a name, its words from a place on
unfoldable pub named : List ℕ → List ℕ → ℕ → Result Call Reason
named name s at =
    pick (same_bytes name catalogue_name) (catalogue_from s at)
    (pick (same_bytes name connect_name) (connect_from s at)
    (pick (same_bytes name open_name) (open_from s at)
    (pick (same_bytes name message_name) (message_from s at)
    (pick (same_bytes name word_name) (word_from s at) (Err UnknownCall)))))

unfoldable pub call_in : List ℕ → ℕ → ℕ → Result Call Reason
call_in s start end = pick (eqb start end) (Ok call.Nothing) (named (between start end s) s end)

-- "one call a line"; a line without words is none
unfoldable pub call_of : List ℕ → Result Call Reason
call_of s = call_in s (word_start s 0) (word_end s (word_start s 0))
