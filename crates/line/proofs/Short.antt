-- How long an answer is. Assumes nothing.
use mathlib.Core.Bool.{Bool, true, false}
use mathlib.Core.List.{List, ◌++◌}
use Prim.Native.Nat.{ℕ, ◌+◌, ◌*◌, ◌≤◌}
use native.Mathlib.Omega.{arith}
use lib.ListN.{length, take, drop, length-append}
use Rattle.line.specs.declared.Reason.{Reason}
use Rattle.line.specs.declared.Reason.TheVariants.{UnknownCall, MissingWord, ExtraWord, BadNumber, BadHex, TooLong, NoSuchWord}
use Rattle.line.specs.declared.Out.{Out}
use Rattle.line.specs.Text.{Written, decimal_text, hex_text, changed}
use Rattle.line.proofs.Numeral.{numeral_short}
use Rattle.line.proofs.TextLaws.{hex_short, written_room}
use Rattle.line.specs.Answer.{space, feed, reason_text, error_text, connect_text, open_text, end_text, message_text, plain}

-- the room that a word and a number leave
pub room_after : (v room : ℕ) (word : List ℕ) {a b : Out} → Written (word ++ decimal_text v) a b
    → a.used + length word + 20 + room ≤ length a.bytes.now → b.used + room ≤ length b.bytes.now
room_after v room word w h = written_room room w (omega (arith, length-append word (decimal_text v), numeral_short 20 v, h))

pub reason_short : (r : Reason) → length (reason_text r) ≤ 12
reason_short UnknownCall = omega arith
reason_short MissingWord = omega arith
reason_short ExtraWord = omega arith
reason_short BadNumber = omega arith
reason_short BadHex = omega arith
reason_short TooLong = omega arith
reason_short NoSuchWord = omega arith

pub end_short : (b : Bool) → length (end_text b) ≤ 9
end_short true = omega arith
end_short false = omega arith

pub error_short : (n : ℕ) (r : Reason) → length (error_text n r) ≤ plain
unfolding error_text
error_short n r =
    omega (arith, length-append (decimal_text n) (space ++ (reason_text r ++ feed)), length-append (reason_text r) feed, numeral_short 20 n, reason_short r)

pub connect_short : (a : ℕ) → length (connect_text a) ≤ plain
unfolding connect_text
connect_short a = omega (arith, length-append (decimal_text a) feed, numeral_short 20 a)

pub open_short : (a b : ℕ) → length (open_text a b) ≤ plain
unfolding open_text
open_short a b =
    omega (arith, length-append (decimal_text a) (space ++ (decimal_text b ++ feed)), length-append (decimal_text b) feed, numeral_short 20 a, numeral_short 20 b)

pub message_short : (a n : ℕ) (s : List ℕ) → length (message_text a n s) ≤ 2 * length (take n s) + plain
unfolding message_text
message_short a n s =
    let e = end_text (changed (drop n s)) in
    let h = hex_text (take n s) in
    omega (arith, length-append (decimal_text a) (space ++ (decimal_text n ++ (space ++ (h ++ e)))), length-append (decimal_text n) (space ++ (h ++ e)), length-append h e, numeral_short 20 a, numeral_short 20 n, hex_short (take n s), end_short (changed (drop n s)))
