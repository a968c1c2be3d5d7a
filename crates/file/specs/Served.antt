-- What a line of a calls file does (README, "Replaying recorded calls"): the answer's text, the table afterwards, and the catalogue that
-- is lent from there on.
use Rattle.std.specs.Prelude.{◌≡◌, false, List, [], ◌++◌, ℕ, ◌+◌, ◌/◌, ◌%◌, ◌≤◌, ◌*◌, length, take, drop, set, Result, Ok, Err}
use Rattle.wire.specs.Laid.{lay}
use Rattle.line.specs.Digits.{hex_bytes}
use Rattle.line.specs.Line.{catalogue_most, room_most}
use Rattle.lists.specs.Parts.{between}
use Rattle.line.specs.declared.Reason.{Reason}
use Rattle.line.specs.declared.Digits.{Digits}
use Rattle.line.specs.declared.Call.{Call}
use Rattle.line.specs.declared.Call.TheVariants as call
use Rattle.line.specs.Text.{Put, Stays}
use Rattle.line.specs.Answer.{error_text, connect_text, open_text, message_text, plain}
use Rattle.line.specs.Kept.{kept_call, out_full, waits}
use Rattle.line.specs.declared.Place.{Place}
use Rattle.line.specs.declared.Out.{Out}
use Rattle.call.specs.Step.{Outcome, sources_of, connect_step, open_step, message_step}

-- the bytes of any answer, at most: those of a reply in hex digits, beside the words
abbrev pub answer_most : ℕ
answer_most = 2 * room_most + plain

-- a call's answer, nothing or a line, and the table's words afterwards
pub record Answer : Type 0 where
  pub text : List ℕ
  pub words : List ℕ

-- no line is answered, as for a catalogue, a word of the table and a line without words
abbrev pub silent : List ℕ → Answer
silent t = record { text = []; words = t }

-- "`connect REFUSAL`"
abbrev pub connected : Outcome → Answer
connected o = record { text = connect_text o.refusal; words = o.words }

-- "`open REFUSAL HANDLE`"
abbrev pub opened : Outcome → Answer
opened o = record { text = open_text o.refusal o.handle; words = o.words }

-- "`message REFUSAL COUNT HEX`": the bytes of the reply alone are told; none past them changes, so no answer ends in ` spilled`
abbrev pub replied : Outcome → Answer
replied o = record { text = message_text o.refusal (length o.reply) o.reply; words = o.words }

-- the hex digits of a word of a line, and the bytes that they spell
abbrev pub digits_of : Digits → List ℕ → List ℕ
digits_of hex line = between hex.first hex.last line

abbrev pub bytes_of : Digits → List ℕ → List ℕ
bytes_of hex line = hex_bytes (digits_of hex line)

-- the answer to a call of a line, on a table and a lent catalogue
abbrev pub answer_of : Call → List ℕ → List ℕ → List ℕ → Answer
answer_of call.Nothing line t s = silent t
answer_of (call.Catalogue hex) line t s = silent t
answer_of (call.Connect seat version) line t s = connected (connect_step (sources_of s) t seat version)
answer_of (call.Open seat tree) line t s = opened (open_step (sources_of s) t seat (bytes_of tree line))
answer_of (call.Message seat room bytes) line t s = replied (message_step (sources_of s) t seat (bytes_of bytes line) room)
answer_of (call.Word index value) line t s = silent (set t index value)

-- the answer to a line, with its number
abbrev pub answer_to : Result Call Reason → List ℕ → ℕ → List ℕ → List ℕ → Answer
answer_to (Ok call) line number t s = answer_of call line t s
answer_to (Err reason) line number t s = record { text = error_text number reason; words = t }

-- the answer as what a function leaves: the text is laid in the output from a place on, and the place after it is told; it takes
-- no more than `answer_most` bytes
pub record Serves (a : Answer) (used r : ℕ) (words before after : List ℕ) : Type 0 where
  pub kept : words ≡ a.words
  pub said : Put a.text used r before after
  pub fits : r ≤ used + answer_most

-- the same in an output, after the bytes in use
pub record ServesOut (a : Answer) (words : List ℕ) (before after : Out) : Type 0 where
  pub serves : Serves a before.used after.used words before.bytes.now after.bytes.now
  pub stays : Stays before after

-- the buffer of the catalogue, and how many of its bytes are lent
pub record Lent : Type 0 where
  pub size : ℕ
  pub buffer : List ℕ

-- the first so many bytes of a buffer
abbrev pub lent_of : ℕ → List ℕ → Lent
lent_of size buffer = record { size = size; buffer = buffer }

-- "lends this catalogue from here on"
abbrev pub lent_of_call : Call → List ℕ → Lent → Lent
lent_of_call call.Nothing line l = l
lent_of_call (call.Catalogue hex) line l =
    lent_of (length (digits_of hex line) / 2) (bytes_of hex line ++ drop (length (digits_of hex line) / 2) l.buffer)
lent_of_call (call.Connect seat version) line l = l
lent_of_call (call.Open seat tree) line l = l
lent_of_call (call.Message seat room bytes) line l = l
lent_of_call (call.Word index value) line l = l

abbrev pub lent_by : Result Call Reason → List ℕ → Lent → Lent
lent_by (Ok call) line l = lent_of_call call line l
lent_by (Err reason) line l = l

-- the same as what a function leaves; the size is at most that of a catalogue
pub record Lends (l : Lent) (r : ℕ) (exit : List ℕ) : Type 0 where
  pub sized : r ≡ l.size
  pub left : exit ≡ l.buffer
  pub fits : r ≤ catalogue_most

-- the bytes of a line that are kept, the call that they are, and its answer with a lent catalogue
abbrev pub bytes_kept : List ℕ → Place → List ℕ
bytes_kept line p = take p.kept line

abbrev pub call_kept : List ℕ → Place → Result Call Reason
call_kept line p = kept_call (bytes_kept line p) p.cut

abbrev pub answer_kept : List ℕ → Place → List ℕ → List ℕ → Answer
answer_kept line p t s = answer_to (call_kept line p) (bytes_kept line p) p.number t s

-- a line is served, from a table, a catalogue's buffer and an output to those afterwards, and the next line begins; its number has 64 bits
pub record LineServed (line : List ℕ) (p : Place) (t s out : List ℕ) (r : Place) (t' s' out' : List ℕ) : Type 0 where
  pub lent : Lends (lent_by (call_kept line p) (bytes_kept line p) (lent_of p.catalogue s)) r.catalogue s'
  pub words : t' ≡ (answer_kept line p t (take r.catalogue s')).words
  pub said : out' ≡ lay out p.used (answer_kept line p t (take r.catalogue s')).text
  pub used : r.used ≡ waits out_full (p.used + length (answer_kept line p t (take r.catalogue s')).text)
  pub number : r.number ≡ (p.number + 1) % 18446744073709551616
  pub kept : r.kept ≡ 0
  pub cut : r.cut ≡ false
