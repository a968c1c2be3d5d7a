-- A line as its bytes come, and the call that it is (README, "Replaying recorded calls").
use Rattle.std.specs.Prelude.{◌≡◌, Bool, List, ℕ, ◌+◌, ◌-◌, ltb, leb, length, take, Result, Err}
use Rattle.lists.specs.Below.{pick, either}
use Rattle.wire.specs.Laid.{lay}
use Rattle.line.specs.Runs.{run, in_call}
use Rattle.line.specs.Line.{call_of}
use Rattle.line.specs.declared.Reason.{Reason}
use Rattle.line.specs.declared.Reason.TheVariants.{TooLong}
use Rattle.line.specs.declared.Call.{Call}
use Rattle.line.specs.declared.Place.{Place}

-- the bytes of a part of a line that there is room for, after those that are kept
abbrev pub room_for : List ℕ → Place → List ℕ → List ℕ
room_for line p part = take (length line - p.kept) part

-- they are kept, and whether there were more is noted; all else stays
pub record Kept (line : List ℕ) (p : Place) (part : List ℕ) (r : Place) (exit : List ℕ) : Type 0 where
  pub bytes : exit ≡ lay line p.kept (room_for line p part)
  pub kept : r.kept ≡ p.kept + length (room_for line p part)
  pub cut : r.cut ≡ either (ltb (length line - p.kept) (length part)) p.cut
  pub number : r.number ≡ p.number
  pub catalogue : r.catalogue ≡ p.catalogue
  pub used : r.used ≡ p.used

-- "`#` starts a comment to the line's end": the call that stands before it. Without one, a line that was cut is "too long"
abbrev pub kept_call : List ℕ → Bool → Result Call Reason
kept_call line cut =
    pick (ltb (run in_call line) (length line)) (call_of (take (run in_call line) line)) (pick cut (Err TooLong) (call_of line))

-- how much of the output may wait before a line
abbrev pub out_full : ℕ
out_full = 65536

-- output is written where more than so much waits: how much waits then
abbrev pub waits : ℕ → ℕ → ℕ
waits most used = pick (leb used most) used 0
