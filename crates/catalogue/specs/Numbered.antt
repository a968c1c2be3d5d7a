-- The number and the values of what is read of a catalogue (01: 3 "catalogue malformed").
use Rattle.std.specs.Prelude.{Option, ℕ}
use Rattle.lists.specs.Numbered.{Numbered, or_refused}

-- a number, and the place after it
abbrev pub reading_numbered : Option (ℕ × ℕ) → Numbered (ℕ × ℕ)
reading_numbered r = or_refused 3 r
