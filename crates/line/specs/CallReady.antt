-- What every call of a line keeps to: places inside the line, and numbers inside their limits.
use Rattle.std.specs.Prelude.{ℕ, ◌-◌, ◌/◌, ◌≤◌, Result, IfOk}
use Rattle.line.specs.declared.Reason.{Reason}
use Rattle.line.specs.declared.Digits.{Digits}
use Rattle.line.specs.declared.Call.{Call}
use Rattle.line.specs.declared.Call.TheVariants as call
use Rattle.line.specs.Line.{catalogue_most, bytes_most, room_most, index_most}

-- what every answer keeps to, in a line of so many bytes: places inside it, and numbers inside their limits
abbrev pub number_ends : ℕ → Result (ℕ × ℕ) Reason → Type 0
number_ends n r = IfOk r (λ number. number.1 ≤ n)

-- digits of so many bytes at most
pub record DigitsReady (most n : ℕ) (d : Digits) : Type 0 where
  pub ordered : d.first ≤ d.last
  pub inside : d.last ≤ n
  pub few : (d.last - d.first) / 2 ≤ most

abbrev pub hex_ends : ℕ → ℕ → Result Digits Reason → Type 0
hex_ends most n r = IfOk r (DigitsReady most n)

abbrev pub CallReady : ℕ → Call → Type 0
CallReady n call.Nothing = 0 ≤ n
CallReady n (call.Catalogue hex) = DigitsReady catalogue_most n hex
CallReady n (call.Connect seat version) = 0 ≤ n
CallReady n (call.Open seat tree) = DigitsReady bytes_most n tree
CallReady n (call.Message seat room bytes) = (room ≤ room_most) × DigitsReady bytes_most n bytes
CallReady n (call.Word index value) = index ≤ index_most

-- what a line is
abbrev pub LineReady : ℕ → Result Call Reason → Type 0
LineReady n r = IfOk r (CallReady n)
