-- The reader's answer, and the number and the values that the paper gives it.
use Rattle.std.specs.Prelude.{Option, None, Some, Result, Ok, Err}
use Rattle.lists.specs.Numbered.{Numbered}
use Rattle.refusal.specs.declared.Refusal.{Refusal}
use Rattle.refusal.specs.declared.Refusal.TheVariants.{BodyMalformed}
use Rattle.refusal.specs.Numbers.{numbered}
use Rattle.fetch.specs.declared.Request.{Request}

-- a request, or a malformed body
abbrev pub asking : Option Request → Result Request Refusal
asking None = Err BodyMalformed
asking (Some q) = Ok q

-- 9 "body malformed", else the request
abbrev pub asking_numbered : Result Request Refusal → Numbered Request
asking_numbered = numbered
