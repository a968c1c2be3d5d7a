-- What may be there or not.
use Rattle.std.specs.Prelude.{Option, None, Some}

-- what was read is handed on; nothing stays nothing
abbrev pub and_then : {A B : Type 0} → Option A → (A → Option B) → Option B
and_then None f = None
and_then (Some a) f = f a
