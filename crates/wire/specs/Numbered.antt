-- The number and the values of what is read of a message (01: 9 "body malformed").
use Rattle.std.specs.Prelude.{Option}
use Rattle.lists.specs.Numbered.{Numbered, or_refused}

-- what was read, with the place after it; 9 where nothing was
abbrev pub read_numbered : {A : Type 0} → Option A → Numbered A
read_numbered r = or_refused 9 r
