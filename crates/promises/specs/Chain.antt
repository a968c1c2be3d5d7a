-- Calls that were made, one after another, as the functions' contracts have them: what each returned, and what it left in the lent slices.
use Rattle.std.specs.Prelude.{List, [], ◌∷◌, map, ℕ, take}
use Rattle.call.specs.Step.{Sources, Keeps}
use Rattle.promises.specs.Calls.{Call, step, Event}

-- a call with its arguments, the refusal, handle and count that it returned, the table that it left, and its reply buffer before and
-- after (empty, where a call has none)
pub record Made : Type 0 where
  pub call : Call
  pub refusal : ℕ
  pub handle : ℕ
  pub count : ℕ
  pub words : List ℕ
  pub entry : List ℕ
  pub exit : List ℕ

-- each call keeps its contract on the table that the one before left
abbrev pub Chain : Sources → List ℕ → List Made → Type 0
Chain src t [] = Unit {0}
Chain src t (m ∷ made) =
    Keeps (step src t m.call) m.refusal m.handle m.count m.words m.entry m.exit × Chain src m.words made

-- the calls, and what was answered: of a reply buffer as many bytes as were counted
abbrev pub calls_made : List Made → List Call
calls_made made = map (λ m. m.call) made

abbrev pub event_made : Made → Event
event_made m = record { call = m.call; answer = record { refusal = m.refusal; handle = m.handle; reply = take m.count m.exit } }

-- the table that the last call left
abbrev pub table_left : List ℕ → List Made → List ℕ
table_left t [] = t
table_left t (m ∷ made) = table_left m.words made
