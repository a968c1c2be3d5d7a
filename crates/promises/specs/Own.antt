-- A seat's own calls, and its own part of a history (demand 3: "a seat's answers depend only on its own calls and the
-- catalogue").
use Rattle.std.specs.Prelude.{List, [], ◌∷◌, ℕ, eqb}
use Rattle.lists.specs.Below.{pick}
use Rattle.promises.specs.Calls.{Call, seat_of_call, Event}

-- the calls of a seat, in order
unfoldable pub own_calls : ℕ → List Call → List Call
own_calls seat [] = []
own_calls seat (c ∷ calls) = let others = own_calls seat calls in pick (eqb (seat_of_call c) seat) (c ∷ others) others

-- and with their answers
unfoldable pub own_events : ℕ → List Event → List Event
own_events seat [] = []
own_events seat (e ∷ events) = let others = own_events seat events in pick (eqb (seat_of_call e.call) seat) (e ∷ others) others
