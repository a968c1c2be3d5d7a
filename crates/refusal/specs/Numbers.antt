-- An answer that may be refused, by its number (01: "When an answer is an enum, a definition gives this paper's number and values
-- for each of its cases").
use Rattle.std.specs.Prelude.{Result, Ok, Err, List, [], ◌∷◌, ℕ, zero, suc, get_or}
use Rattle.lists.specs.Numbered.{Numbered, given, refused_by}
use Rattle.refusal.specs.declared.Refusal.{Refusal}
use Rattle.refusal.specs.declared.Refusal.TheVariants.{SeatAbove, TableMalformed, CatalogueMalformed, BufferShort, MessageSize, NotServed, Connection, ChecksumWrong, BodyMalformed, HandleClosed, Unbound, BindingsUnfit, SeekNotServed, HandlesTaken, RowUnfit, TreeMalformed}

-- the column "No." of the table
abbrev pub refusal_number : Refusal → ℕ
refusal_number SeatAbove = 1
refusal_number TableMalformed = 2
refusal_number CatalogueMalformed = 3
refusal_number BufferShort = 4
refusal_number MessageSize = 5
refusal_number NotServed = 6
refusal_number Connection = 7
refusal_number ChecksumWrong = 8
refusal_number BodyMalformed = 9
refusal_number HandleClosed = 10
refusal_number Unbound = 11
refusal_number BindingsUnfit = 12
refusal_number SeekNotServed = 13
refusal_number HandlesTaken = 14
refusal_number RowUnfit = 15
refusal_number TreeMalformed = 16

-- the refusals in the order of their numbers, from 1 on
abbrev pub refusals : List Refusal
refusals =
    SeatAbove
    ∷ TableMalformed
    ∷ CatalogueMalformed
    ∷ BufferShort
    ∷ MessageSize
    ∷ NotServed
    ∷ Connection
    ∷ ChecksumWrong
    ∷ BodyMalformed
    ∷ HandleClosed
    ∷ Unbound
    ∷ BindingsUnfit
    ∷ SeekNotServed
    ∷ HandlesTaken
    ∷ RowUnfit
    ∷ TreeMalformed
    ∷ []

-- the answer that has a number: a value where it is 0, else the refusal
abbrev pub refusing : {A : Type 0} → ℕ → A → Result A Refusal
refusing zero a = Ok a
refusing (suc n) a = Err (get_or refusals n TreeMalformed)

-- an answer without a value
abbrev pub judged : ℕ → Result Unit Refusal
judged n = refusing n tt

-- the number and the value of an answer
abbrev pub numbered : {A : Type 0} → Result A Refusal → Numbered A
numbered (Ok a) = given a
numbered (Err r) = refused_by (refusal_number r)

abbrev pub number_of : {A : Type 0} → Result A Refusal → ℕ
number_of r = (numbered r).number
