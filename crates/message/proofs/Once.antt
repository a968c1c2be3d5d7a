-- Any two outcomes that a statement of a message's function allows agree. Assumes nothing.
use mathlib.Core.Path.{◌≡◌, sym, ap, ◌∙◌}
use mathlib.Core.List.{List, []}
use Rattle.std.specs.Prelude.{Result, Ok, Err}
use Prim.Native.Nat.{ℕ}
use Rattle.refusal.specs.declared.Refusal.{Refusal}
use Rattle.refusal.specs.Numbers.{number_of}
use Rattle.refusal.proofs.Numbers.{number_least, refusal_same}
use Rattle.table.specs.Seat.{seat_of}
use Rattle.message.specs.Message.{SeatOutcome, seat_message, count_of}
use Rattle.message.specs.AnswerTold.{Answers, AnswersAny, Refuses, RefusesFor}

-- answers with the same number and the same count are the same
pub answer_same : (r r' : Result ℕ Refusal) → number_of r ≡ number_of r' → count_of r ≡ count_of r' → r ≡ r'
answer_same (Ok a) (Ok b) n c = ap Ok c
answer_same (Ok a) (Err r') n c = absurd (number_least r' (sym n))
answer_same (Err r) (Ok b) n c = absurd (number_least r n)
answer_same (Err r) (Err r') n c = ap Err (refusal_same r r' n)

-- the same answer, the same words, the same bytes
pub record Same (r r' : Result ℕ Refusal) (words words' exit exit' : List ℕ) : Type 0 where
  pub answered : r ≡ r'
  pub kept : words ≡ words'
  pub written : exit ≡ exit'

pub answers_once : (o : SeatOutcome) (r r' : Result ℕ Refusal) (b b' entry x x' : List ℕ) → Answers o r b entry x → Answers o r' b' entry x' → Same r r' b b' x x'
answers_once o r r' b b' entry x x' k l =
    record {
      answered = answer_same r r' (k.refused ∙ sym l.refused) (k.counted ∙ sym l.counted);
      kept = k.kept ∙ sym l.kept;
      written = k.written ∙ sym l.written;
    }

-- where no rows are sent, any rows of the catalogue will do
pub answers_any_once : (b m : List ℕ) (r r' : Result ℕ Refusal) (w w' entry x x' : List ℕ) → AnswersAny b m r w entry x → AnswersAny b m r' w' entry x'
    → Same r r' w w' x x'
answers_any_once b m r r' w w' entry x x' k l = answers_once (seat_message [] (seat_of b) m) r r' w w' entry x x' (k []) (l [])

pub refuses_once : (msg refusal : ℕ) (r r' : ℕ × ℕ) (entry x x' : List ℕ) → Refuses msg refusal r entry x → Refuses msg refusal r' entry x'
    → (r ≡ r') × (x ≡ x')
refuses_once msg refusal r r' entry x x' k l = (k.answered ∙ sym l.answered, k.written ∙ sym l.written)

pub refuses_for_once : (msg : ℕ) (cause : Refusal) (r r' : Result ℕ Refusal) (entry x x' : List ℕ) → RefusesFor msg cause r entry x → RefusesFor msg cause r' entry x'
    → (r ≡ r') × (x ≡ x')
refuses_for_once msg cause r r' entry x x' k l = (k.answered ∙ sym l.answered, k.written ∙ sym l.written)
