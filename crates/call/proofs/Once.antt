-- Any two outcomes that a statement of the server allows agree. Assumes nothing.
use mathlib.Core.Path.{◌≡◌, sym, ◌∙◌}
use mathlib.Core.List.{List, []}
use Rattle.std.specs.Prelude.{Result}
use Prim.Native.Nat.{ℕ}
use Rattle.table.specs.declared.Handle.{Handle}
use Rattle.refusal.specs.declared.Refusal.{Refusal}
use Rattle.refusal.specs.Numbers.{number_of}
use Rattle.message.specs.Message.{count_of}
use Rattle.query.specs.Open.{handle_in}
use Rattle.call.specs.Step.{Outcome, Keeps, ConnectKeeps, OpenKeeps, MessageKeeps, Same}
use Rattle.call.specs.JudgementTold.{Judgement}

pub keeps_once : (o : Outcome) (r r' h h' c c' : ℕ) (w w' entry x x' : List ℕ) → Keeps o r h c w entry x → Keeps o r' h' c' w' entry x'
    → Same r r' h h' c c' w w' x x'
keeps_once o r r' h h' c c' w w' entry x x' k l =
    record {
      refused = k.refused ∙ sym l.refused;
      given = k.given ∙ sym l.given;
      counted = k.counted ∙ sym l.counted;
      kept = k.kept ∙ sym l.kept;
      written = k.written ∙ sym l.written;
    }

-- the same of the answers
pub connect_keeps_once : (o : Outcome) (r r' : Result Unit Refusal) (w w' : List ℕ) → ConnectKeeps o r w → ConnectKeeps o r' w'
    → Same (number_of r) (number_of r') 0 0 0 0 w w' [] []
connect_keeps_once o r r' w w' k l = keeps_once o (number_of r) (number_of r') 0 0 0 0 w w' [] [] [] k l

pub open_keeps_once : (o : Outcome) (r r' : Result Handle Refusal) (w w' : List ℕ) → OpenKeeps o r w → OpenKeeps o r' w'
    → Same (number_of r) (number_of r') (handle_in r) (handle_in r') 0 0 w w' [] []
open_keeps_once o r r' w w' k l = keeps_once o (number_of r) (number_of r') (handle_in r) (handle_in r') 0 0 w w' [] [] [] k l

pub message_keeps_once : (o : Outcome) (r r' : Result ℕ Refusal) (w w' entry x x' : List ℕ) → MessageKeeps o r w entry x → MessageKeeps o r' w' entry x'
    → Same (number_of r) (number_of r') 0 0 (count_of r) (count_of r') w w' x x'
message_keeps_once o r r' w w' entry x x' k l = keeps_once o (number_of r) (number_of r') 0 0 (count_of r) (count_of r') w w' entry x x' k l

-- the same refusal, the same row count, the same places
pub judgement_once : (t s : List ℕ) (seat : ℕ) (r r' : Result ℕ Refusal) (held found found' : List ℕ) → Judgement t s seat r held found → Judgement t s seat r' held found'
    → (r ≡ r') × (found ≡ found')
judgement_once t s seat r r' held found found' k l = (k.answered ∙ sym l.answered, k.placed ∙ sym l.placed)
