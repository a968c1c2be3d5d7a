-- Each call is answered as its kind is. Assumes nothing.
use mathlib.Core.Logic.{⊎_elim}
use Rattle.file.proofs.Serving.{served_none, served_connect}
use Rattle.file_serve.proofs.answers.answer.Goals as goal

pub returns-in-Nothing : goal.returns-in-Nothing
returns-in-Nothing c = ⊎_elim (λ e. rw e (served_none _ _)) (λ e. rw e.1 (served_none _ _)) c.in-Nothing.is

pub returns-in-Ok : goal.returns-in-Ok
returns-in-Ok c = rw c.in-Connect.is (served_connect _ _ _ _ _ c.in-Ok.ensures c.put_connect.ensures)

pub returns-in-Err : goal.returns-in-Err
returns-in-Err c = rw c.in-Connect.is (served_connect _ _ _ _ _ c.in-Err.ensures (rw c.number_of-refusal.ensures at c.put_connect-in-Err.ensures))

pub returns-in-Word : goal.returns-in-Word
returns-in-Word c = rw c.in-Word.is (served_none _ _)
