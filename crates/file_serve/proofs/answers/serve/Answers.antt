-- A line that is no call is answered by its fault. Assumes nothing.
use Rattle.file.proofs.Serving.{served_error}
use Rattle.file_serve.proofs.answers.serve.Goals as goal

pub returns-in-Err : goal.returns-in-Err
returns-in-Err c = rw c.in-Err.is (served_error _ _ _ _ _ c.put_error.ensures)
