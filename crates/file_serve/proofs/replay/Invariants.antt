-- Between two reads the place stands inside the buffers. Assumes nothing.
use Rattle.line.specs.PlaceReady.{PlaceReady}
use Rattle.file.specs.FileReady.{line_most}
use Rattle.file_serve.proofs.replay.Given as goal

abbrev pub invariant-loop : goal.invariant-loop
invariant-loop g l = PlaceReady line_most l.place
