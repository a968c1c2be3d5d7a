-- Between two lines the place stands inside the buffers. Assumes nothing.
use Rattle.std.proofs.Common.{length, ◌-◌, ◌≤◌}
use Rattle.line.specs.PlaceReady.{PlaceReady}
use Rattle.file.specs.FileReady.{line_most}
use Rattle.file_serve.proofs.serve_chunk.Given as goal

abbrev pub invariant-loop-at : goal.invariant-loop-at
invariant-loop-at g l = (l.at ≤ length l.chunk) × PlaceReady line_most l.here

abbrev pub decreases-loop-at : goal.decreases-loop-at
decreases-loop-at g l = length l.chunk - l.at
