-- `message_cursor::close` meets its contract: the cursor's part of the seat's words is cleared. Assumes nothing.
use mathlib.Core.Path.{ap, ap₂, ◌∙◌}
use Prim.Native.Nat.{ℕ, ◌+◌, ◌≤◌}
use native.Mathlib.Omega.{arith}
use mathlib.Core.List.{List}
use lib.ListN.{length}
use Rattle.table.specs.Layout.{cursor_size}
use Rattle.lists.specs.Parts.{put, zeros}
use Rattle.lists.proofs.Parts.{part_length, part_is}
use Rattle.table.proofs.Handles.{place_inside, put_is}
use Rattle.message_cursor.proofs.close.Goals as goal

pub returns : goal.returns
returns c =
    let b = c.args.seat.now in
    let at = c.cursor_at-at.result in
    let inside : at + cursor_size ≤ length b = omega (arith, c.cursor_at-at.ensures, place_inside c.args.handle.0) in
    put_is b at c.clear.new.words
    ∙ ap₂ (λ (p : ℕ) (x : List ℕ). put b p cursor_size x) c.cursor_at-at.ensures
    (c.clear.ensures ∙ ap zeros (ap length (part_is b at cursor_size) ∙ part_length b at cursor_size inside))
