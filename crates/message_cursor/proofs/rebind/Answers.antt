-- `message_cursor::rebind` meets its contract: the cursor's part of the seat's words is lent to be bound. Assumes nothing.
use mathlib.Core.Path.{ap, ◌∙◌}
use Prim.Native.Nat.{ℕ}
use mathlib.Core.List.{List}
use lib.ListN.{set}
use Rattle.table.specs.Layout.{cursor_size, columns_at, width_at, records_at, records_size}
use Rattle.lists.specs.Parts.{part, put}
use Rattle.lists.proofs.Parts.{part_is}
use Rattle.table.proofs.Handles.{put_is}
use Rattle.message_cursor.proofs.rebind.Goals as goal

pub returns : goal.returns
returns c =
    let a = c.args in
    let b = a.seat.now in
    let at = c.cursor_at-at.result in
    put_is b at c.rebind_words.new.words
    ∙ ap (put b at cursor_size)
    (c.rebind_words.ensures
    ∙ ap (λ (y : List ℕ). put (set (set y columns_at a.count) width_at a.width) records_at records_size a.records.now) (part_is b at cursor_size))
    ∙ ap (λ (p : ℕ). put b p cursor_size (put (set (set (part b p cursor_size) columns_at a.count) width_at a.width) records_at records_size a.records.now))
    c.cursor_at-at.ensures
