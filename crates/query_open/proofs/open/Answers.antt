-- `query_open::open` meets its contract: the cursor's part of the seat's words is lent to be filled. Assumes nothing.
use mathlib.Core.Path.{ap, ap₂, ◌∙◌}
use Prim.Native.Nat.{ℕ}
use mathlib.Core.List.{List}
use Rattle.table.specs.Layout.{cursor_size}
use Rattle.lists.specs.Parts.{part, put}
use Rattle.lists.proofs.Parts.{part_is}
use Rattle.table.proofs.Handles.{put_is}
use Rattle.query_open.proofs.open.Goals as goal

pub fill-requires : goal.fill-requires
fill-requires c =
    let b = c.args.seat.now in
    (part_is b c.cursor_at-at.result cursor_size ∙ ap (λ (p : ℕ). part b p cursor_size) c.cursor_at-at.ensures ∙ c.requires.1, c.requires.2, c.requires.3)

pub returns : goal.returns
returns c =
    let a = c.args in
    let b = a.seat.now in
    put_is b c.cursor_at-at.result c.fill.new.cursor
    ∙ ap₂ (λ (p : ℕ) (x : List ℕ). put b p cursor_size x) c.cursor_at-at.ensures c.fill.ensures
