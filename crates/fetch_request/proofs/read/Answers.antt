-- `fetch_request::read` meets its contract: the size, the limits and the seek are judged, then the values are read. Assumes nothing.
use Rattle.std.specs.Prelude.{Ok}
use Rattle.fetch.proofs.Ranges.{short, unfit, seek_unfit, read_whole}
use Rattle.fetch.specs.Asking.{asking}
use Rattle.fetch.specs.Request.{asked}
use Prim.Native.Nat.{ℕ}
use mathlib.Core.Path.{sym, ap, ◌∙◌}
use Rattle.fetch_request.proofs.read.Goals as goal
use Rattle.fetch_request.proofs.read.Goals.{else-in_range-via-then-in_range+else-seek_fits, else-in_range-via-else-in_range}

pub returns-then-message-lt-LEAST_SIZE : goal.returns-then-message-lt-LEAST_SIZE
returns-then-message-lt-LEAST_SIZE c = sym (ap asking (short c.args.message.now c.if-message-lt-LEAST_SIZE.true))

pub returns-then-seek_fits : goal.returns-then-seek_fits
returns-then-seek_fits c =
    let m = c.args.message.now in
    ap Ok (c.values.ensures ∙ ap (λ (n : ℕ). asked n m) c.word-reserved.ensures)
    ∙ sym
    (ap asking
    (read_whole m c.if-message-lt-LEAST_SIZE.false
    (rw (c.word-reserved.ensures, c.word-size.ensures, c.word-base.ensures, c.word-backward.ensures) at (sym c.if-in_range.ensures))
    (rw (c.word-seek.ensures, c.word-told.ensures) at (sym c.if-seek_fits.ensures))))

pub returns-else-in_range : goal.returns-else-in_range
returns-else-in_range c =
    let m = c.args.message.now in
    elim c.else-in_range.branch [
      | else-in_range-via-then-in_range+else-seek_fits w ↦
          sym (ap asking (seek_unfit m c.if-message-lt-LEAST_SIZE.false
          (rw (c.word-reserved.ensures, c.word-size.ensures, c.word-base.ensures, c.word-backward.ensures) at (sym w.if-in_range.ensures))
          (rw (c.word-seek.ensures, c.word-told.ensures) at (sym w.if-seek_fits.ensures))))
      | else-in_range-via-else-in_range w ↦
          sym (ap asking (unfit m c.if-message-lt-LEAST_SIZE.false
          (rw (c.word-reserved.ensures, c.word-size.ensures, c.word-base.ensures, c.word-backward.ensures) at (sym w.if-in_range.ensures))))
    ]
