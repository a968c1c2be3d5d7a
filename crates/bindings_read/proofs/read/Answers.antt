-- Whatever is malformed leaves the words clear; what is read is what the columns leave of clear words. Assumes nothing.
use mathlib.Core.Path.{sym, ◌∙◌}
use native.Mathlib.Omega.{arith}
use Rattle.std.proofs.lemmas.Grind.{common_steps}
use Rattle.bindings.proofs.Told.{told_short, told_described, told_columns, told_some}
use Rattle.bindings_read.proofs.read.Goals as goal

pub returns-then-message-lt-COLUMNS_AT : goal.returns-then-message-lt-COLUMNS_AT
returns-then-message-lt-COLUMNS_AT c = rw c.clear.ensures (told_short c.args.message.now c.if-message-lt-COLUMNS_AT.true)

pub returns-then-described-message : goal.returns-then-described-message
returns-then-described-message c =
    rw c.clear.ensures
    (told_described c.args.message.now c.if-message-lt-COLUMNS_AT.false (λ e. c.if-described-message.true (c.word-described.ensures ∙ e)))

pub returns-then-is_none : goal.returns-then-is_none
returns-then-is_none c =
    rw c.clear-then-is_none.ensures
    (told_columns c.args.message.now c.if-message-lt-COLUMNS_AT.false (sym c.word-described.ensures ∙ c.if-described-message.false)
    (grind (arith, common_steps)))

pub returns : goal.returns
returns c =
    rw (c.word.ensures, c.word-2.ensures, c.word-count.ensures)
    (told_some c.args.message.now c.if-message-lt-COLUMNS_AT.false (sym c.word-described.ensures ∙ c.if-described-message.false) c.read_columns.new.records
    (grind (arith, common_steps)))
