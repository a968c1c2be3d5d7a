-- `wire_checksum::checksum` meets its contract: the test of the size picks the case. Assumes nothing.
use borrow.Author.Rules.{rules}
use mathlib.Core.Path.{◌≡◌, sym, ◌∙◌}
use Rattle.wire.specs.Checksum.{message_sized, checksum_told}
use Rattle.wire_checksum.proofs.checksum.Goals as goal

pub returns-then-contains : goal.returns-then-contains
unfolding checksum_told
returns-then-contains c =
    let sized : c.contains.result ≡ message_sized c.args.message.now = search rules in
    rw (sym sized ∙ c.if-contains.true) (c.from.ensures ∙ c.checksum_of.ensures)

pub returns-else-contains : goal.returns-else-contains
unfolding checksum_told
returns-else-contains c =
    let sized : c.contains.result ≡ message_sized c.args.message.now = search rules in
    rw (sym sized ∙ c.if-contains.false)
