-- Nothing where the value is not used, else the text's block below the place. Assumes nothing.
use Rattle.catalogue.specs.CataloguePlaces.{text_of}
use Rattle.page.specs.Field.{text_field}
use Rattle.page.proofs.Column.{block_unlaid, block_laid}
use Rattle.page_block.proofs.lay_block.Goals as goal

pub returns-then-used-ne1 : goal.returns-then-used-ne1
returns-then-used-ne1 c =
    let a = c.args in
    block_unlaid a.reply.now a.used a.top a.text (text_field (text_of a.catalogue.now a.text)) c.if-used-ne1.true

pub returns : goal.returns
returns c =
    let a = c.args in
    block_laid a.catalogue.now a.reply.now c.lay_text.new.reply a.used a.top a.text c.if-used-ne1.false c.requires.1 c.lay_text.ensures
