-- A number, an absent text or a present one: each is laid by its law. Assumes nothing.
use mathlib.Core.Bool.{true, false}
use mathlib.Core.Path.{◌≡◌, refl, ◌∙◌}
use native.Mathlib.Omega.{arith}
use Rattle.std.proofs.lemmas.Grind.{common_steps}
use Rattle.wire.specs.Property.{is_number}
use Rattle.page.proofs.Column.{number_laid, found_stands, found_room, absent_laid, present_laid}
use Rattle.page_column.proofs.lay_column.Goals as goal

pub returns-then-contains : goal.returns-then-contains
returns-then-contains c =
    let a = c.args in
    let f = a.fields.now in
    let k = a.column in
    let n : is_number k.property ≡ true = grind (arith, common_steps, c.if-contains.ensures.cases, c.new.ensures) in
    number_laid a.catalogue.now f k c.requires.stands n a.base a.row a.top c.requires.offset
    _ _ _ (c.from.ensures ∙ c.number_type.ensures) c.number_of.ensures (c.from-then-contains.ensures ∙ c.number_size.ensures)
    a.reply.now _ c.lay_spans.ensures

pub returns-then-text-eq0 : goal.returns-then-text-eq0
returns-then-text-eq0 c =
    let a = c.args in
    let f = a.fields.now in
    let k = a.column in
    let n : is_number k.property ≡ false = grind (arith, common_steps, c.if-contains.ensures.cases, c.new.ensures) in
    absent_laid a.catalogue.now f k c.requires.stands n c.text_of-text.result c.text_of-text.ensures
    c.if-text-eq0.true a.base a.row a.top c.requires.offset a.reply.now _ c.lay_spans-then-text-eq0.ensures

pub lay_block-place-requires : goal.lay_block-place-requires
lay_block-place-requires c =
    let a = c.args in
    let f = a.fields.now in
    let k = a.column in
    let n : is_number k.property ≡ false = grind (arith, common_steps, c.if-contains.ensures.cases, c.new.ensures) in (
      found_stands a.catalogue.now f k c.requires.stands n c.text_of-text.result c.text_of-text.ensures,
      omega (arith, c.if-text-eq0.false),
      omega (arith, found_room a.catalogue.now f k c.requires.stands n c.text_of-text.result c.text_of-text.ensures, c.requires.room),
      c.requires.ends,
    )

pub returns : goal.returns
returns c =
    let a = c.args in
    let f = a.fields.now in
    let k = a.column in
    let n : is_number k.property ≡ false = grind (arith, common_steps, c.if-contains.ensures.cases, c.new.ensures) in
    present_laid a.catalogue.now f k c.requires.stands n c.text_of-text.result c.text_of-text.ensures
    c.if-text-eq0.false a.base a.row a.top c.lay_block-place.result _ (omega (arith, c.requires.offset, c.lay_block-place.ensures.0))
    c.lay_block-place.ensures.0 refl a.reply.now _ _ c.lay_block-place.ensures.1 c.lay_spans-2.ensures
