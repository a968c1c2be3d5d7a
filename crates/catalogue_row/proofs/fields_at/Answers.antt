-- `catalogue_row::fields_at` meets its contract: its texts stand where its numbers end. Assumes nothing.
use Rattle.std.proofs.Common.{sym}
use Rattle.catalogue.specs.CataloguePlaces.{row_at}
use Rattle.catalogue.proofs.RowLaws.{key_there, language_there, default_there, label_there, note_there}
use Rattle.catalogue_row.proofs.fields_at.Goals as goal

pub key_again-key-requires : goal.key_again-key-requires
key_again-key-requires c = key_there c.args.catalogue.now c.args.at c.requires

pub number_again-language-requires : goal.number_again-language-requires
number_again-language-requires c = language_there c.args.catalogue.now c.args.at _ _ (sym c.key_again-key.ensures) c.requires

pub number_again-default-requires : goal.number_again-default-requires
number_again-default-requires c =
    default_there c.args.catalogue.now c.args.at _ _ (sym c.key_again-key.ensures) _ _ (sym c.number_again-language.ensures) c.requires

pub text_again-at4-requires : goal.text_again-at4-requires
text_again-at4-requires c =
    label_there c.args.catalogue.now c.args.at _ _ _ _ _ _
    (sym c.key_again-key.ensures)
    (sym c.number_again-language.ensures)
    (sym c.number_again-default.ensures)
    c.requires

pub text_again-requires : goal.text_again-requires
text_again-requires c =
    note_there c.args.catalogue.now c.args.at _ _ _ _ _ _
    (sym c.key_again-key.ensures)
    (sym c.number_again-language.ensures)
    (sym c.number_again-default.ensures)
    c.requires
    _
    _
    (sym c.text_again-at4.ensures)

pub returns : goal.returns
unfolding row_at
returns c =
    rw (
      sym c.key_again-key.ensures,
      sym c.number_again-language.ensures,
      sym c.number_again-default.ensures,
      sym c.text_again-at4.ensures,
      sym c.text_again.ensures,
    )
