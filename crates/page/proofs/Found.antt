-- The fields found at a place: they stand in the catalogue, are small, and are those of its row. Assumes nothing.
use mathlib.Core.Path.{◌≡◌, ap, ◌∙◌}
use mathlib.Core.List.{List}
use Prim.Native.Nat.{ℕ}
use Rattle.catalogue.specs.CataloguePlaces.{row_of, row_seen, fields_seen}
use Rattle.catalogue.specs.CatalogueReady.{FieldsReady}
use Rattle.catalogue.specs.declared.Fields.{Fields}
use Rattle.page.specs.FieldReady.{SizesReady}
use Rattle.catalogue.proofs.RowLaws.{seen_stand, seen_row_lem}

-- the fields that were found at a place
module _ (s : List ℕ) (at : ℕ) (f : Fields) (is : f ≡ fields_seen s at) where
  pub fields_stand : FieldsReady s f
  fields_stand = rw is (seen_stand s at)

  pub fields_row : row_of s f ≡ row_seen s at
  fields_row = ap (row_of s) is ∙ seen_row_lem s at

  pub fields_small : SizesReady f
  fields_small = (fields_stand.label.small, fields_stand.note.small)
