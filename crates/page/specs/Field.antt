-- What a row has for a property (01, "The option catalogue": "property numbers 2 key, 3 language, 4 default, 5 label, 6 note").
use Rattle.std.specs.Prelude.{List, ℕ, eqb, Option, None, Some}
use Rattle.lists.specs.Below.{pick}
use Rattle.catalogue.specs.Plain.{Row}
use Rattle.wire.specs.Property.{key_property, language_property, default_property, label_property}

-- a number; a text that is present, by its units; or a text that is absent
pub data Field : Type 0 where
  number : ℕ → Field
  text : List ℕ → Field
  absent : Field

-- a text that may be absent
abbrev pub text_field : Option (List ℕ) → Field
text_field None = absent
text_field (Some units) = text units

-- one of five, by a property number
abbrev pub by_property : {A : Type 0} → ℕ → A → A → A → A → A → A
by_property property key language default label note =
    pick (eqb property key_property) key
    (pick (eqb property language_property) language
    (pick (eqb property default_property) default (pick (eqb property label_property) label note)))

-- the field of a row that a property names
abbrev pub field_of : ℕ → Row → Field
field_of property r =
    by_property property (number r.key) (number r.language) (number r.default) (text_field r.label) (text_field r.note)
