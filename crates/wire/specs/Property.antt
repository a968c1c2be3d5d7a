-- The properties, and the types and sizes of their cells (01, "The option catalogue" and "Bindings").
use Rattle.std.specs.Prelude.{Bool, ℕ, eqb}
use Rattle.lists.specs.Below.{pick, both, within}

-- "property numbers 2 key, 3 language, 4 default, 5 label, 6 note"
abbrev pub key_property : ℕ
key_property = 2

abbrev pub language_property : ℕ
language_property = 3

abbrev pub default_property : ℕ
default_property = 4

abbrev pub label_property : ℕ
label_property = 5

abbrev pub note_property : ℕ
note_property = 6

-- "property unknown"
abbrev pub known : ℕ → Bool
known property = within key_property note_property property

-- "on properties 2 to 4": those that are numbers
abbrev pub is_number : ℕ → Bool
is_number property = within key_property default_property property

-- "0x000C with value size 16, or 0x0013 with size 4 on properties 2 to 4"
abbrev pub variant_type : ℕ
variant_type = 0x000C

abbrev pub variant_size : ℕ
variant_size = 16

abbrev pub number_type : ℕ → ℕ
number_type property = 0x0013

abbrev pub number_size : ℕ → ℕ
number_size property = 4

-- the size of a cell of a type on a property; 0 for a type that the property does not have
abbrev pub cell_size : ℕ → ℕ → ℕ
cell_size property type =
    pick (eqb type variant_type) variant_size
    (pick (both (is_number property) (eqb type (number_type property))) (number_size property) 0)

-- "status of 1 byte, length of 4"
abbrev pub status_size : ℕ
status_size = 1

abbrev pub length_size : ℕ
length_size = 4

-- "properties 5 and 6"
abbrev pub is_text : ℕ → Bool
is_text property = within label_property note_property property

-- of what a row has for each of its numbers, and for each of its texts, what it has for the property
abbrev pub of_numbers : {A : Type 0} → ℕ → A → A → A → A
of_numbers property key language default = pick (eqb property key_property) key (pick (eqb property language_property) language default)

abbrev pub of_texts : {A : Type 0} → ℕ → A → A → A
of_texts property label note = pick (eqb property label_property) label note
