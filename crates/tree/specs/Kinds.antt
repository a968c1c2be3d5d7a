-- The kinds of a node, and the bytes that a node begins with (01, "Restriction trees"; source, 2.2.1.7 and 2.2.1.16).
use Rattle.std.specs.Prelude.{Bool, ℕ, ◌+◌, eqb}
use Rattle.lists.specs.Below.{either}

-- "Served: and 1, or 2, not 3, content 4, property 5"
abbrev pub and_kind : ℕ
and_kind = 1

abbrev pub or_kind : ℕ
or_kind = 2

abbrev pub not_kind : ℕ
not_kind = 3

abbrev pub content_kind : ℕ
content_kind = 4

abbrev pub property_kind : ℕ
property_kind = 5

-- a node that has a list of children
abbrev pub is_branch : ℕ → Bool
is_branch kind = either (eqb kind and_kind) (eqb kind or_kind)

-- _ulType and Weight; "Weight .. read and ignored"
abbrev pub head_size : ℕ
head_size = 8

-- the same and _cNode, the count of children
abbrev pub list_head : ℕ
list_head = head_size + 4
