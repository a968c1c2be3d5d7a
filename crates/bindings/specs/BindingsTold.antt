-- What the reader of a message answers, and the words that it leaves.
use Rattle.std.specs.Prelude.{◌≡◌, List, ℕ, length, Option, None, Some}
use Rattle.bindings.specs.Column.{no_words, words_of}
use Rattle.bindings.specs.Plain.{Bindings, bindings}
use Rattle.bindings.specs.declared.BindingsRead.{BindingsRead}

-- what is told but for the columns; nothing where the message is malformed (refusal 9)
abbrev pub answer : Option Bindings → Option BindingsRead
answer None = None
answer (Some b) = Some (record { handle = b.handle; width = b.width; count = length b.columns })

-- the first five columns in nine words each, zeros past the last; all zeros where the message is malformed
abbrev pub words_read : Option Bindings → List ℕ
words_read None = no_words
words_read (Some b) = words_of b.columns

pub record Told (m : List ℕ) (r : Option BindingsRead) (exit : List ℕ) : Type 0 where
  pub answered : r ≡ answer (bindings m)
  pub left : exit ≡ words_read (bindings m)
