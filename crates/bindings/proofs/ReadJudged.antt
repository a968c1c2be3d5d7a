-- What the reader of a message tells: any two answers that its contract allows agree, and judging the words that it leaves judges the
-- columns of the message. Assumes nothing.
use mathlib.Core.Path.{◌≡◌, sym, ap, ◌∙◌}
use mathlib.Core.List.{List}
use Rattle.std.specs.Prelude.{Option, Some}
use Prim.Native.Nat.{ℕ}
use lib.ListN.{length}
use Rattle.lists.proofs.Options.{some_is}
use Rattle.bindings.specs.Column.{columns_of}
use Rattle.bindings.specs.Fit.{fit}
use Rattle.bindings.proofs.Records.{fit_words}
use Rattle.bindings.specs.Plain.{Bindings, bindings}
use Rattle.bindings.specs.BindingsTold.{answer, words_read, Told}
use Rattle.bindings.specs.declared.BindingsRead.{BindingsRead}

pub told_once : (m : List ℕ) (r r' : Option BindingsRead) (exit exit' : List ℕ) → Told m r exit → Told m r' exit' → (r ≡ r') × (exit ≡ exit')
told_once m r r' exit exit' t u = (t.answered ∙ sym u.answered, t.left ∙ sym u.left)

pub told_fit : (m : List ℕ) (r : BindingsRead) (exit : List ℕ) (b : Bindings) → Told m (Some r) exit → bindings m ≡ Some b
    → fit r.width (columns_of r.count exit) ≡ fit b.width b.columns
told_fit m r exit b t e =
    let a : r ≡ record { handle = b.handle; width = b.width; count = length b.columns } = some_is (t.answered ∙ ap answer e) in
    let w = t.left ∙ ap words_read e in
    rw (a, w) (fit_words b.width b.columns)
