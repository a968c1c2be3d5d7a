-- The ways that reading a message can go, and what is then told. Assumes nothing.
use mathlib.Core.Path.{◌≡◌, refl, sym, ap, ◌∙◌}
use mathlib.Core.List.{List}
use Rattle.std.specs.Prelude.{Option, None, Some}
use Prim.Native.Nat.{ℕ, ◌-◌, ◌≤◌, ◌<◌}
use borrow.Author.Tests.{le-leb, lt-leb, eq-eqb, ne_eqb}
use lib.ListN.{length}
use Rattle.wire.specs.Word.{number_at}
use Rattle.lists.proofs.Options.{none≢some, some_is}
use Rattle.bindings.specs.Column.{no_words}
use Rattle.bindings.specs.declared.Column.{Column}
use Rattle.bindings.proofs.Records.{kept_words}
use Rattle.bindings.specs.Plain.{Bindings}
use Rattle.bindings.specs.BindingsPlaces.{width_at, described_at, count_at, columns_at, columns_on, bindings_on, keeping}
use Rattle.wire.specs.Header.{handle_at}
use Rattle.bindings.specs.BindingsTold.{answer, words_read, Told}
use Rattle.bindings.proofs.Bindings.{columns_count}
use Rattle.bindings.proofs.Agree.{bindings_agree}

-- what is told of what is read by places
told_on : (m : List ℕ) (o : Option Bindings) → bindings_on m ≡ o → Told m (answer o) (words_read o)
told_on m o e = let f = sym (bindings_agree m ∙ e) in record { answered = ap answer f; left = ap words_read f }

module _ (m : List ℕ) where
  -- the message ends early
  pub told_short : length m < columns_at → Told m None no_words
  unfolding bindings_on
  told_short h = told_on m None (rw (lt-leb columns_at (length m) h))

  module _ (h : columns_at ≤ length m) where
    -- another length is described
    pub told_described : (number_at 4 m described_at ≡ length m - count_at → ⊥) → Told m None no_words
    unfolding bindings_on
    told_described d = told_on m None (rw (le-leb columns_at (length m) h, ne_eqb (number_at 4 m described_at) (length m - count_at) d))

    module _ (d : number_at 4 m described_at ≡ length m - count_at) where
      -- its columns are malformed, or they are read
      pub told_columns : None ≡ keeping 0 no_words (columns_on (number_at 4 m count_at) m columns_at) → Told m None no_words
      unfolding bindings_on
      told_columns e =
          told_on m None
          (rw (le-leb columns_at (length m) h, eq-eqb (number_at 4 m described_at) (length m - count_at) d, nothing (columns_on (number_at 4 m count_at) m columns_at) e))
        where
          nothing : (o : Option (List Column)) → None ≡ keeping 0 no_words o → o ≡ None
          nothing None f = refl
          nothing (Some s) f = absurd (none≢some f)

      told_these : (s : List Column) → columns_on (number_at 4 m count_at) m columns_at ≡ Some s
          → Told m (answer (Some (record { handle = number_at 4 m handle_at; width = number_at 4 m width_at; columns = s })))
          (words_read (Some (record { handle = number_at 4 m handle_at; width = number_at 4 m width_at; columns = s })))
      unfolding bindings_on
      told_these s e =
          told_on m (Some (record { handle = number_at 4 m handle_at; width = number_at 4 m width_at; columns = s }))
          (rw (le-leb columns_at (length m) h, eq-eqb (number_at 4 m described_at) (length m - count_at) d, e))

      pub told_some : (exit : List ℕ) → Some exit ≡ keeping 0 no_words (columns_on (number_at 4 m count_at) m columns_at)
          → Told m (Some (record { handle = number_at 4 m handle_at; width = number_at 4 m width_at; count = number_at 4 m count_at })) exit
      told_some exit e = go (columns_on (number_at 4 m count_at) m columns_at) refl e
        where
          go : (o : Option (List Column)) → columns_on (number_at 4 m count_at) m columns_at ≡ o → Some exit ≡ keeping 0 no_words o
              → Told m (Some (record { handle = number_at 4 m handle_at; width = number_at 4 m width_at; count = number_at 4 m count_at })) exit
          go None f g = absurd (none≢some (sym g))
          go (Some s) f g =
              rw (some_is g, kept_words s, ← columns_count (number_at 4 m count_at) m columns_at s f)
              (told_these s f)
