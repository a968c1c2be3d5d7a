-- What the judgement of a call hands on: the catalogue's rows at their places, and a seat's row numbers below their count.
-- Assumes nothing.
use mathlib.Core.Path.{◌≡◌, refl, sym, ap, subst, ◌∙◌}
use mathlib.Core.Bool.{true}
use mathlib.Core.List.{List, [], ◌∷◌, map}
use Rattle.std.specs.Prelude.{Option, None, Some}
use Prim.Native.Nat.{ℕ, zero, suc, ◌+◌, ◌-◌, ◌*◌, ◌<◌}
use native.Mathlib.Nat.{not-suc-le-zero, le_of_suc-le-suc}
use native.Mathlib.Omega.{arith}
use lib.ListN.{length, get_or, take, drop, length-map}
use Rattle.lists.proofs.Below.{true≢false}
use Rattle.catalogue.specs.Plain.{Row, catalogue, rows_of, row_in}
use Rattle.catalogue.specs.CataloguePlaces.{places, row_seen}
use Rattle.catalogue.proofs.Agree.{catalogue_agrees}
use Rattle.tree.specs.SelectReady.{NotedReady}
use Rattle.tree.proofs.SelectLaws as Laws
use Rattle.table.specs.Layout.{seats, seat_size}
use Rattle.table.specs.Well.{seat_below}
use Rattle.lists.proofs.Parts.{part_is}
use Rattle.catalogue.specs.CatalogueReady.{PlacesReady}
use Rattle.message.specs.AnswerReady.{SourcesReady}
use Rattle.call.specs.Step.{rows_hold, seat_held}
use Rattle.call.proofs.Passing.{seat_below_lem}

-- a member of a list of rows seen at places
row_at_lem : (s at : List ℕ) (k : ℕ) → k < length at → row_in (map (row_seen s) at) k ≡ row_seen s (get_or at k 0)
row_at_lem s [] k h = absurd (not-suc-le-zero h)
row_at_lem s (p ∷ at) zero h = refl
row_at_lem s (p ∷ at) (suc k) h = row_at_lem s at k (le_of_suc-le-suc h)

pub noted_placed : (s : List ℕ) (rows : ℕ) (held : List ℕ) → NotedReady s rows held → PlacesReady s held
noted_placed s rows held n =
    rw seen
    (λ k h.
    (Laws.stands s rows held n k (inside k h), ap (row_seen s) (Laws.noted_at s rows held n k (inside k h)) ∙ sym (row_at_lem s (places s) k (before k h))))
  where
    seen : rows_of (catalogue s) ≡ map (row_seen s) (places s)
    seen = rw (catalogue_agrees s, Laws.well_formed_lem s rows held n)

    before : (k : ℕ) → k < length (map (row_seen s) (places s)) → k < length (places s)
    before k h = omega (arith, length-map (places s) (row_seen s))

    inside : (k : ℕ) → k < length (map (row_seen s) (places s)) → k < rows
    inside k h = omega (arith, before k h, Laws.counted s rows held n)

-- so a seat's words and the places may be handed on
pub sourced : (s t : List ℕ) (seat rows : ℕ) (held : List ℕ) → seat < seats → rows_hold (catalogue s) t ≡ true → NotedReady s rows held
    → SourcesReady (take (seat_size * seat + seat_size - seat_size * seat) (drop (seat_size * seat) t)) s held
sourced s t seat rows held l h n =
    subst (λ (b : List ℕ). SourcesReady b s held) (sym (part_is t (seat_size * seat) seat_size))
    (record { below = go (catalogue s) h; placed = noted_placed s rows held n })
  where
    go : (found : Option (List Row)) → rows_hold found t ≡ true → seat_below (length (rows_of found)) (seat_held t seat) ≡ true
    go None e = absurd (true≢false (sym e))
    go (Some found) e = seat_below_lem (length found) t e seat l
