-- What is kept of a part of a line, what is loaded of it, and the place after a run is one outcome: the contracts allow no two.
-- Assumes nothing.
use mathlib.Core.Path.{◌≡◌, sym, ◌∙◌}
use mathlib.Core.Bool.{Bool}
use mathlib.Core.List.{List}
use Prim.Native.Nat.{ℕ}
use Rattle.line.specs.declared.Place.{Place}
use Rattle.line.specs.Kept.{Kept}
use Rattle.line.specs.DigitsTold.{Loaded}
use Rattle.line.specs.RunTold.{Passed}

pub record Same (r r' : Place) (exit exit' : List ℕ) : Type 0 where
  pub bytes : exit ≡ exit'
  pub kept : r.kept ≡ r'.kept
  pub cut : r.cut ≡ r'.cut
  pub number : r.number ≡ r'.number
  pub catalogue : r.catalogue ≡ r'.catalogue
  pub used : r.used ≡ r'.used

pub kept_once : (line : List ℕ) (p : Place) (part : List ℕ) (r r' : Place) (exit exit' : List ℕ) → Kept line p part r exit
    → Kept line p part r' exit' → Same r r' exit exit'
kept_once line p part r r' exit exit' a b = record {
  bytes = a.bytes ∙ sym b.bytes;
  kept = a.kept ∙ sym b.kept;
  cut = a.cut ∙ sym b.cut;
  number = a.number ∙ sym b.number;
  catalogue = a.catalogue ∙ sym b.catalogue;
  used = a.used ∙ sym b.used;
}

pub loaded_once : (digits : List ℕ) (r r' : ℕ) (entry exit exit' : List ℕ) → Loaded digits r entry exit → Loaded digits r' entry exit'
    → (r ≡ r') × (exit ≡ exit')
loaded_once digits r r' entry exit exit' a b = (a.counted ∙ sym b.counted, a.laid ∙ sym b.laid)

pub passed_once : (kind : ℕ → Bool) (bytes : List ℕ) (at r r' : ℕ) → Passed kind bytes at r → Passed kind bytes at r' → r ≡ r'
passed_once kind bytes at r r' a b = a.place ∙ sym b.place
