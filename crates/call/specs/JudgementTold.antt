-- What the judgement that every call begins with says, and what it leaves.
use Rattle.std.specs.Prelude.{◌≡◌, List, ℕ, Result}
use Rattle.lists.specs.Below.{pick, within}
use Rattle.catalogue.specs.CataloguePlaces.{checked, row_count, noted}
use Rattle.refusal.specs.declared.Refusal.{Refusal}
use Rattle.refusal.specs.Refusal.{first_cause}
use Rattle.refusal.specs.Numbers.{refusing}
use Rattle.call.specs.Step.{sources_of, judging}

-- the first of refusals 1 to 3
abbrev pub judged_by : List ℕ → List ℕ → ℕ → ℕ
judged_by t s seat = first_cause (judging (sources_of s) t seat)

-- the answer by its refusal: the row count where there is none
abbrev pub judged_with : ℕ → List ℕ → Result ℕ Refusal
judged_with refusal s = refusing refusal (row_count (checked s))

-- the array of places afterwards: as it was where 1 or 2 refuses, before the catalogue is looked at; else what the check notes
abbrev pub placed_with : ℕ → List ℕ → List ℕ → List ℕ
placed_with refusal s held = pick (within 1 2 refusal) held (noted s held)

-- the answer, and the places in the lent array
pub record Judgement (t s : List ℕ) (seat : ℕ) (r : Result ℕ Refusal) (held found : List ℕ) : Type 0 where
  pub answered : r ≡ judged_with (judged_by t s seat) s
  pub placed : found ≡ placed_with (judged_by t s seat) s held
