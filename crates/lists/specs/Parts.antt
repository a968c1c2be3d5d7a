-- Parts of a list by their places: the members from a place on, others put in their place, and runs of zeros.
use Rattle.std.specs.Prelude.{List, ◌++◌, ℕ, ◌-◌, take, drop, replicate}

-- the n members from a place on, and the list with others in that place
abbrev pub part : List ℕ → ℕ → ℕ → List ℕ
part t at n = take n (drop at t)

abbrev pub put : List ℕ → ℕ → ℕ → List ℕ → List ℕ
put t at n other = take at t ++ (other ++ drop n (drop at t))

-- the members from a place to another
abbrev pub between : ℕ → ℕ → List ℕ → List ℕ
between first last t = part t first (last - first)

-- n zeros
abbrev pub zeros : ℕ → List ℕ
zeros n = replicate n 0
