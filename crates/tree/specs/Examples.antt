-- Worked texts and trees, as units and as bytes.
use Rattle.std.specs.Prelude.{List, [], ◌∷◌, ◌++◌, ℕ, zero, suc, length}
use Rattle.tree.specs.Phrase.{space}
use Rattle.wire.specs.Word.{le}
use Rattle.catalogue.specs.Writer.{unit_bytes}
use Rattle.wire.specs.PropertySpec.{spec}

-- "start", "starting", "restart", "re start", "re starting start" and "a re start b", as units
abbrev pub start : List ℕ
start = 115 ∷ 116 ∷ 97 ∷ 114 ∷ 116 ∷ []

abbrev pub starting : List ℕ
starting = start ++ 105 ∷ 110 ∷ 103 ∷ []

abbrev pub re : List ℕ
re = 114 ∷ 101 ∷ []

abbrev pub restart : List ℕ
restart = re ++ start

abbrev pub re_start : List ℕ
re_start = re ++ space ∷ start

abbrev pub re_starting_start : List ℕ
re_starting_start = re ++ space ∷ starting ++ space ∷ start

abbrev pub a_re_start_b : List ℕ
a_re_start_b = 97 ∷ space ∷ re_start ++ space ∷ 98 ∷ []

-- _ulType and a weight
abbrev pub head : ℕ → List ℕ
head kind = le 4 kind ++ le 4 1000

-- a property leaf; a content leaf, with the padding after its units
abbrev pub related : ℕ → ℕ → ℕ → List ℕ
related relop property value = head 5 ++ (le 4 relop ++ (spec property ++ (le 2 0x13 ++ (le 2 0 ++ le 4 value))))

abbrev pub phrased : ℕ → List ℕ → List ℕ → ℕ → List ℕ
phrased property units pad method = head 4 ++ (spec property ++ (le 4 (length units) ++ (unit_bytes units ++ (pad ++ (le 4 1033 ++ le 4 method)))))

-- an and or an or of some children; nots around a tree; a tree some times
abbrev pub several : ℕ → ℕ → List ℕ → List ℕ
several kind count children = head kind ++ (le 4 count ++ children)

abbrev pub nots : ℕ → List ℕ → List ℕ
nots zero s = s
nots (suc n) s = head 3 ++ nots n s

abbrev pub times : ℕ → List ℕ → List ℕ
times zero s = []
times (suc n) s = s ++ times n s
