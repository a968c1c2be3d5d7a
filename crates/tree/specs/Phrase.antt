-- Where a phrase occurs in a text (01, "Restriction trees": "A phrase occurs where its units stand in a row, starting at the
-- text's start or after unit 0x0020 and, for method 0, ending at the text's end or before 0x0020."). Both are lists of units.
-- It is said twice: as a proposition, to be believed, and as a test, to be computed. proofs/Phrase.antt shows them the same.
use Rattle.std.specs.Prelude.{◌≡◌, Bool, true, List, ◌⊎◌, ℕ, ◌+◌, ◌-◌, ◌≤◌, ◌<◌, leb, eqb, length, get_or}
use Rattle.lists.specs.Below.{pick, both, either, some_below, every_below}

-- the unit that parts words
abbrev pub space : ℕ
space = 0x0020

-- the method that asks for the right edge; the other one served, 1, lets a word go on past the phrase
abbrev pub exact : ℕ
exact = 0

-- the phrase occurs at a place
pub record OccursAt (method : ℕ) (phrase text : List ℕ) (place : ℕ) : Type 0 where
  -- "its units stand in a row"
  pub room : place + length phrase ≤ length text
  pub row : (i : ℕ) → i < length phrase → get_or phrase i 0 ≡ get_or text (place + i) 0
  -- "starting at the text's start or after unit 0x0020"
  pub left : (place ≡ 0) ⊎ (get_or text (place - 1) 0 ≡ space)
  -- "for method 0, ending at the text's end or before 0x0020"
  pub right : method ≡ exact → (place + length phrase ≡ length text) ⊎ (get_or text (place + length phrase) 0 ≡ space)

-- "A phrase occurs where ..": there is such a place
abbrev pub Occurs : ℕ → List ℕ → List ℕ → Type 0
Occurs method phrase text = (place : ℕ) × OccursAt method phrase text place

-- "its units stand in a row"
unfoldable pub stands_at : List ℕ → List ℕ → ℕ → Bool
stands_at phrase text place =
    both (leb (place + length phrase) (length text)) (every_below (length phrase) (λ i. eqb (get_or phrase i 0) (get_or text (place + i) 0)))

-- "starting at the text's start or after unit 0x0020"
unfoldable pub starts_word : List ℕ → ℕ → Bool
starts_word text place = either (eqb place 0) (eqb (get_or text (place - 1) 0) space)

-- "ending at the text's end or before 0x0020"
unfoldable pub ends_word : List ℕ → ℕ → Bool
ends_word text place = either (eqb place (length text)) (eqb (get_or text place 0) space)

-- the test of a place; method 0, and no other, asks for the right edge
unfoldable pub occurs_at : ℕ → List ℕ → List ℕ → ℕ → Bool
occurs_at method phrase text place =
    both
    (starts_word text place)
    (both (stands_at phrase text place) (pick (eqb method exact) (ends_word text (place + length phrase)) true))

-- the test of a phrase and a text: some place from the text's start to its end passes
unfoldable pub occurs : ℕ → List ℕ → List ℕ → Bool
occurs method phrase text = some_below (length text + 1) (occurs_at method phrase text)
