-- The body of a request for rows (01, "Rows"): "_hCursor, _cRowsToTransfer, _cbRowWidth, _cbSeek, _cbReserved, _cbReadBuffer,
-- _ulClientBase, _fBwdFetch, eType, _chapt, seek". Places count from the message's first byte, so the body begins at 16.
use Rattle.std.specs.Prelude.{Bool, true, List, ℕ, ◌+◌, ◌%◌, ◌≤◌, leb, eqb, length, Option, None, Some}
use Rattle.lists.specs.Below.{pick, both}
use Rattle.wire.specs.Word.{number_at}
use Rattle.fetch.specs.declared.Request.{Request}
use Rattle.wire.specs.Header.{handle_at, message_most}

-- _cRowsToTransfer
abbrev pub asked_at : ℕ
asked_at = 20

-- _cbRowWidth
abbrev pub width_at : ℕ
width_at = 24

-- _cbSeek
abbrev pub seek_size_at : ℕ
seek_size_at = 28

-- _cbReserved
abbrev pub reserved_at : ℕ
reserved_at = 32

-- _cbReadBuffer
abbrev pub size_at : ℕ
size_at = 36

-- _ulClientBase
abbrev pub base_at : ℕ
base_at = 40

-- _fBwdFetch
abbrev pub backward_at : ℕ
backward_at = 44

-- eType
abbrev pub seek_at : ℕ
seek_at = 48

-- _chapt
abbrev pub chapter_at : ℕ
chapter_at = 52

-- seek: its one word, the skip
abbrev pub skip_at : ℕ
skip_at = 56

-- "Malformed: under 40 bytes": the header has sixteen more
abbrev pub least_size : ℕ
least_size = 56

-- "_cbReadBuffer (call it B) not a multiple of 512 from 512 to 16,384"
abbrev pub sized : ℕ → Bool
sized size = both (both (leb 512 size) (leb size message_most)) (eqb (size % 512) 0)

-- "_cbReserved not 20 to 64; _cbReadBuffer ..; _ulClientBase + B above 4,294,967,295; _fBwdFetch above 1"
abbrev pub in_range : ℕ → ℕ → ℕ → ℕ → Bool
in_range reserved size base backward =
    both (both (leb 20 reserved) (leb reserved 64)) (both (sized size) (both (leb (base + size) 4294967295) (leb backward 1)))

-- "or eType 1 with a body other than 44 bytes or _cbSeek other than 12"; of another eType neither is judged
abbrev pub seek_fits : ℕ → ℕ → ℕ → Bool
seek_fits size seek told = pick (eqb seek 1) (both (eqb size 60) (eqb told 12)) true

-- the values: "R = _cbReserved + 12", and the seek's one word is the skip
abbrev pub asked : ℕ → List ℕ → Request
asked reserved m =
    record {
      handle = number_at 4 m handle_at;
      asked = number_at 4 m asked_at;
      width = number_at 4 m width_at;
      from = reserved + 12;
      size = number_at 4 m size_at;
      base = number_at 4 m base_at;
      backward = number_at 4 m backward_at;
      seek = number_at 4 m seek_at;
      chapter = number_at 4 m chapter_at;
      skip = number_at 4 m skip_at;
    }

-- whether the body is that of a request
abbrev pub well_formed : List ℕ → Bool
well_formed m =
    both (leb least_size (length m))
    (both (in_range (number_at 4 m reserved_at) (number_at 4 m size_at) (number_at 4 m base_at) (number_at 4 m backward_at))
    (seek_fits (length m) (number_at 4 m seek_at) (number_at 4 m seek_size_at)))

-- the request, or none where the body is malformed (refusal 9)
unfoldable pub request : List ℕ → Option Request
request m = pick (well_formed m) (Some (asked (number_at 4 m reserved_at) m)) None

-- what the limits leave of a request's values
pub record Sound (q : Request) : Type 0 where
  pub from_least : 32 ≤ q.from
  pub from_most : q.from ≤ 76
  pub least : 512 ≤ q.size
  pub most : q.size ≤ message_most
  pub reach : q.base + q.size ≤ 4294967295
