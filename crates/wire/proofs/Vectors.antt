-- The numbers M5 to M7 of 01, as theorems of the definition: the checksum of a header with each body.
use mathlib.Core.Path.{◌≡◌, refl}
use mathlib.Core.List.{[], ◌∷◌}
use Rattle.wire.specs.Word.{number, number_at, le}
use Rattle.wire.specs.Checksum.{sum_of_words, body_sum, checksum}
use Rattle.wire.specs.Examples.{message_of}

-- "empty body, set bindings: 0x59533889"
pub m5 : checksum (message_of 0xd0 []) ≡ 0x59533889
unfolding checksum body_sum sum_of_words number_at number le
m5 = refl

-- "words 0xFFFFFFFF, 1: the same"
pub m6 : checksum (message_of 0xd0 (0xffff_ffff ∷ 1 ∷ [])) ≡ 0x59533889
unfolding checksum body_sum sum_of_words number_at number le
m6 = refl

-- "get-rows words 1, 2, 24, 12, 20, 2048, 0, 0, 1, 0, 0: 0x59533099"
pub m7 : checksum (message_of 0xcc (1 ∷ 2 ∷ 24 ∷ 12 ∷ 20 ∷ 2048 ∷ 0 ∷ 0 ∷ 1 ∷ 0 ∷ 0 ∷ [])) ≡ 0x59533099
unfolding checksum body_sum sum_of_words number_at number le
m7 = refl
