-- The table of numbers holds, by computation. Assumes nothing.
use mathlib.Core.Path.{refl}
use native.Mathlib.Omega.{arith}
use Rattle.lists.specs.Below.{some_below, every_below}
use Rattle.wire.specs.Word.{number, number_at, le}
use Rattle.wire.specs.Checksum.{sum_of_words, body_sum, checksum}
use Rattle.catalogue.specs.Groups as Groups
use Rattle.tree.specs.Phrase.{stands_at, starts_word, ends_word, occurs_at, occurs}
use Rattle.wire.specs.Padding.{zero_at}
use Rattle.wire.specs.PropertySpec.{set_ours, property_at}
use Rattle.tree.specs.Parts.{relation_at}
use Rattle.tree.specs.Reader.{read_tree, restriction}
use Rattle.refusal.specs.Refusal.{first_cause}
use Rattle.fetch.specs.Request.{request}
use Rattle.page.specs.Rows.{blocks, all_blocks, returned}
use Rattle.lists.specs.Each.{Each}
use Rattle.promises.specs.Numbers.{Holds, facts}

pub all_hold : Each Holds facts
unfolding Each Groups.number Groups.groups Groups.groups_of checksum body_sum sum_of_words number_at number le occurs occurs_at stands_at starts_word ends_word some_below every_below blocks all_blocks returned first_cause request restriction read_tree relation_at property_at set_ours zero_at
all_hold = (
  (refl, refl),
  (
    (refl, refl),
    (
      (refl, refl),
      (
        refl,
        (
          refl,
          (
            refl,
            (
              refl,
              (
                (refl, refl),
                (
                  (refl, refl),
                  (
                    (refl, refl),
                    (
                      (omega arith, λ h. omega arith),
                      ((refl, refl), ((refl, refl), (refl, (refl, (refl, (refl, tt)))))),
                    ),
                  ),
                ),
              ),
            ),
          ),
        ),
      ),
    ),
  ),
)
