-- `message_gate::gate` meets its contract: each answer is the first cause that applies, by the tests that led to it. Assumes nothing.
use mathlib.Core.Path.{sym, ap, ◌∙◌}
use Rattle.std.specs.Prelude.{Some}
use Rattle.message.specs.AnswerTold.{gated}
use Rattle.message.proofs.Gating.{unconnected, old_client, not_tested, right, wrong, told_is, kind_served, kind_tested}
use Rattle.message_gate.proofs.gate.Goals as goal
use Rattle.message_gate.proofs.gate.Goals.{then-seat-lt-CHECKED_FROM-via-then-seat-lt-CHECKED_FROM, then-seat-lt-CHECKED_FROM-via-else-seat-lt-CHECKED_FROM+then-not-tested}

pub returns-then-seat-eq0 : goal.returns-then-seat-eq0
returns-then-seat-eq0 c =
    let k = kind_served _ c.in-Some.kind (sym c.requires.2 ∙ c.in-Some.is) in
    rw c.in-Some.is (sym (ap (gated (Some c.in-Some.kind)) (unconnected c.args.seat.now c.args.message.now k c.if-seat-eq0.true)))

pub returns-then-seat-lt-CHECKED_FROM : goal.returns-then-seat-lt-CHECKED_FROM
returns-then-seat-lt-CHECKED_FROM c =
    let k = kind_served _ c.in-Some.kind (sym c.requires.2 ∙ c.in-Some.is) in
    let t = kind_tested _ c.in-Some.kind (sym c.requires.2 ∙ c.in-Some.is) in
    elim c.then-seat-lt-CHECKED_FROM.branch [
      | then-seat-lt-CHECKED_FROM-via-then-seat-lt-CHECKED_FROM w ↦ rw c.in-Some.is (sym (ap (gated (Some c.in-Some.kind)) (old_client c.args.seat.now c.args.message.now k c.if-seat-eq0.false w.if-seat-lt-CHECKED_FROM.true)))
      | then-seat-lt-CHECKED_FROM-via-else-seat-lt-CHECKED_FROM+then-not-tested w ↦ rw c.in-Some.is (sym (ap (gated (Some c.in-Some.kind)) (not_tested c.args.seat.now c.args.message.now k c.if-seat-eq0.false w.if-seat-lt-CHECKED_FROM.false (t ∙ sym w.if-not-tested.ensures))))
    ]

pub returns-then-told-checksum : goal.returns-then-told-checksum
returns-then-told-checksum c =
    let k = kind_served _ c.in-Some.kind (sym c.requires.2 ∙ c.in-Some.is) in
    let t = kind_tested _ c.in-Some.kind (sym c.requires.2 ∙ c.in-Some.is) in
    rw c.in-Some.is
    (sym
    (ap (gated (Some c.in-Some.kind))
    (right c.args.seat.now c.args.message.now k c.if-seat-eq0.false c.if-seat-lt-CHECKED_FROM.false (t ∙ sym c.if-not-tested.ensures)
    (sym c.word-told.ensures ∙ c.if-told-checksum.true ∙ c.checksum.ensures ∙ told_is c.args.message.now c.requires.0 c.requires.1))))

pub returns-else-told-checksum : goal.returns-else-told-checksum
returns-else-told-checksum c =
    let k = kind_served _ c.in-Some.kind (sym c.requires.2 ∙ c.in-Some.is) in
    let t = kind_tested _ c.in-Some.kind (sym c.requires.2 ∙ c.in-Some.is) in
    rw c.in-Some.is
    (sym
    (ap (gated (Some c.in-Some.kind))
    (wrong c.args.seat.now c.args.message.now k c.if-seat-eq0.false c.if-seat-lt-CHECKED_FROM.false (t ∙ sym c.if-not-tested.ensures)
    (λ e. c.if-told-checksum.false (c.word-told.ensures ∙ e ∙ sym (c.checksum.ensures ∙ told_is c.args.message.now c.requires.0 c.requires.1))))))
