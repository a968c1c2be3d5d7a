-- `message_answer::answer_on` meets its contract: refusals 6 to 8 are judged, then the kind picks the function. Assumes nothing.
use Rattle.std.specs.Prelude.{Option, Ok}
use Rattle.message.specs.declared.Kind.{Kind}
use Rattle.message.proofs.Answering.{words_is, gate_answers, admitted}
use Rattle.message.proofs.Gating.{gate_refuses}
use Rattle.message.specs.Message.{kind_of, gate_causes}
use Rattle.message.specs.AnswerTold.{kind_at, gated}
use Rattle.refusal.specs.Refusal.{first_cause}
use Rattle.catalogue.specs.Plain.{rows_of, catalogue}
use Rattle.table.specs.Seat.{seat_of}
use Prim.Native.Nat.{ℕ}
use mathlib.Core.Path.{sym, ap, ◌∙◌}
use Rattle.message_answer.proofs.answer_on.Goals as goal

pub disconnect-requires : goal.disconnect-requires
disconnect-requires c = admitted c.requires.0 c.word-msg.ensures c.kind-kind.ensures (ap Ok (sym c.in-Ok-Disconnect.field-0-is) ∙ sym c.in-Ok-Disconnect.is ∙ c.gate.ensures)

pub free-requires : goal.free-requires
free-requires c = admitted c.requires.0 c.word-msg.ensures c.kind-kind.ensures (ap Ok (sym c.in-Ok-FreeCursor.field-0-is) ∙ sym c.in-Ok-FreeCursor.is ∙ c.gate.ensures)

pub fetch-requires : goal.fetch-requires
fetch-requires c = (admitted c.requires.0 c.word-msg.ensures c.kind-kind.ensures (ap Ok (sym c.in-Ok-GetRows.field-0-is) ∙ sym c.in-Ok-GetRows.is ∙ c.gate.ensures), c.requires.1)

pub bind-requires : goal.bind-requires
bind-requires c = admitted c.requires.0 c.word-msg.ensures c.kind-kind.ensures (ap Ok (sym c.in-Ok-SetBindings.field-0-is) ∙ sym c.in-Ok-SetBindings.is ∙ c.gate.ensures)

pub returns-in-Err : goal.returns-in-Err
returns-in-Err c =
    let b = c.args.seat.now in
    let m = c.args.message.now in
    gate_answers (rows_of (catalogue c.args.catalogue.now)) b m c.args.reply.now _ _ c.in-Err.refusal _ (words_is b m c.args.reply.now c.requires.0) c.word-msg.ensures
    (gate_refuses b m c.in-Err.refusal
    (sym c.in-Err.is ∙ c.gate.ensures
    ∙ ap (λ (x : Option Kind). gated x (first_cause (gate_causes (seat_of b) m))) (c.kind-kind.ensures ∙ ap (λ (n : ℕ). kind_at (kind_of n)) c.word-msg.ensures)))
    c.refuse_for.ensures
