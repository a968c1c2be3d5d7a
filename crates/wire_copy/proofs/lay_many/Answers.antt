-- After i bytes the first i are copied; the last thirty-two are laid over what they have of these. Assumes nothing.
use mathlib.Core.Path.{refl, sym, ap, ◌∙◌}
use mathlib.Core.List.{List}
use Prim.Native.Nat.{ℕ, ◌+◌, ◌-◌}
use native.Mathlib.Omega.{arith}
use lib.ListN.{length, take}
use lib.Seq.{length-take-le}
use Rattle.lists.specs.Parts.{part}
use Rattle.wire.specs.Laid.{lay}
use Rattle.wire.proofs.Lay.{lay_again, lay_last, lay_part}
use Rattle.wire_copy.proofs.lay_many.Goals as goal

pub loop-i-init : goal.loop-i-init
loop-i-init c =
    let first = c.lay_thirty_two in
    let a = c.args in
    let x = take 32 a.bytes.now in
    (omega arith, refl, first.ensures ∙ sym (lay_again a.reply.now a.at x x (omega (arith, length-take-le 32 a.bytes.now (omega arith))) (omega arith)) ∙ ap (λ (t : List ℕ). lay t a.at x) (sym first.ensures))

pub loop-i-preserved : goal.loop-i-preserved
loop-i-preserved c =
    let l = c.loop-i in
    let a = c.args in
    let first = c.lay_thirty_two.new.reply in (
      omega arith,
      c.lay_thirty_two-in-loop-i.auto.reply ∙ l.invariant.1,
      c.lay_thirty_two-in-loop-i.ensures
          ∙ ap (λ (t : List ℕ). lay t (a.at + l.i) (part a.bytes.now l.i 32)) l.invariant.2
          ∙ lay_part first a.at a.bytes.now l.i l.i 32 (omega arith) (omega arith) (omega arith) (omega arith),
    )

pub returns : goal.returns
returns c =
    let l = c.loop-i in
    let first = c.lay_thirty_two in
    let a = c.args in
    let bytes = a.bytes.now in
    let last = length bytes - 32 in
    c.lay_thirty_two-2.ensures
    ∙ ap (λ (t : List ℕ). lay t (a.at + last) (part bytes last 32)) l.invariant.2
    ∙ lay_last first.new.reply a.at bytes l.i 32 (omega arith) (omega arith) (omega arith) (omega arith)
    ∙ ap (λ (t : List ℕ). lay t a.at bytes) first.ensures
    ∙ lay_again a.reply.now a.at (take 32 bytes) bytes (omega (arith, length-take-le 32 bytes (omega arith))) (omega (arith, length-take-le 32 bytes (omega arith)))
