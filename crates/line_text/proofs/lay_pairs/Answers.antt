-- After i turns the digits of the first i bytes are laid. Assumes nothing.
use mathlib.Core.Path.{◌≡◌, sym, ◌∙◌}
use Prim.Native.Nat.{◌+◌, ◌*◌}
use native.Mathlib.Omega.{arith}
use lib.ListN.{get_or}
use Rattle.wire.proofs.Lay.{copied}
use Rattle.line.specs.Text.{hex_pairs}
use Rattle.line.proofs.TextLaws.{pairs_length, pair_high, pair_low, pasted_two}
use Rattle.line_text.proofs.lay_pairs.Goals as goal

pub loop-i-preserved : goal.loop-i-preserved
loop-i-preserved c =
    let l = c.loop-i in
    let a = c.args in
    let h = hex_pairs a.bytes.now in
    let high : c.digit.result ≡ get_or h (2 * l.i) 0 = c.digit.ensures ∙ sym (pair_high a.bytes.now l.i (omega arith)) in
    let low : c.digit-in-loop-i.result ≡ get_or h (2 * l.i + 1) 0 = c.digit-in-loop-i.ensures ∙ sym (pair_low a.bytes.now l.i (omega arith)) in
    let next : 2 * (l.i + 1) ≡ 2 * l.i + 2 = omega arith in
    rw (l.invariant, high, low, next) (pasted_two a.out.now h a.at (2 * l.i) (omega arith) (omega (arith, pairs_length a.bytes.now)))

pub returns : goal.returns
returns c =
    let l = c.loop-i in
    let a = c.args in
    let h = hex_pairs a.bytes.now in
    l.invariant ∙ copied a.out.now a.at h (2 * l.i) (omega (arith, pairs_length a.bytes.now))
