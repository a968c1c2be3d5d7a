-- After i turns the first i bytes are those that the pairs spell. Assumes nothing.
use mathlib.Core.Path.{◌≡◌, refl, sym, ◌∙◌}
use Prim.Native.Nat.{◌/◌}
use native.Mathlib.Omega.{arith}
use lib.ListN.{length, get_or}
use lib.Seq.{take_all}
use Rattle.line.specs.Digits.{hex_bytes}
use Rattle.line.proofs.DigitLaws.{hex_count, hex_at, laid_more}
use Rattle.line_word.proofs.hex_bytes.Goals as goal

pub loop-i-preserved : goal.loop-i-preserved
loop-i-preserved c =
    let l = c.loop-i in
    let g = c.args in
    let v : c.pair.result ≡ get_or (hex_bytes g.digits.now) l.i 0 =
    rw c.as_chunks.ensures.front at c.pair.ensures ∙ sym (hex_at g.digits.now (length g.digits.now / 2) l.i refl (omega arith)) in
    rw (l.invariant, v) (laid_more (hex_bytes g.digits.now) g.out.now l.i (omega (arith, hex_count g.digits.now)) (omega arith))

pub returns : goal.returns
returns c =
    let l = c.loop-i in
    let g = c.args in
    let all : l.i ≡ length g.digits.now / 2 = omega arith in
    l.invariant ∙ rw (all, take_all (length g.digits.now / 2) (hex_bytes g.digits.now) (omega (arith, hex_count g.digits.now)))
