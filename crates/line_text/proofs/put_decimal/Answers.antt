-- `io::decimal` makes the digits, and they are copied. Assumes nothing.
use native.Mathlib.Omega.{arith}
use Rattle.line.proofs.Numeral.{numeral_is}
use Rattle.line_text.proofs.put_decimal.Goals as goal

pub returns : goal.returns
returns c =
    let d = c.decimal-count in
    rw (d.ensures.digits, numeral_is 20 d.result c.args.value (omega arith) d.ensures.len) at c.put.ensures
