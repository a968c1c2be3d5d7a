-- An even number of bytes, each a digit. Assumes nothing.
use Rattle.std.proofs.Common.{rules, tests, eq-eqb, ne_eqb, length, ◌%◌, ◌≡◌}
use Rattle.std.proofs.lemmas.Iterator.{YieldsList-from_slice}
use Rattle.std.proofs.lemmas.Iterator.Search.{all_from_yields_List}
use Rattle.std.specs.List.{list_all}
use Rattle.line.specs.Digits.{is_hex_digit}
use Rattle.line.proofs.DigitLaws.{hexdigit_is, hex_all}
use Rattle.line_word.proofs.is_hex.Goals as goal

pub returns-then-digits-eq0 : goal.returns-then-digits-eq0
returns-then-digits-eq0 c =
    let s = c.args.digits.now in
    let all : c.all.result ≡ list_all is_hex_digit s =
    all_from_yields_List is_hex_digit _ _ c.all.result c.all.ensures.ran (YieldsList-from_slice s cc) (λ x b q k. let e = hexdigit_is x.now in search (rules, tests)) in
    rw (hex_all s, eq-eqb (length s % 2) 0 c.if-digits-eq0.true) all

pub returns-else-digits-eq0 : goal.returns-else-digits-eq0
returns-else-digits-eq0 c =
    let s = c.args.digits.now in
    rw (hex_all s, ne_eqb (length s % 2) 0 c.if-digits-eq0.false)
