-- `fetch_request::judge` meets its contract: each cause in turn. Assumes nothing.
use Rattle.refusal.specs.Numbers.{judged}
use Rattle.fetch.proofs.Judging.{no_bindings_lem, other_width, unserved, all_served}
use mathlib.Core.Path.{sym, ap}
use Rattle.fetch_request.proofs.judge.Goals as goal

pub returns-then-cursor-eq0 : goal.returns-then-cursor-eq0
returns-then-cursor-eq0 c = let a = c.args in sym (ap judged (no_bindings_lem a.cursor.now a.request c.if-cursor-eq0.true))

pub returns-then-request-cursor : goal.returns-then-request-cursor
returns-then-request-cursor c = let a = c.args in sym (ap judged (other_width a.cursor.now a.request c.if-cursor-eq0.false c.if-request-cursor.true))

pub returns-then-not_served : goal.returns-then-not_served
returns-then-not_served c =
    let a = c.args in
    sym (ap judged (unserved a.cursor.now a.request c.if-cursor-eq0.false c.if-request-cursor.false (sym c.if-not_served.ensures)))

pub returns-else-not_served : goal.returns-else-not_served
returns-else-not_served c =
    let a = c.args in
    sym (ap judged (all_served a.cursor.now a.request c.if-cursor-eq0.false c.if-request-cursor.false (sym c.if-not_served.ensures)))
