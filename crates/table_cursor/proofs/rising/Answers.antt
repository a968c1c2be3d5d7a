-- `table_cursor::rising` meets its contract. The loop's invariant: the flag says that each number before the i-th is below the next. Assumes nothing.
use mathlib.Core.Path.{◌≡◌, refl, sym, ap, ap₂, ◌∙◌}
use mathlib.Core.Bool.{Bool, true, false, ◌&&◌}
use mathlib.Core.List.{List}
use Prim.Native.Nat.{◌-◌, ◌+◌, ◌≤◌, ℕ}
use native.Mathlib.Omega.{arith}
use lib.Dec.{ltb}
use lib.ListN.{length, get_or}
use Rattle.lists.specs.Below.{both, every_below}
use Rattle.lists.proofs.Below.{every_more, every_start}
use Rattle.table_cursor.proofs.rising.Goals as goal

and_both : (a b : Bool) → a && b ≡ both b a
and_both true true = refl
and_both true false = refl
and_both false true = refl
and_both false false = refl

rises_more : (rows : List ℕ) (i : ℕ) (rises : Bool) → 1 ≤ i
    → rises ≡ every_below (i - 1) (λ k. ltb (get_or rows k 0) (get_or rows (k + 1) 0))
    → rises && ltb (get_or rows (i - 1) 0) (get_or rows i 0) ≡ every_below (i + 1 - 1) (λ k. ltb (get_or rows k 0) (get_or rows (k + 1) 0))
rises_more rows i rises h e =
    let test = λ (k : ℕ). ltb (get_or rows k 0) (get_or rows (k + 1) 0) in
    let p : i ≡ i - 1 + 1 = omega arith in
    let q : i - 1 + 1 ≡ i + 1 - 1 = omega arith in
    and_both rises _
    ∙ ap₂ both (ap (λ (j : ℕ). ltb (get_or rows (i - 1) 0) (get_or rows j 0)) p) e
    ∙ sym (every_more (i - 1) test)
    ∙ ap (λ (n : ℕ). every_below n test) q

pub loop-i-init : goal.loop-i-init
loop-i-init c = (omega arith, sym (every_start _))

pub loop-i-preserved : goal.loop-i-preserved
loop-i-preserved c = let l = c.loop-i in (omega arith, rises_more c.args.rows.now l.i l.rises l.auto.i l.invariant.1)

pub returns : goal.returns
returns c =
    let l = c.loop-i in
    let rows = c.args.rows.now in
    let n : l.i - 1 ≡ length rows - 1 = omega arith in
    l.invariant.1 ∙ ap (λ (n : ℕ). every_below n (λ k. ltb (get_or rows k 0) (get_or rows (k + 1) 0))) n
