-- What is left to select from the next row on, laid over the words at the count, is all that was to be selected (the loop's invariant):
-- a row that is held moves one number from what is left into the words, any other row none. Assumes nothing.
use borrow.Author.Rules.{rules}
use mathlib.Core.Path.{sym, ap, ◌∙◌}
use mathlib.Core.Bool.{true, false}
use Prim.Native.Nat.{ℕ}
use native.Mathlib.Numerals.{add-one}
use native.Mathlib.Omega.{arith}
use Rattle.catalogue.specs.CataloguePlaces.{row_seen}
use Rattle.tree.specs.TreeHolds.{held_by}
use Rattle.tree.specs.Reader.{restriction}
use Rattle.tree.proofs.SelectLaws.{few, stands, left_more, all_selected}
use Rattle.tree_select.proofs.select.Goals as goal
use Rattle.tree_select.proofs.select.Goals.{then-holds_at, else-holds_at}

pub place_of-place-requires : goal.place_of-place-requires
place_of-place-requires c = omega (arith, few c.args.catalogue.now c.args.rows c.args.places.now c.requires.1)

pub holds_at-requires : goal.holds_at-requires
holds_at-requires c = (c.requires.0, rw c.place_of-place.ensures (stands c.args.catalogue.now c.args.rows c.args.places.now c.requires.1 c.loop-number.number (search rules)))

pub bounds-into-count : goal.bounds-into-count
bounds-into-count c = omega (arith, few c.args.catalogue.now c.args.rows c.args.places.now c.requires.1, c.requires.2)

pub loop-number-preserved : goal.loop-number-preserved
loop-number-preserved c =
    let a = c.args in
    let n = c.requires.1 in
    let l = c.loop-number in
    let says = c.holds_at.ensures ∙ ap (λ (p : ℕ). held_by (restriction a.tree.now) (row_seen a.catalogue.now p)) c.place_of-place.ensures in
    elim c.if-holds_at.branch [
      | then-holds_at w ↦
          let e = left_more a.catalogue.now a.rows a.places.now n a.tree.now l.number true (search rules) (sym w.if-holds_at.true ∙ says) in
          record {
            few = omega arith;
            room = c.if-holds_at.auto.into ∙ l.invariant.room;
            counted = omega (arith, rw e at l.invariant.counted);
            laid = rw (w.into-is, w.count-is, add-one) (rw e at l.invariant.laid);
          }
      | else-holds_at w ↦
          let e = left_more a.catalogue.now a.rows a.places.now n a.tree.now l.number false (search rules) (sym w.if-holds_at.false ∙ says) in
          record {
            few = omega arith;
            room = c.if-holds_at.auto.into ∙ l.invariant.room;
            counted = rw w.count-is (rw e at l.invariant.counted);
            laid = rw (w.into-is, w.count-is) (rw e at l.invariant.laid);
          }
    ]

pub returns : goal.returns
returns c = let a = c.args in
    let l = c.loop-number in
    all_selected a.tree.now a.catalogue.now a.rows a.places.now c.requires.1 a.into.now l.into l.count l.number (search rules) (omega (arith, few c.args.catalogue.now c.args.rows c.args.places.now c.requires.1, c.requires.2)) l.invariant.counted l.invariant.laid
