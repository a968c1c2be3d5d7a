-- `catalogue_number::read_further` meets its contract. The loop's invariant says what is left: the groups to come, carried with the value, the weight and the room so far. Assumes nothing.
use Rattle.std.proofs.Common.{rules, arith, ◌≡◌, sym, ◌∙◌, ◌-◌, ◌/◌, get_or}
use Rattle.catalogue.proofs.Carry.{room_kept, carry_zero, carry_last_over, carry_last, carry_group_over, carry_group, carry_end, carry_group_full}
use Rattle.catalogue_number.proofs.read_further.Goals as goal
use Rattle.catalogue_number.proofs.read_further.Goals.{then-group-eq0-via-then-group-eq0, then-group-eq0-via-else-group-eq0+then-room-group}

pub returns-then-group-eq0 : goal.returns-then-group-eq0
returns-then-group-eq0 c = let l = c.loop-i in
    let s = c.args.catalogue.now in
    sym
    (l.invariant.2
    ∙ elim c.then-group-eq0.branch [
      | then-group-eq0-via-then-group-eq0 w ↦ carry_zero l.value l.weight l.room s l.i (search rules) (search rules)
      | then-group-eq0-via-else-group-eq0+then-room-group w ↦ carry_last_over l.value l.weight l.room s l.i (search rules) (search rules) (search rules)
    ])

pub returns-then-group-lt128 : goal.returns-then-group-lt128
returns-then-group-lt128 c = let l = c.loop-i in
    let s = c.args.catalogue.now in
    sym (l.invariant.2 ∙ carry_last l.value l.weight l.room s l.i (search rules) (search rules) (search rules) (search rules))

pub returns-in_err-left : goal.returns-in_err-left
returns-in_err-left c = let l = c.loop-i in
    let s = c.args.catalogue.now in
    rw c.from_residual-in_err-left.ensures (sym (l.invariant.2 ∙ carry_group_over l.value l.weight l.room s l.i (search rules) (search rules) (search rules)))

pub returns-then-left-eq0 : goal.returns-then-left-eq0
returns-then-left-eq0 c = let l = c.loop-i in
    let s = c.args.catalogue.now in
    sym
    (l.invariant.2
    ∙ carry_group_full l.value l.weight l.room s l.i (search rules) (search rules) (search rules) (search rules))

pub loop-i-preserved : goal.loop-i-preserved
loop-i-preserved c = let l = c.loop-i in
    let a = c.args in
    let bits = get_or a.catalogue.now l.i 0 - 128 in
    let left : c.in_ok-left.field-0 ≡ l.room - bits = omega arith in
    rw left (
      omega arith,
      room_kept l.value l.weight l.room a.limit bits ((l.room - bits) / 128) l.invariant.1 (omega arith),
      l.invariant.2 ∙ carry_group l.value l.weight l.room a.catalogue.now l.i (search rules) (search rules) (search rules),
    )

pub returns : goal.returns
returns c = let l = c.loop-i in
    sym (l.invariant.2 ∙ carry_end l.value l.weight l.room c.args.catalogue.now l.i c.loop-i-test.false)
