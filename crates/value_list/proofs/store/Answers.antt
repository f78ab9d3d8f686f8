-- `value_list::store` meets its contract. The loop's invariant, `Storing`: the values that were met stand in front of what was there, and those
-- from at on follow. Assumes nothing.
use lib.ListN.{length-set}
use Rattle.std.proofs.lemmas.List.{set-get_or}
use Rattle.value_list.proofs.Taking.{storing_first, storing_on, stored_full, stored_all}
use Rattle.value_list.proofs.store.Goals as goal

pub loop-value-init : goal.loop-value-init
loop-value-init c = storing_first c.args.text.now c.args.values.now

pub shape_of-values-in_default : goal.shape_of-values-in_default
shape_of-values-in_default c = simp length-set c.loop-value.invariant.same

pub returns-in_default : goal.returns-in_default
returns-in_default c =
    rw (set-get_or c.loop-value.values c.loop-value.value-index 0) (stored_all c.loop-value.invariant (c.in_default.ensures))

pub loop-value-preserved : goal.loop-value-preserved
loop-value-preserved c =
    let same = c.loop-value.invariant.same in
    storing_on c.loop-value.invariant _ _ (rw same c.loop-value-test.true) (c.in-Some.ensures)

pub shape_of-values : goal.shape_of-values
shape_of-values c = c.loop-value.invariant.same

pub returns : goal.returns
returns c =
    let same = c.loop-value.invariant.same in
    stored_full c.loop-value.invariant (rw same c.loop-value-test.false)
