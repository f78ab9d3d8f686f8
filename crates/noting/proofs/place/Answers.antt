-- `noting::place` meets its contract: a case for each thing that a refusal points at. Assumes nothing.
use Rattle.std.proofs.Common.{sym, mod-eq_of_lt}
use Rattle.format.specs.Rules.{spot_at, place_from}
use Rattle.noting.proofs.place.Goals as goal

-- the first field of a state is a number of the machine, and so is the argument behind it
pub returns-in-Due : goal.returns-in-Due
unfolding place_from spot_at
returns-in-Due c = λ l. rw (← c.spot.ensures l, c.in-Due.is) (sym (mod-eq_of_lt c.well_formed.1.0.1.1.0.1))

pub returns-in-Behind : goal.returns-in-Behind
unfolding place_from spot_at
returns-in-Behind c = λ l. rw (← c.spot.ensures l, c.in-Behind.is) (sym (mod-eq_of_lt c.ranges.end.fits))

pub returns-in-Outer : goal.returns-in-Outer
unfolding place_from spot_at
returns-in-Outer c = λ l. rw (← c.spot.ensures l, c.in-Outer.is)

pub returns-in-Inner : goal.returns-in-Inner
unfolding place_from spot_at
returns-in-Inner c = λ l. rw (← c.spot.ensures l, c.in-Inner.is)
