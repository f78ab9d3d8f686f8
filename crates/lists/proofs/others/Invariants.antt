-- `lists::others` meets its contract: what is counted in all stays the same from turn to turn. Assumes nothing.
use Prim.Native.Nat.{◌-◌}
use Rattle.lists.specs.Lists.{others_at}
use Rattle.lists.proofs.Turns.{Going}
use Rattle.lists.proofs.others.Given as goal

abbrev pub invariant-loop : goal.invariant-loop
invariant-loop g l =
    let at = g.G.Group.at l.s l.n in
    Going at l.n l.end (others_at at l.end l.fn.times l.fn.first.at l.fn.before) l.c.at (l.times - l.counter) l.values
