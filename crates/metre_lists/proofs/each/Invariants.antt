-- `metre_lists::each` meets its contract: what is left of the list asks and puts what all of it did. Assumes nothing.
use mathlib.Core.Bool.{false}
use Prim.Native.Nat.{◌+◌, ◌-◌, ◌≤◌}
use Rattle.distance.specs.Distance.{number_of}
use Rattle.metre_lists.proofs.Listing.{Going}
use Rattle.metre_lists.proofs.each.Given as goal

abbrev pub invariant-loop : goal.invariant-loop
invariant-loop g l = Going l.s (g.L.Layout.whole l.g l.s (number_of l.k)) (g.L.Layout.put l.g l.s (number_of l.k)) (λ y. y + g.L.Layout.bits l.g l.s y) l.puts l.x l.fn.out false (l.end - l.counter) l.at l.out × (l.end ≤ 31)
