-- `wide_lists::differ` meets its contract: those that are left decide it. Assumes nothing.
use mathlib.Core.Path.{◌≡◌}
use Prim.Native.Nat.{◌-◌}
use Rattle.wide_lists.specs.WideLists.{differing}
use Rattle.wide_lists.proofs.differ.Given as goal

abbrev pub invariant-loop : goal.invariant-loop
invariant-loop l = differing l.s l.n l.fn.times l.fn.first.at ≡ differing l.s l.n (l.times - l.counter) l.c.at
