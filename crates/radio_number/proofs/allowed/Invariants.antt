-- What is left to test of the places behind the first i, after an F or not, is what was to be tested of all sixteen, and the place in hand decides one step of it. Assumes nothing.
use mathlib.Core.Path.{◌≡◌}
use mathlib.Core.Bool.{false}
use Prim.Native.Nat.{◌-◌}
use Rattle.format.specs.Rules.{radio_from}
use Rattle.radio_number.proofs.allowed.Given as goal

abbrev pub invariant-loop-i : goal.invariant-loop-i
invariant-loop-i l = radio_from 16 false l.v ≡ radio_from (16 - l.i) l.full l.v
