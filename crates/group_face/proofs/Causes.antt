-- A cause's number is at most 23. Assumes nothing.
use Prim.Native.Nat.{◌≤◌}
use native.Mathlib.Omega.{arith}
use Rattle.format.proofs.Numbers.{number_in}
use Rattle.group.specs.declared.Cause.{Cause}
use Rattle.group.specs.declared.Cause.TheVariants.{Room, Single, Identity, Counters, Copied, Repeated}
use Rattle.group.specs.Groups.{cause_number}

pub cause_most : (c : Cause) → cause_number c ≤ 23
cause_most Room = omega arith
cause_most (Single k) = let h = number_in k in omega arith
cause_most Identity = omega arith
cause_most Counters = omega arith
cause_most Copied = omega arith
cause_most Repeated = omega arith
