-- `store::put_bytes` meets its contract. The loop's invariant: the done highest bits of the field stand at at, every other bit is
-- as it was. The measure is how many bits are left. Assumes nothing.
use mathlib.Core.Path.{◌≡◌}
use mathlib.Core.List.{◌++◌}
use Prim.Native.Nat.{◌≤◌, ◌-◌, ◌+◌, ◌/◌, ◌^◌}
use lib.ListN.{length, take, drop}
use Rattle.bits.specs.Bits.{digits, bits_of}
use Rattle.store.proofs.put_bytes.Given as goal

abbrev pub invariant-loop-done : goal.invariant-loop-done
invariant-loop-done l =
    (l.done ≤ l.width) × (length l.out ≡ length l.initial.out)
    × (bits_of l.out ≡ take l.at (bits_of l.initial.out) ++ (digits l.done (l.value / 2 ^ (l.width - l.done)) ++ drop (l.at + l.done) (bits_of l.initial.out)))

abbrev pub decreases-loop-done : goal.decreases-loop-done
decreases-loop-done l = l.width - l.done
