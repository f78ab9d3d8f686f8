-- `words::free` meets its contract. The loop's invariant: where none is still true, the first c lies behind the characters so far. Assumes nothing.
use mathlib.Core.Bool.{true}
use mathlib.Core.Path.{◌≡◌}
use Prim.Native.Nat.{◌+◌}
use lib.ListN.{drop}
use Rattle.words.specs.Words.{up_to}
use Rattle.words.proofs.free.Given as goal

abbrev pub invariant-loop-j : goal.invariant-loop-j
invariant-loop-j l = l.none ≡ true → up_to l.c (drop l.at l.text) ≡ l.j + up_to l.c (drop (l.at + l.j) l.text)
