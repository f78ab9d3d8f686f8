-- `seats::pig` meets its contract. Assumes nothing.
use mathlib.Core.Path.{◌∙◌, ap, refl}
use Prim.Native.Nat.{◌/◌, ◌%◌}
use lib.ListN.{drop}
use Rattle.headers.proofs.Fronts.{front_part}
use native.Mathlib.Omega.{arith}
use Rattle.seats.proofs.pig.Goals as goal

pub returns : goal.returns
returns c = ap (λ x. x / 1048576 % 8) c.front.ensures ∙ front_part (drop c.args.start c.args.s.now) 9 3 20 refl (omega arith)
