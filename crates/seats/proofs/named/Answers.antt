-- `seats::named` meets its contract. Assumes nothing.
use mathlib.Core.Path.{◌∙◌, ap, refl}
use Prim.Native.Nat.{◌/◌, ◌%◌}
use lib.ListN.{drop}
use Rattle.headers.proofs.Fronts.{front_part}
use native.Mathlib.Omega.{arith}
use Rattle.seats.proofs.named.Goals as goal

pub returns : goal.returns
returns c = ap (λ x. x / 32768 % 4) c.front.ensures ∙ front_part (drop c.args.start c.args.s.now) 15 2 15 refl (omega arith)
