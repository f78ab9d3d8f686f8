-- `seats::Telegrams::counter` meets its contract. Assumes nothing.
use mathlib.Core.Path.{◌∙◌, ap, refl}
use Prim.Native.Nat.{◌/◌, ◌%◌}
use lib.ListN.{drop}
use Rattle.headers.proofs.Fronts.{front_part}
use native.Mathlib.Omega.{arith}
use Rattle.seats.proofs.Telegrams.counter.Goals as goal

pub returns : goal.returns
returns c = rw (← c.seek.ensures) (ap (λ x. x / 128 % 256) c.front.ensures ∙ front_part (drop c.seek.result.start c.args.self.now.bytes.now) 17 8 7 refl (omega arith))
