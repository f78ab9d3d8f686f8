-- `hops::circuit` meets its contract. Assumes nothing.
use mathlib.Core.Path.{ap}
use native.Mathlib.Omega.{arith}
use Rattle.hops.specs.Hops.{kept}
use Rattle.hops.proofs.Kept.{is_kept}
use Rattle.hops.proofs.Tests.{signal_broken, frequency_broken, circuit_kept}
use Rattle.hops.proofs.circuit.Goals as goal

pub returns-then-behind-gt7 : goal.returns-then-behind-gt7
returns-then-behind-gt7 c = ap kept (signal_broken c.args.w c.behind.result c.behind.ensures (omega arith))

pub returns-then-behind-gt12 : goal.returns-then-behind-gt12
returns-then-behind-gt12 c =
    ap kept (frequency_broken c.args.w c.behind.result c.behind.ensures c.behind-2.result c.behind-2.ensures (omega arith) (omega arith))

pub returns : goal.returns
returns c = is_kept (circuit_kept c.args.w c.behind.result c.behind.ensures c.behind-2.result c.behind-2.ensures (omega arith) (omega arith)) (omega arith)
