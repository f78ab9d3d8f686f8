-- `hops::condition` meets its contract. Assumes nothing.
use mathlib.Core.Path.{ap}
use native.Mathlib.Omega.{arith}
use Rattle.hops.specs.Hops.{kept}
use Rattle.hops.proofs.Kept.{is_kept}
use Rattle.hops.proofs.Tests.{condition_broken, condition_kept}
use Rattle.hops.proofs.condition.Goals as goal

pub returns-else-behind-gt9 : goal.returns-else-behind-gt9
returns-else-behind-gt9 c = is_kept (condition_kept c.args.w c.behind.result c.behind.ensures (omega arith)) (omega arith)

pub returns-then-behind-gt9 : goal.returns-then-behind-gt9
returns-then-behind-gt9 c = ap kept (condition_broken c.args.w c.behind.result c.behind.ensures (omega arith))
