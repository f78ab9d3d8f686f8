-- `hops::link` meets its contract. Assumes nothing.
use mathlib.Core.Path.{ap}
use native.Mathlib.Omega.{arith}
use Rattle.hops.specs.Hops.{kept}
use Rattle.hops.proofs.Kept.{is_kept}
use Rattle.hops.proofs.Tests.{link_broken, link_kept}
use Rattle.hops.proofs.link.Goals as goal

pub returns-then-behind-gt2 : goal.returns-then-behind-gt2
returns-then-behind-gt2 c = ap kept (link_broken c.args.w c.behind-c.result c.behind.result c.behind-c.ensures c.behind.ensures (omega arith))

pub returns : goal.returns
returns c = is_kept (link_kept c.args.w c.behind-c.result c.behind.result c.behind-c.ensures c.behind.ensures (omega arith)) (omega arith)
