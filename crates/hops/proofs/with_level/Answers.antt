-- `hops::with_level` meets its contract. Assumes nothing.
use native.Mathlib.Omega.{arith}
use Rattle.hops.proofs.Tests.{leveled_some}
use Rattle.hops.proofs.with_level.Goals as goal

pub returns : goal.returns
returns c = let a = c.args in leveled_some a.bits a.more a.fields (λ z. absurd (omega (arith, c.requires.0, z)))
