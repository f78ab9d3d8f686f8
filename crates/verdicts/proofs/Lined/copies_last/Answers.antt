-- `verdicts::Lined::copies_last` meets its contract. Assumes nothing.
use mathlib.Core.Path.{◌∙◌}
use Prim.Native.Nat.{◌-◌}
use borrow.Author.Tests.{ne_eqb}
use Rattle.group_laws.proofs.Copying.{line_same}
use native.Mathlib.Omega.{arith}
use Rattle.verdicts.proofs.Lines.{lineup}
use Rattle.verdicts.proofs.Lined.copies_last.Goals as goal

pub returns-then-k-ne0 : goal.returns-then-k-ne0
returns-then-k-ne0 c = rw (ne_eqb c.args.k 0 c.if-k-ne0.true) (c.same_packets.ensures ∙ line_same (lineup c.args.self.now) (c.args.k - 1) c.args.k (omega (arith, c.requires)) c.requires)
