-- `verdicts::Lined::copies_next` meets its contract. Assumes nothing.
use mathlib.Core.Path.{◌∙◌}
use Prim.Native.Nat.{◌+◌}
use lib.ListN.{length}
use borrow.Author.Tests.{ne_eqb}
use Rattle.group_laws.proofs.Copying.{line_same}
use native.Mathlib.Omega.{arith}
use Rattle.verdicts.proofs.Lines.{lineup}
use Rattle.verdicts.proofs.Lined.copies_next.Goals as goal

pub returns-then-k-self : goal.returns-then-k-self
returns-then-k-self c = rw (ne_eqb (c.args.k + 1) (length c.args.self.now.telegrams.ns.now) c.if-k-self.true) (c.same_packets.ensures ∙ line_same (lineup c.args.self.now) (c.args.k + 1) c.args.k (omega (arith, c.requires, c.if-k-self.true)) c.requires)
