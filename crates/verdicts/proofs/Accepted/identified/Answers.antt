-- `verdicts::Accepted::identified` meets its contract. Assumes nothing.
use mathlib.Core.Path.{sym, ◌∙◌}
use borrow.Author.Tests.{le-leb, lt-leb}
use lib.ListN.{length}
use Rattle.group_laws.proofs.Agreeing.{grouped_is}
use native.Mathlib.Omega.{arith}
use Rattle.verdicts.proofs.Lines.{accepted}
use Rattle.verdicts.proofs.Accepted.identified.Goals as goal

pub returns-then-alike : goal.returns-then-alike
returns-then-alike c = let n = length c.args.self.now.telegrams.ns.now in sym (grouped_is (accepted c.args.self.now) ∙ rw (le-leb 1 n (omega arith), le-leb n 8 (omega arith), sym c.alike.ensures ∙ c.if-alike.true) (sym c.each_once.ensures))

pub returns-else-alike : goal.returns-else-alike
returns-else-alike c = let n = length c.args.self.now.telegrams.ns.now in c.if-alike.false ∙ sym (grouped_is (accepted c.args.self.now) ∙ rw (le-leb 1 n (omega arith), le-leb n 8 (omega arith), sym c.alike.ensures ∙ c.if-alike.false))

pub returns-in_default : goal.returns-in_default
returns-in_default c = let n = length c.args.self.now.telegrams.ns.now in sym (grouped_is (accepted c.args.self.now) ∙ rw (lt-leb 1 n (omega arith)))

pub returns-in_default-2 : goal.returns-in_default-2
returns-in_default-2 c = let n = length c.args.self.now.telegrams.ns.now in sym (grouped_is (accepted c.args.self.now) ∙ rw (le-leb 1 n (omega arith), lt-leb n 8 (omega arith)))
