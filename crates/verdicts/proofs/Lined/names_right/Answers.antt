-- `verdicts::Lined::names_right` meets its contract. Assumes nothing.
use mathlib.Core.Path.{◌∙◌}
use borrow.Author.Tests.{ne_eqb}
use native.Mathlib.Omega.{arith}
use Rattle.group_laws.proofs.Lining.{line_dup}
use Rattle.verdicts.proofs.Lines.{lineup}
use Rattle.verdicts.proofs.Lined.names_right.Goals as goal

pub returns-in-1 : goal.returns-in-1
returns-in-1 c = rw (← (c.dup.ensures ∙ line_dup (lineup c.args.self.now) c.args.k c.requires), c.in-1.is) c.copies_next.ensures

pub returns-in-2 : goal.returns-in-2
returns-in-2 c = rw (← (c.dup.ensures ∙ line_dup (lineup c.args.self.now) c.args.k c.requires), c.in-2.is) c.copies_last.ensures

pub returns-in_default : goal.returns-in_default
returns-in_default c = rw (← (c.dup.ensures ∙ line_dup (lineup c.args.self.now) c.args.k c.requires), ne_eqb c.dup.result 1 (omega arith), ne_eqb c.dup.result 2 (omega arith))
