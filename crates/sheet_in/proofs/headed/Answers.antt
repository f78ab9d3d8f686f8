-- `sheet_in::headed` meets its contract: the heading, and the rows behind it. Assumes nothing.
use mathlib.Core.Path.{sym, ◌∙◌}
use Rattle.sheet.specs.Rows.{heading}
use Rattle.sheet.proofs.Gathering.{headless}
use Rattle.sheet_in.proofs.headed.Goals as goal

pub returns-then-not-begins : goal.returns-then-not-begins
unfolding heading
returns-then-not-begins c = headless _ _ _ (sym c.begins.ensures ∙ c.if-not-begins.true)

pub collect-requires : goal.collect-requires
unfolding heading
collect-requires c = (c.requires, sym c.begins.ensures ∙ c.if-not-begins.false)

pub returns : goal.returns
returns c = c.collect.ensures
