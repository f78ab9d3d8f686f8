-- `short::fitting` meets its contract: each test is one of the definition's. Assumes nothing.
use mathlib.Core.Path.{sym, ◌∙◌}
use native.Mathlib.Omega.{arith}
use borrow.Author.Tests.{le-leb, lt-leb}
use Rattle.short.proofs.size.fitting.Goals as goal

pub returns-then-not-fits : goal.returns-then-not-fits
returns-then-not-fits c = rw (sym c.fits.ensures ∙ c.if-not-fits.true)

pub returns-then-end-gt830 : goal.returns-then-end-gt830
returns-then-end-gt830 c = let a = c.args in rw (sym c.fits.ensures ∙ c.if-not-fits.false, lt-leb a.end 830 (omega (arith, c.if-end-gt830.true)))

pub returns : goal.returns
returns c = let a = c.args in rw (sym c.fits.ensures ∙ c.if-not-fits.false, le-leb a.end 830 (omega arith))
