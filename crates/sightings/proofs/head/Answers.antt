-- `sightings::head` meets its contract. Assumes nothing.
use mathlib.Core.Path.{◌∙◌}
use native.Mathlib.Omega.{arith}
use Rattle.sightings.proofs.Finding.{head_outside}
use Rattle.sightings.proofs.head.Goals as goal

pub returns-in_err-get : goal.returns-in_err-get
returns-in_err-get c = c.from_residual.ensures ∙ head_outside c.args.s.now c.args.start c.args.stop c.args.at (omega (arith, c.in_err-get.ensures.lookup.0))
