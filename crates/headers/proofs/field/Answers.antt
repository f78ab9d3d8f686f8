-- `headers::field` meets its contract. Assumes nothing.
use native.Mathlib.Omega.{arith}
use Rattle.headers.proofs.Numbers.{number_outside}
use Rattle.headers.proofs.field.Goals as goal

pub returns-in_default : goal.returns-in_default
returns-in_default c = number_outside c.args.s.now c.args.start c.args.n c.args.bit c.args.width (omega (arith, c.in_default.ensures.lookup.0))
