-- `headers::front` meets its contract. Assumes nothing.
use native.Mathlib.Omega.{arith}
use Rattle.headers.proofs.Fronts.{front_outside, front_short, front_window}
use Rattle.headers.proofs.front.Goals as goal

pub returns-in_default : goal.returns-in_default
returns-in_default c = front_outside c.args.s.now c.args.start (omega (arith, c.in_default.ensures.lookup.0))

pub returns-in_default-t : goal.returns-in_default-t
returns-in_default-t c = front_short c.args.s.now c.args.start (omega (arith, c.in-Some.ensures.lookup.0.3, c.in_default-t.len_below))

pub returns : goal.returns
returns c = front_window c.args.s.now c.args.start _ c.in-Some.ensures.lookup.0.2 c.in-len8-up.len_at_least (λ i. (c.type_inv.s i).fits) _ c.window.ensures
