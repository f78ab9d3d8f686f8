-- `bits::Cursor::look` meets its contract: the window is moved up, and nothing is left of one that lies behind the last byte. Assumes nothing.
use native.Mathlib.Omega.{arith}
use Rattle.bits.proofs.Looked.{seen_none, seen_far, seen_here}
use Rattle.bits.proofs.Cursor.look.Goals as goal

pub returns-then-s-lt8 : goal.returns-then-s-lt8
returns-then-s-lt8 c = seen_none c.args.s.now c.args.self.at (omega arith)

pub returns-then-o-gt63 : goal.returns-then-o-gt63
returns-then-o-gt63 c =
    let a = c.args in
    seen_far a.s.now a.self.at (omega arith) (omega (arith, c.lower-k.ensures))

pub returns : goal.returns
returns c =
    let a = c.args in
    rw (c.eight.ensures, c.lower-k.ensures) (seen_here a.s.now a.self.at (omega arith))
