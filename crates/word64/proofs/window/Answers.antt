-- `word64::window` meets its contract: shifted bytes joined are one number. Assumes nothing.
use Rattle.word64.proofs.Words.{or_bytes}
use Rattle.word64.proofs.window.Goals as goal

pub returns : goal.returns
returns c =
    let a = c.args in
    let f = c.ranges in
    or_bytes a.a a.b a.c a.d f.a.fits f.b.fits f.c.fits f.d.fits
