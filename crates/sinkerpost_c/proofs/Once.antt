-- Each promise of this crate is met by one number alone, and that of the normaliser by one final contents of what is lent: they are the promises
-- of `sinkerpost`. Assumes nothing.
use Rattle.bits.proofs.Once.{OneOutcome}
use Rattle.sinkerpost.proofs.Once as library
use Rattle.sinkerpost_c.specs.contracts as promises
use Rattle.sinkerpost_c.proofs.sinkerpost_check
use Rattle.sinkerpost_c.proofs.sinkerpost_normalise

pub check_once : OneOutcome promises.sinkerpost_check.ended sinkerpost_check.Reads.Post
check_once = library.check_once

pub normalise_once : OneOutcome promises.sinkerpost_normalise.ended sinkerpost_normalise.Reads.Post
normalise_once = library.normalise_once
