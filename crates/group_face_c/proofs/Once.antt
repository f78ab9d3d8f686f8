-- The promise of this crate is met by one outcome alone: it is the promise of `group_face`. Assumes nothing.
use Rattle.bits.proofs.Once.{OneOutcome}
use Rattle.group_face.proofs.Once as library
use Rattle.group_face_c.specs.contracts as promises
use Rattle.group_face_c.proofs.sinkerpost_group

pub group_once : OneOutcome promises.sinkerpost_group.ended sinkerpost_group.Reads.Post
group_once = library.group_once
