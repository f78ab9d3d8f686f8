-- What the types of telegrams say of them, as the laws of groups ask for it. Assumes nothing.
use Rattle.group.specs.Walks.{Arrives, Lineup}
use Rattle.group_laws.proofs.Judging.{arrives_of, lineup_of}
use Rattle.verdicts.specs.declared.Accepted.{Accepted}
use Rattle.verdicts.specs.declared.Lined.{Lined}

pub accepted : (t : Accepted) → Arrives t.telegrams.bytes.now t.telegrams.ns.now
accepted t = arrives_of _ _ t.arrives

pub lineup : (t : Lined) → Lineup t.telegrams.bytes.now t.telegrams.ns.now
lineup t = lineup_of _ _ t.arrives t.whole
