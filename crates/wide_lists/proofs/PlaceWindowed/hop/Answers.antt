-- `hop` of a group of ETCS-79 meets its contract: each keeps its rules. Assumes nothing.
use Rattle.wide_lists.proofs.Apart.{place_kept}
use Rattle.wide_lists.proofs.PlaceWindowed.hop.Goals as goal

pub returns : goal.returns
returns c = place_kept c.position.result c.args.w c.position.ensures
