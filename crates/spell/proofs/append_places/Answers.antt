-- `spell::append_places` meets its contract: the piece that is put is the sixteen places. Assumes nothing.
use Rattle.spell.proofs.append_places.Goals as goal

pub returns : goal.returns
returns c = rw (← c.places.ensures) c.append.ensures
