-- Each promise of this crate is met by one answer alone. Assumes nothing.
use mathlib.Core.Path.{refl, sym, ◌∙◌}
use denote.RattleType.{RattleType}
use denote.Param.Laws.{Laws}
use mir.Syntax.{Dict}
use Rattle.lists.specs.declared.Group.{Ghosts}
use Rattle.lists.specs.contracts as promises
use Rattle.bits.proofs.Once.{OneOutcome}
use Rattle.lists.proofs.links
use Rattle.lists.proofs.levels
use Rattle.lists.proofs.choices
use Rattle.lists.proofs.conditions
use Rattle.lists.proofs.circuits
use Rattle.lists.proofs.apart

pub links_once : OneOutcome promises.links.ended links.Reads.Post
links_once κs args r t u v p q = (p ∙ sym q, refl)

pub levels_once : OneOutcome promises.levels.ended levels.Reads.Post
levels_once κs args r t u v p q = (p ∙ sym q, refl)

pub choices_once : OneOutcome promises.choices.ended choices.Reads.Post
choices_once κs args r t u v p q = (p ∙ sym q, refl)

pub conditions_once : OneOutcome promises.conditions.ended conditions.Reads.Post
conditions_once κs args r t u v p q = (p ∙ sym q, refl)

pub circuits_once : OneOutcome promises.circuits.ended circuits.Reads.Post
circuits_once κs args r t u v p q = (p ∙ sym q, refl)

pub apart_once : (G : RattleType) (l : Laws G) (g : Ghosts G.Denot) (d : Dict) → OneOutcome (promises.apart.ended G g d) (apart.Reads.Post G l g d)
apart_once G l g d κs args r t u v p q = (p ∙ sym q, refl)
