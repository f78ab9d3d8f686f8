-- The promises of `number`, `value` and `SheetError::from` are each met by one answer alone; those of `export`, `import` and `judge` are in their crates. Assumes nothing.
use mathlib.Core.Path.{refl, sym, ◌∙◌}
use Rattle.sheet.specs.contracts as promises
use Rattle.bits.proofs.Once.{OneOutcome}
use Rattle.sheet.proofs.number
use Rattle.sheet.proofs.SheetErrorFromRefusal.from
use Rattle.sheet.proofs.value

pub number_once : OneOutcome promises.number.ended number.Reads.Post
number_once κs args r t u v p q = (p ∙ sym q, refl)

pub value_once : OneOutcome promises.value.ended value.Reads.Post
value_once κs args r t u v p q = (p ∙ sym q, refl)

pub from_once : OneOutcome promises.SheetErrorFromRefusal.from.ended from.Reads.Post
from_once κs args r t u v p q = (p ∙ sym q, refl)
