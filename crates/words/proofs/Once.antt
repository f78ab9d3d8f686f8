-- Each promise of this crate is met by one answer alone. Assumes nothing.
use mathlib.Core.Path.{refl, sym, ◌∙◌}
use Rattle.words.specs.contracts as promises
use Rattle.bits.proofs.Once.{OneOutcome}
use Rattle.words.proofs.word_end
use Rattle.words.proofs.until
use Rattle.words.proofs.number

pub word_end_once : OneOutcome promises.word_end.ended word_end.Reads.Post
word_end_once κs args r t u v p q = (p ∙ sym q, refl)

pub until_once : OneOutcome promises.until.ended until.Reads.Post
until_once κs args r t u v p q = (p ∙ sym q, refl)

pub number_once : OneOutcome promises.number.ended number.Reads.Post
number_once κs args r t u v p q = (p ∙ sym q, refl)
