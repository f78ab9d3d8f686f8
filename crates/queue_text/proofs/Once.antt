-- What waits then is one thing alone, and what is lost is one, where writes fail alike. Assumes nothing.
use mathlib.Core.Path.{ap}
use mathlib.Core.List.{List}
use Prim.Native.Nat.{ℕ}
use Rattle.queue_text.specs.contracts as promises
use Rattle.bits.proofs.Once.{OneOutcomeGiven}
use Rattle.queue.proofs.Once.{same_array, same_queue}
use Rattle.queue_text.proofs.number
use Rattle.queue_text.proofs.characters
use Rattle.queue_text.proofs.refused

pub number_once : OneOutcomeGiven promises.number.ended number.Reads.Post (λ κs args r s p. p.failed)
number_once κs args r t u v p q e = (same_queue p q e, ap (λ (out : List ℕ). (out, u.1)) (same_array p q))

pub characters_once : OneOutcomeGiven promises.characters.ended characters.Reads.Post (λ κs args r s p. p.failed)
characters_once κs args r t u v p q e = (same_queue p q e, ap (λ (out : List ℕ). (out, u.1)) (same_array p q))

pub refused_once : OneOutcomeGiven promises.refused.ended refused.Reads.Post (λ κs args r s p. p.failed)
refused_once κs args r t u v p q e = (same_queue p q e, ap (λ (out : List ℕ). (out, u.1)) (same_array p q))
