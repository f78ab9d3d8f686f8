-- What waits then is one thing alone, and what is lost is one, where writes fail alike. Assumes nothing.
use mathlib.Core.Path.{ap}
use mathlib.Core.List.{List}
use Prim.Native.Nat.{ℕ}
use Rattle.replies.specs.contracts as promises
use Rattle.bits.proofs.Once.{OneOutcomeGiven}
use Rattle.queue.proofs.Once.{same_array, same_queue}
use Rattle.replies.proofs.of_bits
use Rattle.replies.proofs.of_values

pub of_bits_once : OneOutcomeGiven promises.of_bits.ended of_bits.Reads.Post (λ κs args r s p. p.failed)
of_bits_once κs args r t u v p q e = (same_queue p q e, ap (λ (out : List ℕ). (u.0, (u.1.0, (out, u.1.1.1)))) (same_array p q))

pub of_values_once : OneOutcomeGiven promises.of_values.ended of_values.Reads.Post (λ κs args r s p. p.failed)
of_values_once κs args r t u v p q e = (same_queue p q e, ap (λ (out : List ℕ). (u.0, (out, u.1.1))) (same_array p q))
