-- What waits then is one thing alone, and what is lost is one, where writes fail alike. Assumes nothing.
use mathlib.Core.Path.{ap}
use mathlib.Core.List.{List}
use Prim.Native.Nat.{ℕ}
use Rattle.group_answers.specs.contracts as promises
use Rattle.bits.proofs.Once.{OneOutcomeGiven}
use Rattle.queue.proofs.Once.{same_array, same_queue}
use Rattle.group_answers.proofs.respond

pub respond_once : OneOutcomeGiven promises.respond.ended respond.Reads.Post (λ κs args r s p. p.failed)
respond_once κs args r t u v p q e = (same_queue p q e, ap (λ (out : List ℕ). (u.0, (out, u.1.1))) (same_array p q))
