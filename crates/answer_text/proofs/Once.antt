-- What waits then is one thing alone, and what is lost is one, where writes fail alike. Assumes nothing.
use mathlib.Core.Path.{ap}
use mathlib.Core.List.{List}
use Prim.Native.Nat.{ℕ}
use Rattle.answer_text.specs.contracts as promises
use Rattle.bits.proofs.Once.{OneOutcomeGiven}
use Rattle.queue.proofs.Once.{same_array, same_queue}
use Rattle.answer_text.proofs.no_question
use Rattle.answer_text.proofs.listed
use Rattle.answer_text.proofs.sent

pub no_question_once : OneOutcomeGiven promises.no_question.ended no_question.Reads.Post (λ κs args r s p. p.failed)
no_question_once κs args r t u v p q e = (same_queue p q e, ap (λ (out : List ℕ). (out, u.1)) (same_array p q))

pub listed_once : OneOutcomeGiven promises.listed.ended listed.Reads.Post (λ κs args r s p. p.failed)
listed_once κs args r t u v p q e = (same_queue p q e, ap (λ (out : List ℕ). (u.0, (out, u.1.1))) (same_array p q))

pub sent_once : OneOutcomeGiven promises.sent.ended sent.Reads.Post (λ κs args r s p. p.failed)
sent_once κs args r t u v p q e = (same_queue p q e, ap (λ (out : List ℕ). (u.0, (u.1.0, (out, u.1.1.1)))) (same_array p q))
