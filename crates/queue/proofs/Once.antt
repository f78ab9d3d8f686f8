-- What waits then is one thing alone, whatever the outside does; and what is lost is one, where writes fail alike. Assumes nothing.
use mathlib.Core.Path.{◌≡◌, refl, sym, ap, ap₂, ◌∙◌}
use mathlib.Core.Bool.{Bool}
use mathlib.Core.List.{List}
use Prim.Native.Nat.{ℕ}
use Rattle.queue.specs.contracts as promises
use Rattle.word64.proofs.Once.{OneOutcomeGiven}
use Rattle.queue.specs.Waiting.{Waits, Joins, lost_by}
use Rattle.queue.specs.declared.Queue.{Queue}
use Rattle.queue.proofs.put
use Rattle.queue.proofs.flush
use Rattle.queue.proofs.say

-- ---- of any promise that a text joins the queue

module _ {text : List ℕ} {q : Queue} {before : List ℕ} {r t : Queue} {after after' : List ℕ}
    (h : Joins text q before r after) (g : Joins text q before t after') where
  pub same_array : after ≡ after'
  same_array = ap (λ (w : Waits). w.bytes) (h.waits ∙ sym g.waits)

  same_count : r.waiting ≡ t.waiting
  same_count = ap (λ (w : Waits). w.count) (h.waits ∙ sym g.waits)

  pub same_queue : h.failed ≡ g.failed → r ≡ t
  same_queue e =
      ap₂ (λ (n : ℕ) (l : Bool). record { waiting = n; lost = l })
      same_count
      (h.loses ∙ ap (lost_by text q before) e ∙ sym g.loses)

-- ---- the functions

pub put_once : OneOutcomeGiven promises.put.ended put.Reads.Post (λ κs args r s p. p.failed)
put_once κs args r t u v p q e = (same_queue p q e, ap (λ (out : List ℕ). (out, u.1)) (same_array p q))

pub say_once : OneOutcomeGiven promises.say.ended say.Reads.Post (λ κs args r s p. p.failed)
say_once κs args r t u v p q e = (same_queue p q e, ap (λ (out : List ℕ). (out, u.1)) (same_array p q))

pub flush_once : OneOutcomeGiven promises.flush.ended flush.Reads.Post (λ κs args r s p. p.failed)
flush_once κs args r t u v p q e =
    (ap₂ (λ (n : ℕ) (l : Bool). record { waiting = n; lost = l }) (p.waits ∙ sym q.waits) lost, refl)
  where
    lost : r.lost ≡ t.lost
    lost = rw (p.loses, q.loses, e)
