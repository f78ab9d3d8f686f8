-- The promise of `telegram` is met by one answer alone, and by one final contents of what is lent. Assumes nothing.
use mathlib.Core.Path.{sym, ap, ◌∙◌}
use mathlib.Core.List.{List}
use Prim.Native.Nat.{ℕ}
use Rattle.telegram_word.specs.contracts as promises
use Rattle.bits.proofs.Once.{OneOutcome}
use Rattle.telegram_word.proofs.telegram

pub telegram_once : OneOutcome promises.telegram.ended telegram.Reads.Post
telegram_once κs args r t u v p q =
    (p.answer ∙ sym q.answer, ap (λ (out : List ℕ). (u.0, (out, u.1.1))) (p.contents ∙ sym q.contents))
