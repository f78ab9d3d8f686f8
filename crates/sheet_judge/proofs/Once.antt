-- The promise of `judge` is met by one reply and one final contents of what is lent alone. Assumes nothing.
use mathlib.Core.Path.{sym, ap, ◌∙◌}
use mathlib.Core.List.{List}
use Prim.Native.Nat.{ℕ}
use Rattle.sheet_judge.specs.contracts as promises
use Rattle.bits.proofs.Once.{OneOutcome}
use Rattle.sheet.proofs.Numbers.{judge_answer}
use Rattle.sheet_judge.proofs.judge

pub judge_once : OneOutcome promises.judge.ended judge.Reads.Post
judge_once κs args r t u v p q =
    (judge_answer p ∙ sym (judge_answer q), ap (λ (out : List ℕ). (u.0, (u.1.0, (out, u.1.1.1)))) (p.contents ∙ sym q.contents))
