-- `words::number` meets its contract: the number at the front of the word counts if it ends where the word does. Assumes nothing.
use mathlib.Core.Path.{sym, ◌∙◌}
use native.Mathlib.Omega.{arith}
use Rattle.words.proofs.Figures.{number_none, number_all, number_part}
use Rattle.words.proofs.number.Goals as goal

pub returns-then-end-word : goal.returns-then-end-word
returns-then-end-word c =
    let w = c.args.word.now in
    sym (number_part w _ _ (sym c.decimal_at.ensures ∙ c.in_ok-v.was) (λ s. omega (arith, s)))

pub returns : goal.returns
returns c =
    let w = c.args.word.now in
    sym (number_all w _ _ (sym c.decimal_at.ensures ∙ c.in_ok-v.was) (omega arith))

pub returns-in_err-v : goal.returns-in_err-v
returns-in_err-v c = rw c.from_residual.ensures (sym (number_none c.args.word.now (sym c.decimal_at.ensures ∙ c.in_err-v.was)))
