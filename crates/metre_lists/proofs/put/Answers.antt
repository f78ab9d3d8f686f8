-- `metre_lists::put` meets its contract. Assumes nothing.
use mathlib.Core.Path.{sym, ap, ◌∙◌}
use native.Mathlib.Omega.{arith}
use Rattle.metre_lists.proofs.Reading.{twenty}
use Rattle.bits.specs.Put.{put_at}
use Rattle.store.proofs.Laid.{laid_is}
use Rattle.distance.specs.Distance.{number_of}
use Rattle.distance.specs.Steps.{decimetres, steps}
use Rattle.metre_lists.proofs.put.Goals as goal

pub overflow_cast-behind : goal.overflow_cast-behind
overflow_cast-behind c = let a = c.args in omega (arith, twenty a.w 0 a.wide (omega arith), c.behind.ensures)

pub returns : goal.returns
returns c =
    let a = c.args in
    c.lay.ensures
    ∙ sym (laid_is a.out.now a.at a.wide _ (omega arith) (omega arith))
    ∙ ap (put_at a.out.now a.at a.wide)
    (c.metres.ensures ∙ ap (steps 1) (c.decimetres-d.ensures ∙ ap (decimetres (number_of a.k)) (c.new-n.ensures ∙ c.behind.ensures)))
