-- `answers::answer` meets its contract: one law for each answer of packing. Assumes nothing.
use mathlib.Core.Path.{refl, sym, ◌∙◌}
use lib.Seq.{length-take-le}
use Rattle.format.proofs.Numbers.{answer_is}
use Rattle.answers.proofs.Packs.{answer_bits, prefix_fits, answer_unpacked}
use Rattle.answers.proofs.answer.Goals as goal

pub slice_bounds-s-end : goal.slice_bounds-s-end
slice_bounds-s-end c =
    let p = c in
    let a = p.args in
    prefix_fits a.line.now _ p.pack.result _ p.pack.ensures _ c.bytes_for.result c.in-Ok.is c.bytes_for.ensures

pub slice_bounds-check-end : goal.slice_bounds-check-end
slice_bounds-check-end c =
    sym (length-take-le _ _ ((let p = c in
    let a = p.args in
    prefix_fits a.line.now _ p.pack.result _ p.pack.ensures _ c.bytes_for.result c.in-Ok.is c.bytes_for.ensures)))

pub returns : goal.returns
returns c =
    let a = c.args in
    answer_is _ _ c.check.ensures ∙ answer_bits a.line.now _ c.pack.result _ c.pack.ensures _ c.bytes_for.result c.in-Ok.is c.bytes_for.ensures

pub returns-in_default : goal.returns-in_default
returns-in_default c =
    let a = c.args in
    c.no_telegram.ensures ∙ answer_unpacked a.line.now _ c.pack.result _ c.pack.ensures refl _ c.in_default.is
