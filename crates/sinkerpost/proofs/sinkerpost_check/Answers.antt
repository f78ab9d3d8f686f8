-- `sinkerpost::sinkerpost_check` meets its contract. Assumes nothing.
use mathlib.Core.Path.{ap, ◌∙◌}
use Rattle.format.specs.Refusals.{code_of}
use Rattle.format.specs.Rules.{paper}
use Rattle.format.proofs.Numbers.{answer_is}
use Rattle.states.specs.Reader.{checked, answer_of}
use Rattle.sinkerpost.proofs.Places.{answer_placed}
use Rattle.sinkerpost.proofs.sinkerpost_check.Goals as goal

pub code-requires : goal.code-requires
code-requires c = answer_placed c.args.bytes.now _ c.check.result c.check.ensures

pub returns : goal.returns
returns c =
    let a = c.args in
    c.code.ensures
    ∙ ap code_of (answer_is c.check.result (answer_of (checked paper a.bytes.now a.n)) c.check.ensures)
