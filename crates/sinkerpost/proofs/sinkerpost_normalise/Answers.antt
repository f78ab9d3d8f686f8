-- `sinkerpost::sinkerpost_normalise` meets its contract. Assumes nothing.
use mathlib.Core.Path.{sym, ap, subst, ◌∙◌}
use lib.ListN.{length}
use Rattle.format.specs.Refusals.{code_of}
use Rattle.states.proofs.Answered.{normalise_answer}
use Rattle.sinkerpost.specs.Codes.{Placed}
use Rattle.sinkerpost.proofs.Places.{normalise_placed}
use Rattle.sinkerpost.proofs.sinkerpost_normalise.Goals as goal

pub code-requires : goal.code-requires
code-requires c =
    let a = c.args in
    subst Placed (sym (normalise_answer c.normalise.ensures)) (normalise_placed a.bytes.now _ (length a.out.now))

pub returns : goal.returns
returns c =
    record {
      answers = c.code.ensures ∙ ap code_of (normalise_answer c.normalise.ensures);
      contents = c.normalise.ensures.contents;
    }
