-- `telegram::labels::label` meets its contract: room, then the answer of measuring; only what it accepted is labelled. Assumes nothing.
use Rattle.std.specs.Prelude.{Err}
use mathlib.Core.Path.{◌≡◌, sym, ◌∙◌}
use borrow.Author.Rules.{rules}
use Rattle.states.proofs.Labelling.{labels_roomless, labels_refused, labels_accepted, labelable}
use Rattle.telegram.proofs.labels.label.Goals as goal

pub returns-then-fields-lt830 : goal.returns-then-fields-lt830
returns-then-fields-lt830 c = let a = c.args in rw c.at_once.ensures (labels_roomless a.values.now a.fields.now c.if-fields-lt830.true)

pub returns-in_err-n : goal.returns-in_err-n
returns-in_err-n c =
    let a = c.args in
    let passed_on : c.from_residual.result ≡ Err c.in_err-n.field-0.0 = search rules in
    rw (passed_on ∙ sym c.in_err-n.was) (labels_refused a.values.now a.fields.now c.if-fields-lt830.false c.measure.ensures c.in_err-n.was)

pub name-requires : goal.name-requires
name-requires c =
    let a = c.args in
    labelable a.values.now a.fields.now c.if-fields-lt830.false c.measure.ensures c.in_ok-n.was

pub returns : goal.returns
returns c =
    let a = c.args in
    rw (← c.in_ok-n.was) (labels_accepted a.values.now a.fields.now c.if-fields-lt830.false c.measure.ensures c.in_ok-n.was _ c.name.ensures)
