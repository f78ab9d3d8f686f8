-- `telegram::writer::write` meets its contract: room, then the answer of measuring; only what it accepted is stored. Assumes nothing.
use Rattle.std.specs.Prelude.{Err}
use mathlib.Core.Path.{◌≡◌, refl, sym, ◌∙◌}
use borrow.Author.Rules.{rules}
use Rattle.states.proofs.Writing.{writes_roomless, writes_refused, writes_accepted, storable}
use Rattle.telegram.proofs.writer.write.Goals as goal

pub returns-then-out-lt104 : goal.returns-then-out-lt104
returns-then-out-lt104 c = let a = c.args in rw c.at_once.ensures (writes_roomless a.values.now a.out.now c.if-out-lt104.true)

pub returns-in_err-n : goal.returns-in_err-n
returns-in_err-n c =
    let a = c.args in
    let passed_on : c.from_residual.result ≡ Err c.in_err-n.field-0.0 = search rules in
    rw (passed_on ∙ sym c.in_err-n.was) (writes_refused a.values.now a.out.now c.if-out-lt104.false c.measure.ensures c.in_err-n.was)

pub store-requires : goal.store-requires
store-requires c = let a = c.args in storable a.values.now a.out.now c.if-out-lt104.false c.measure.ensures c.in_ok-n.was

pub returns : goal.returns
returns c = let a = c.args in writes_accepted a.values.now a.out.now c.if-out-lt104.false c.in_ok-n.ensures refl _ c.store.ensures
