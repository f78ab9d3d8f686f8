-- `blocks::next` meets its contract: one law for each of its ways. Assumes nothing.
use native.Mathlib.Omega.{arith}
use Rattle.blocks.proofs.Stepping.{steps_nowhere, steps_on, steps_read}
use Rattle.blocks.proofs.next.Goals as goal

pub returns-then-input : goal.returns-then-input
returns-then-input c = steps_nowhere _ _ c.args.input c.if-input.true

pub returns-then-input-2 : goal.returns-then-input-2
returns-then-input-2 c = steps_on _ _ _ c.if-input.false _ _ (omega (arith, c.if-input-2.true)) c.take_on.ensures

pub returns : goal.returns
returns c =
    let read = c.read-got in
    steps_read _ _ _ c.if-input.false _ _ _ (omega (arith, c.if-input-2.false)) (record { got = read.result; within = read.ensures; arrives = c.arrived.ensures })
