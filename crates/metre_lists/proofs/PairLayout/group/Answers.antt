-- A group with two distances, one behind the other, is gone over as its layout says. Assumes nothing.
use mathlib.Core.Path.{sym, ◌∙◌}
use Prim.Native.Nat.{◌+◌}
use native.Mathlib.Omega.{arith}
use Rattle.distance.specs.Distance.{number_of}
use Rattle.told.specs.Metres.{in_metres}
use Rattle.told.specs.Decides.{whole_in}
use Rattle.metre_lists.proofs.Reading.{front, moved, some_bits, no_bits, first_fails, then_second, both_put}
use Rattle.metre_lists.proofs.PairLayout.group.Goals as goal

pub returns-then-not-told-clause-told : goal.returns-then-not-told-clause-told
returns-then-not-told-clause-told c =
    let a = c.args in
    let e = front a.s.now a.x (omega arith) c.look-w.ensures 15 (omega arith) in
    let h = sym (rw e at c.told.ensures.0) ∙ c.if-not-told.true in
    no_bits _ _ (first_fails a.puts (whole_in a.s.now (number_of a.k) 15 a.x) (whole_in a.s.now (number_of a.k) 15 (a.x + 15)) h)

pub returns-then-not-told-2-clause-told : goal.returns-then-not-told-2-clause-told
returns-then-not-told-2-clause-told c =
    let a = c.args in
    let e = front a.s.now a.x (omega arith) c.look-w.ensures 15 (omega arith) in
    let f = moved a.s.now a.x (omega arith) c.look-w.ensures 15 15 (omega arith) in
    let h = sym (rw e at c.told.ensures.0) ∙ c.if-not-told.false in
    let i = sym (rw f at c.told-2.ensures.0) ∙ c.if-not-told-2.true in
    no_bits _ _ (then_second a.puts (whole_in a.s.now (number_of a.k) 15 a.x) (whole_in a.s.now (number_of a.k) 15 (a.x + 15)) h ∙ i)

pub returns-clause-told : goal.returns-clause-told
returns-clause-told c =
    let a = c.args in
    let e = front a.s.now a.x (omega arith) c.look-w.ensures 15 (omega arith) in
    let f = moved a.s.now a.x (omega arith) c.look-w.ensures 15 15 (omega arith) in
    let h = sym (rw e at c.told.ensures.0) ∙ c.if-not-told.false in
    let i = sym (rw f at c.told-2.ensures.0) ∙ c.if-not-told-2.false in
    some_bits _ _ (then_second a.puts (whole_in a.s.now (number_of a.k) 15 a.x) (whole_in a.s.now (number_of a.k) 15 (a.x + 15)) h ∙ i)

pub returns-clause-after : goal.returns-clause-after
returns-clause-after c =
    let a = c.args in
    let e = front a.s.now a.x (omega arith) c.look-w.ensures 15 (omega arith) in
    let f = moved a.s.now a.x (omega arith) c.look-w.ensures 15 15 (omega arith) in
    both_put a.puts (in_metres a.s.now (number_of a.k) 15 a.x) (in_metres a.s.now (number_of a.k) 15 (a.x + 15)) _ _ _ (rw e at c.told.ensures.1) (rw f at c.told-2.ensures.1)
