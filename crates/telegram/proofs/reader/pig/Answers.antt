-- `telegram::reader::pig` meets its contract. Assumes nothing.
use mathlib.Core.Path.{◌≡◌, sym, ◌∙◌}
use Prim.Native.Nat.{ℕ}
use native.Mathlib.Omega.{arith}
use Rattle.bits.proofs.Fields.{taken, take_whole}
use Rattle.telegram.proofs.reader.pig.Goals as goal

pub returns-in-Some : goal.returns-in-Some
returns-in-Some c =
    let a = c.args in
    let f = taken a.s.now a.n 3 9 _ _ (sym c.take.ensures ∙ c.in-Some.is) in
    f.value

pub returns-in-None : goal.returns-in-None
returns-in-None c =
    let a = c.args in
    let e = sym (take_whole a.s.now a.n 3 9 (omega arith) (omega arith) (omega arith)) ∙ sym c.take.ensures ∙ c.in-None.is in
    let z : ◌≡◌ {A = ℕ} 0 1 = cc in
    absurd (omega arith)
