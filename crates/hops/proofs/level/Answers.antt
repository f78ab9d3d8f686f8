-- `hops::level` meets its contract: which range holds the level, and NID_STM. Assumes nothing.
use mathlib.Core.Path.{ap}
use native.Mathlib.Omega.{arith}
use Rattle.hops.specs.Hops.{counted}
use Rattle.hops.proofs.Tests.{stm_none, stm_over, stm_kept, level_over, level_kept}
use Rattle.hops.proofs.level.Goals as goal

pub returns-then-stm-eq0 : goal.returns-then-stm-eq0
returns-then-stm-eq0 c =
    let a = c.args in
    ap counted (stm_none a.most a.w c.behind-l.result c.behind-l.ensures c.if-l-eq1.true c.behind-stm.result c.behind-stm.ensures c.if-stm-eq0.true)

pub returns-then-stm-gt3 : goal.returns-then-stm-gt3
returns-then-stm-gt3 c =
    let a = c.args in
    ap counted (stm_over a.most a.w c.behind-l.result c.behind-l.ensures c.if-l-eq1.true c.behind-stm.result c.behind-stm.ensures (omega arith))

pub returns-then-l-eq1 : goal.returns-then-l-eq1
returns-then-l-eq1 c =
    let a = c.args in
    ap counted
    (stm_kept a.most a.w c.behind-l.result c.behind-l.ensures c.if-l-eq1.true c.behind-stm.result c.behind-stm.ensures (omega arith) (omega arith))

pub returns-then-most-l : goal.returns-then-most-l
returns-then-most-l c = let a = c.args in ap counted (level_over a.most a.w c.behind-l.result c.behind-l.ensures c.if-l-eq1.false (omega arith))

pub returns : goal.returns
returns c = let a = c.args in ap counted (level_kept a.most a.w c.behind-l.result c.behind-l.ensures c.if-l-eq1.false (omega arith))
