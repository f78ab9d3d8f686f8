-- Each way to a return tells the value's size, the level, and whether the packet collides or the value is that of its ETCS-44, which is all that the rule asks. Assumes nothing.
use mathlib.Core.Path.{◌∙◌, ap}
use Rattle.states.specs.Machine.{context_of, level_of}
use Rattle.states.proofs.Senses.{direction_high, direction_header, direction_twice, direction_once, direction_same, direction_other}
use Rattle.telegram.proofs.verdict.direction.Goals as goal

pub returns-then-v-gt2 : goal.returns-then-v-gt2
returns-then-v-gt2 c = λ p l h. let a = c.args in direction_high p (context_of l a.s) a.v c.if-v-gt2.true

pub returns-then-twice : goal.returns-then-twice
returns-then-twice c =
    λ p l h.
    let e = c in
    let a = e.args in
    direction_twice p (context_of l a.s) a.v e.if-v-gt2.false (ap level_of c.in-Packet.is) (h c.in-Packet.is ∙ c.if-twice.true)

pub returns-then-v-s : goal.returns-then-v-s
returns-then-v-s c =
    λ p l h.
    let e = c in
    let a = e.args in
    direction_same p (context_of l a.s) a.v e.if-v-gt2.false (ap level_of c.in-User.is) c.if-v-s.true

pub returns-in-Header : goal.returns-in-Header
returns-in-Header c =
    λ p l h.
    let e = c in
    let a = e.args in
    direction_header p (context_of l a.s) a.v e.if-v-gt2.false (ap level_of c.in-Header.is)

pub returns-else-twice : goal.returns-else-twice
returns-else-twice c =
    λ p l h.
    let e = c in
    let a = e.args in
    direction_once p (context_of l a.s) a.v e.if-v-gt2.false (ap level_of c.in-Packet.is) (h c.in-Packet.is ∙ c.if-twice.false)

pub returns-else-v-s : goal.returns-else-v-s
returns-else-v-s c =
    λ p l h.
    let e = c in
    let a = e.args in
    direction_other p (context_of l a.s) a.v e.if-v-gt2.false (ap level_of c.in-User.is) c.if-v-s.false
