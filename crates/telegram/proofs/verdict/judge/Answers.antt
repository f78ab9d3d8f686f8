-- The code in the table tells the rule of the field, and each code is sent to what decides that rule. Assumes nothing.
use mathlib.Core.Path.{◌∙◌, sym, ap}
use mathlib.Core.Bool.{Bool}
use native.Mathlib.Omega.{arith}
use Rattle.format.specs.Rules.{unless}
use Rattle.format.specs.Table.{field_at}
use Rattle.format.specs.declared.Kind.TheVariants.{Value}
use Rattle.states.specs.Machine.{context_of}
use Rattle.states.proofs.Senses.{rule_direction, judge_free, judge_total, judge_radio, judge_packet, judge_user, judge_direction, judge_range, total_under, total_fits}
use Rattle.telegram.proofs.verdict.judge.Goals as goal

pub returns-then-c-lt-TOTAL : goal.returns-then-c-lt-TOTAL
returns-then-c-lt-TOTAL c =
    λ p l h.
    let b = c in
    let a = b.args in
    let x = context_of l a.s in
    let f = field_at a.s.todo.node in
    judge_free p x f a.v (omega arith)

pub returns-then-v-s : goal.returns-then-v-s
returns-then-v-s c =
    λ p l h.
    let b = c in
    let a = b.args in
    let x = context_of l a.s in
    let f = field_at a.s.todo.node in
    total_under a.s.pig a.v c.if-v-s.true ∙ judge_total p x f a.v (sym b.code-c.ensures ∙ c.in-5.is)

pub returns-else-v-s : goal.returns-else-v-s
returns-else-v-s c =
    λ p l h.
    let b = c in
    let a = b.args in
    let x = context_of l a.s in
    let f = field_at a.s.todo.node in
    total_fits a.s.pig a.v c.if-v-s.false ∙ judge_total p x f a.v (sym b.code-c.ensures ∙ c.in-5.is)

pub returns-then-allowed : goal.returns-then-allowed
returns-then-allowed c =
    λ p l h.
    let b = c in
    let a = b.args in
    let x = context_of l a.s in
    let f = field_at a.s.todo.node in
    ap (λ (q : Bool). unless q Value) (sym c.if-allowed.true ∙ c.allowed.ensures)
    ∙ judge_radio p x f a.v (sym b.code-c.ensures ∙ c.in-6.is)

pub returns-else-allowed : goal.returns-else-allowed
returns-else-allowed c =
    λ p l h.
    let b = c in
    let a = b.args in
    let x = context_of l a.s in
    let f = field_at a.s.todo.node in
    ap (λ (q : Bool). unless q Value) (sym c.if-allowed.false ∙ c.allowed.ensures)
    ∙ judge_radio p x f a.v (sym b.code-c.ensures ∙ c.in-6.is)

pub returns-in-7 : goal.returns-in-7
returns-in-7 c =
    λ p l h.
    let b = c in
    let a = b.args in
    let x = context_of l a.s in
    let f = field_at a.s.todo.node in
    c.packet.ensures ∙ judge_packet p x f a.v (sym b.code-c.ensures ∙ c.in-7.is)

pub returns-in-8 : goal.returns-in-8
returns-in-8 c =
    λ p l h.
    let b = c in
    let a = b.args in
    let x = context_of l a.s in
    let f = field_at a.s.todo.node in
    c.user.ensures ∙ judge_user p x f a.v (sym b.code-c.ensures ∙ c.in-8.is)

pub returns-in-9 : goal.returns-in-9
returns-in-9 c =
    λ p l h.
    let b = c in
    let a = b.args in
    let x = context_of l a.s in
    let f = field_at a.s.todo.node in
    let e = sym b.code-c.ensures ∙ c.in-9.is in
    c.direction.ensures p l (h (rule_direction f e)) ∙ judge_direction p x f a.v e

pub returns-in_default : goal.returns-in_default
returns-in_default c =
    λ p l h.
    let b = c in
    let a = b.args in
    let x = context_of l a.s in
    let f = field_at a.s.todo.node in
    c.ranged.ensures ∙ judge_range p x f a.v (omega arith)
