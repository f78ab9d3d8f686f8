-- `telegram::reader::find` meets its contract: the tests of the definition, in its order, and the fields by whole packets or one by one. Assumes nothing.
use Rattle.std.specs.Prelude.{Err}
use mathlib.Core.Path.{◌≡◌, sym, ap, ◌∙◌}
use native.Mathlib.Omega.{arith}
use borrow.Author.Rules.{rules}
use Rattle.format.specs.Refusals.{Answer, in_numbers}
use Rattle.format.specs.Rules.{paper}
use Rattle.format.specs.declared.Refusal.{Refusal}
use Rattle.states.specs.Reader.{answer_of}
use Rattle.states.proofs.Checking.{sized_is, checked_size, checked_padding, checked_fields}
use Rattle.telegram.specs.Finding.{counted_in}
use Rattle.telegram.proofs.reader.find.Goals as goal

abbrev told : Refusal → Answer
told r = Err r

pub returns-then-not-sized-clause-answer : goal.returns-then-not-sized-clause-answer
returns-then-not-sized-clause-answer c =
    let a = c.args in
    ap in_numbers (ap told c.at_once.ensures ∙ sym (ap answer_of (checked_size a.s.now a.n paper (sym c.sized.ensures ∙ c.if-not-sized.true))))

pub clear-requires : goal.clear-requires
clear-requires c =
    let a = c.args in
    let z = sized_is a.s.now a.n (sym c.sized.ensures ∙ c.if-not-sized.false) in
    (omega (arith, z.least), z.most, z.bytes)

pub returns-then-not-clear-clause-answer : goal.returns-then-not-clear-clause-answer
returns-then-not-clear-clause-answer c =
    let a = c.args in
    ap in_numbers
    (ap told c.at_once-then-not-clear.ensures
    ∙ sym (ap answer_of
    (checked_padding a.s.now a.n paper (sym c.sized.ensures ∙ c.if-not-sized.false) (sym c.clear.ensures ∙ c.if-not-clear.true))))

pub sweep-requires : goal.sweep-requires
sweep-requires c =
    let a = c.args in
    let z = sized_is a.s.now a.n (sym c.sized.ensures ∙ c.if-not-sized.false) in
    (z.most, omega (arith, z.bytes))

pub returns-in-Over-clause-answer : goal.returns-in-Over-clause-answer
returns-in-Over-clause-answer c =
    let a = c.args in
    ap in_numbers
    ((rw c.in-Over.is at c.sweep.ensures).0
    ∙ sym (ap answer_of
    (checked_fields a.s.now a.n paper (sym c.sized.ensures ∙ c.if-not-sized.false) (sym c.clear.ensures ∙ c.if-not-clear.false))))

pub exact-requires : goal.exact-requires
exact-requires c =
    let a = c.args in
    let z = sized_is a.s.now a.n (sym c.sized.ensures ∙ c.if-not-sized.false) in
    (omega (arith, z.least), z.most, omega (arith, z.bytes), rw c.in-Stopped.is at c.sweep.ensures)

pub returns-in_err-count-in-Stopped-clause-answer : goal.returns-in_err-count-in-Stopped-clause-answer
returns-in_err-count-in-Stopped-clause-answer c =
    let a = c.args in
    let passed_on : c.from_residual.result ≡ Err c.in_err-count-in-Stopped.field-0.0 = search rules in
    ap in_numbers
    (ap counted_in passed_on
    ∙ c.in_err-count-in-Stopped.ensures
    ∙ sym (ap answer_of
    (checked_fields a.s.now a.n paper (sym c.sized.ensures ∙ c.if-not-sized.false) (sym c.clear.ensures ∙ c.if-not-clear.false))))

pub returns-in_ok-count-in-Stopped-clause-answer : goal.returns-in_ok-count-in-Stopped-clause-answer
returns-in_ok-count-in-Stopped-clause-answer c =
    let a = c.args in
    ap in_numbers
    (c.in_ok-count-in-Stopped.ensures
    ∙ sym (ap answer_of
    (checked_fields a.s.now a.n paper (sym c.sized.ensures ∙ c.if-not-sized.false) (sym c.clear.ensures ∙ c.if-not-clear.false))))
