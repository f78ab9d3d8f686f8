-- `group_words::collect` meets its contract: one law for each way out. Assumes nothing.
use Rattle.group_words.proofs.Answers.{collects_empty, collects_not, fitting, collects_long, collects_many, collects_group}
use mathlib.Core.Path.{◌≡◌}
use Rattle.std.specs.Prelude.{Some}
use Rattle.std.proofs.lemmas.Result.{err_from_is_err_and}
use Rattle.packing.specs.declared.PackError.TheVariants.{Other}
use Rattle.telegram_word.proofs.Answers.{why_none}
use native.Mathlib.Omega.{arith}
use Rattle.group_words.proofs.collect.Goals as goal

pub returns-then-line-eq0 : goal.returns-then-line-eq0
returns-then-line-eq0 c = collects_empty c.args.line.now c.args.bytes.now c.args.ns.now c.if-line-eq0.true

pub returns-in_err-count : goal.returns-in_err-count
returns-in_err-count c =
    let p = err_from_is_err_and c.from_residual.result c.from_residual.ensures.1 in
    let w = why_none c.measured.result c.in_err-count.field-0.0 Other c.in_err-count.ensures.value in
    rw (p.1, p.2, w.1)
    (collects_not c.args.line.now c.args.bytes.now c.args.ns.now c.measured.result c.measured.ensures c.if-line-eq0.false w.0)

pub returns-then-bytes-total : goal.returns-then-bytes-total
returns-then-bytes-total c =
    let is : c.measured.result ≡ Some (c.in_ok-count.count, c.in_ok-count.total) = grind (arith, c.in_ok-count.ensures) in
    collects_long c.args.line.now c.args.bytes.now c.args.ns.now c.measured.result c.measured.ensures _ _ is c.if-line-eq0.false (omega (arith, c.if-bytes-total.true))

pub returns-then-ns-count : goal.returns-then-ns-count
returns-then-ns-count c =
    let is : c.measured.result ≡ Some (c.in_ok-count.count, c.in_ok-count.total) = grind (arith, c.in_ok-count.ensures) in
    collects_many c.args.line.now c.args.bytes.now c.args.ns.now c.measured.result c.measured.ensures _ _ is c.if-line-eq0.false (omega (arith, c.if-bytes-total.false)) (omega (arith, c.if-ns-count.true))

pub lay-requires : goal.lay-requires
lay-requires c =
    let is : c.measured.result ≡ Some (c.in_ok-count.count, c.in_ok-count.total) = grind (arith, c.in_ok-count.ensures) in
    fitting c.args.line.now c.args.bytes.now c.args.ns.now c.measured.result c.measured.ensures _ _ is (omega (arith, c.if-bytes-total.false)) (omega (arith, c.if-ns-count.false))

pub returns : goal.returns
returns c =
    let is : c.measured.result ≡ Some (c.in_ok-count.count, c.in_ok-count.total) = grind (arith, c.in_ok-count.ensures) in
    collects_group c.args.line.now c.args.bytes.now c.args.ns.now c.measured.result c.measured.ensures _ _ is c.if-line-eq0.false (omega (arith, c.if-bytes-total.false)) (omega (arith, c.if-ns-count.false)) _ _ c.lay.ensures.0 c.lay.ensures.1
