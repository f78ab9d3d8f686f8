-- `sheet_judge::judge` meets its contract: room, then the writer's refusal, then the names, then the telegram. Assumes nothing.
use Rattle.std.specs.Prelude.{Some, None}
use Rattle.std.proofs.lemmas.Result.{err_from_is_err_and}
use mathlib.Core.Path.{refl, sym}
use Prim.Native.Nat.{◌≤◌}
use native.Mathlib.Omega.{arith}
use lib.ListN.{length}
use lib.Seq.{length-take-le}
use Rattle.format.specs.Rules.{paper}
use Rattle.states.specs.Labels.{numbers}
use Rattle.states.proofs.Leaving.{few_values}
use Rattle.states.proofs.Writing.{Written}
use Rattle.sheet.specs.Steps.{Other}
use Rattle.sheet.proofs.Judgement.{label_refused, named_as, label_accepted, judges_roomless, judges_refused, judges_named, writes, judges_taken}
use Rattle.sheet_judge.proofs.judge.Goals as goal

pub returns-then-out-lt104 : goal.returns-then-out-lt104
returns-then-out-lt104 c = rw (c.into.ensures, c.at_once.ensures) (judges_roomless _ _ _ (omega arith))

pub returns-in_err-n : goal.returns-in_err-n
returns-in_err-n c =
    let p = err_from_is_err_and c.from_residual.result c.from_residual.ensures.1 in
    rw (p.1, p.2) (judges_refused _ _ _ (omega arith) (label_refused c.label.ensures (omega arith) c.in_err-n.was))

pub slice_bounds-due-end : goal.slice_bounds-due-end
slice_bounds-due-end c =
    let telegram : Written c.args.values.now c.in_ok-n.n = label_accepted c.label.ensures (omega arith) c.in_ok-n.was in
    let few : length c.args.values.now ≤ 830 = let w = telegram in rw w.same (few_values paper w.telegram) in
    omega (arith, few)

pub slice_bounds-other_name-end : goal.slice_bounds-other_name-end
slice_bounds-other_name-end c =
    let telegram : Written c.args.values.now c.in_ok-n.n = label_accepted c.label.ensures (omega arith) c.in_ok-n.was in
    let few : length c.args.values.now ≤ 830 = let w = telegram in rw w.same (few_values paper w.telegram) in
    sym (length-take-le _ _ (omega (arith, few)))

pub returns-in-Some : goal.returns-in-Some
returns-in-Some c =
    let telegram : Written c.args.values.now c.in_ok-n.n = label_accepted c.label.ensures (omega arith) c.in_ok-n.was in
    let w = telegram in
    let names = named_as c.label.ensures (omega arith) w.entries w.is in
    let other : Other c.args.fields.now (numbers w.entries) (Some c.in-Some.k) = rw names at c.in-Some.ensures in
    judges_named _ _ _ (omega arith) w.entries w.is other

pub unwrap-requires : goal.unwrap-requires
unwrap-requires c =
    let telegram : Written c.args.values.now c.in_ok-n.n = label_accepted c.label.ensures (omega arith) c.in_ok-n.was in
    let w = telegram in
    rw (writes c.args.fields.now _ _ (omega arith) w.entries w.is c.write.ensures) refl

pub returns : goal.returns
returns c =
    let telegram : Written c.args.values.now c.in_ok-n.n = label_accepted c.label.ensures (omega arith) c.in_ok-n.was in
    let w = telegram in
    let names = named_as c.label.ensures (omega arith) w.entries w.is in
    let other : Other c.args.fields.now (numbers w.entries) None = rw names at c.in_default.ensures in
    judges_taken _ _ _ (omega arith) w.entries w.is other c.write.ensures w.size
