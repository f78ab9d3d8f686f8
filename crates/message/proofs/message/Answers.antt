-- `message::message` meets its contract. Assumes nothing.
use mathlib.Core.Path.{refl, ap}
use Rattle.std.proofs.lemmas.Result.{err_from_is_err_and}
use Rattle.group.specs.Walks.{all_accepted}
use Rattle.message.proofs.Answering.{replied_faulty, replied_clash, replied_lists, in_line, runs_long}
use Rattle.message.proofs.message.Goals as goal

pub returns-in_err-judge : goal.returns-in_err-judge
returns-in_err-judge c =
    let p = err_from_is_err_and c.from_residual.result c.from_residual.ensures.1 in
    rw (p.1, p.2) (replied_faulty c.args.s.now c.args.ns.now c.args.pigs.now c.args.numbers.now c.min-room.result c.min-room.ensures _ c.in_err-judge.ensures)

pub invariant_of-line : goal.invariant_of-line
invariant_of-line c =
    let l = in_line c.args.s.now c.args.ns.now c.args.pigs.now c.args.numbers.now c.min-room.result c.min-room.ensures c.in_ok-judge.ensures in
    record { arrives = ap all_accepted l.arrives.goes; whole = l.whole }

pub returns-in-Err : goal.returns-in-Err
returns-in-Err c = replied_clash c.args.s.now c.args.ns.now c.args.pigs.now c.args.numbers.now c.min-room.result c.min-room.ensures c.in_ok-judge.ensures _ _ c.in-Err.ensures.answer

pub store-requires : goal.store-requires
store-requires c = (c.in_default.ensures.each refl, runs_long c.args.s.now c.args.ns.now c.args.pigs.now c.args.numbers.now c.min-room.result c.min-room.ensures c.in_ok-judge.ensures)

pub returns : goal.returns
returns c = replied_lists c.args.s.now c.args.ns.now c.args.pigs.now c.args.numbers.now c.min-room.result c.min-room.ensures c.in_ok-judge.ensures c.in_default.ensures.answer _ _ _ c.store.ensures
