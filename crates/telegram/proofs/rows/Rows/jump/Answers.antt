-- `telegram::rows::Rows::jump` meets its contract: a field that steers leads as far ahead as `leap` says. Assumes nothing.
use mathlib.Core.Path.{◌≡◌, ◌∙◌, ap₂}
use native.Mathlib.Omega.{arith}
use Rattle.format.specs.Table.{act, rest, leap_by}
use Rattle.format.proofs.Rests.{rest_ahead, leap_small}
use Rattle.telegram.proofs.rows.Rows.jump.Goals as goal

pub act-requires : goal.act-requires
act-requires c = c.requires.0

pub rest-requires : goal.rest-requires
rest-requires c = c.requires.0

pub overflow_add-result : goal.overflow_add-result
overflow_add-result c =
    let k = c.args.k in
    let leaps : c.leap.result ≡ leap_by (act k) (rest k) = c.leap.ensures ∙ ap₂ leap_by c.act.ensures c.rest.ensures in
    let b = c in
    omega (arith, b.requires.0, leaps, leap_small b.args.k b.requires.0)

pub returns : goal.returns
returns c =
    let k = c.args.k in
    let leaps : c.leap.result ≡ leap_by (act k) (rest k) = c.leap.ensures ∙ ap₂ leap_by c.act.ensures c.rest.ensures in
    let b = c in rw (leaps) (rest_ahead b.args.k b.requires.0 b.requires.1)
