-- `telegram_word::in_pairs` meets its contract: 0 to 128 pairs of characters, and each of these is hexadecimal. Assumes nothing.
use mathlib.Core.Path.{sym, ◌∙◌}
use native.Mathlib.Omega.{arith}
use lib.ListN.{take}
use lib.Seq.{length-take-le}
use Rattle.telegram_word.proofs.Hexes.{hexed_all, pairs_long, pairs_odd, pairs_even}
use Rattle.telegram_word.proofs.in_pairs.Goals as goal

pub returns-then-end-gt256 : goal.returns-then-end-gt256
returns-then-end-gt256 c =
    let a = c.args in
    let l = length-take-le a.end a.text.now c.requires in
    sym (pairs_long (take a.end a.text.now) (omega (arith, l)))

pub returns-then-end-ne0 : goal.returns-then-end-ne0
returns-then-end-ne0 c =
    let a = c.args in
    let l = length-take-le a.end a.text.now c.requires in
    sym (pairs_odd (take a.end a.text.now) (rw l c.if-end-ne0.true))

pub returns : goal.returns
returns c =
    let a = c.args in
    let l = length-take-le a.end a.text.now c.requires in
    let front = take a.end a.text.now in
    c.hexed.ensures ∙ hexed_all front ∙ sym (pairs_even front (omega (arith, l)) (rw l c.if-end-ne0.false))
