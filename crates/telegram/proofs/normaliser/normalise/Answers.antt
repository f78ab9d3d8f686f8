-- `telegram::normaliser::normalise` meets its contract: room, then the check's refusal as it stands; only what it accepted is copied or told. Assumes nothing.
use Rattle.std.specs.Prelude.{Err}
use mathlib.Core.Path.{◌≡◌, sym, ap, ◌∙◌}
use borrow.Author.Rules.{rules}
use Rattle.bits.proofs.Bytes.{below_known}
use Rattle.counted.proofs.Copied.{copied}
use Rattle.counted.proofs.Patched.{copied_whole}
use Rattle.format.proofs.Numbers.{answer_is}
use Rattle.states.proofs.Normalising.{normalises_roomless, normalises_refused, normalises_accepted, tellable}
use Rattle.telegram.specs.Finding.{counted_in}
use Rattle.telegram.proofs.normaliser.normalise.Goals as goal

pub returns-then-out-lt104 : goal.returns-then-out-lt104
returns-then-out-lt104 c =
    let a = c.args in
    rw c.at_once.ensures (normalises_roomless a.s.now a.n a.out.now c.if-out-lt104.true)

pub returns-in_default : goal.returns-in_default
returns-in_default c =
    let a = c.args in
    let passed_on : c.map.result ≡ Err c.in_default.field-0 = search rules in
    let refused = ap counted_in c.in_default.is in
    rw (passed_on ∙ sym refused)
    (normalises_refused a.s.now a.n a.out.now c.if-out-lt104.false (answer_is _ _ c.find-answer.ensures.answer) refused)

pub tell-requires : goal.tell-requires
tell-requires c =
    let a = c.args in
    tellable a.s.now a.n a.out.now c.if-out-lt104.false (answer_is _ _ c.find-answer.ensures.answer) (ap counted_in c.in-Ok.is)

pub returns-then-found : goal.returns-then-found
returns-then-found c =
    let a = c.args in
    let s = a.s.now in
    let out = a.out.now in
    let e = answer_is _ _ c.find-answer.ensures.answer in
    let found = ap counted_in c.in-Ok.is in
    let t = tellable s a.n out c.if-out-lt104.false e found in
    let b = below_known 256 s (λ i. (c.type_inv.s i).fits) in
    normalises_accepted s a.n out c.if-out-lt104.false e found _
    (rw (copied_whole t c.copy.ensures) (copied t b ((rw c.in-Ok.is at c.find-answer.ensures.metric) c.if-found.true)))

pub returns-else-found : goal.returns-else-found
returns-else-found c =
    let a = c.args in
    normalises_accepted a.s.now a.n a.out.now c.if-out-lt104.false (answer_is _ _ c.find-answer.ensures.answer)
    (ap counted_in c.in-Ok.is) _ c.tell.ensures
