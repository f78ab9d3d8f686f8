-- `bodies::characters` meets its contract. Assumes nothing.
use mathlib.Core.Path.{ap, ◌∙◌}
use Prim.Native.Nat.{◌+◌, ◌/◌}
use native.Mathlib.Omega.{arith}
use Rattle.hops.specs.Hops.{counted}
use Rattle.bodies.proofs.Tests.{sized_many, confirm_over, text_astray, text_kept}
use Rattle.bodies.proofs.characters.Goals as goal

pub returns-then-behind-gt2 : goal.returns-then-behind-gt2
returns-then-behind-gt2 c =
    let a = c.args in
    ap counted
    (confirm_over a.end a.second.at a.before a.bits a.w (λ z. absurd (omega (arith, c.requires.2, z))) c.behind.result c.behind.ensures (omega arith))

pub returns-then-end-second : goal.returns-then-end-second
returns-then-end-second c =
    let a = c.args in
    ap counted
    (text_astray a.end a.second.at a.before a.bits a.w (λ z. absurd (omega (arith, c.requires.2, z))) c.behind.result c.behind.ensures (omega arith) (omega arith))

pub returns : goal.returns
returns c =
    let a = c.args in
    let k = c.behind-k.result in
    c.sized.ensures
    ∙ sized_many (a.before + a.bits / 8 + k) (omega (arith, c.requires.0)) _ _
    ∙ ap counted
    (text_kept a.end a.second.at a.before a.bits a.w (λ z. absurd (omega (arith, c.requires.2, z))) c.behind.result c.behind.ensures (omega arith) k
    c.behind-k.ensures (omega arith))
