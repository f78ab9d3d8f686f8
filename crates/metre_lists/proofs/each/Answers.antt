-- `metre_lists::each` meets its contract: what is left of the list asks and puts what all of it did. Assumes nothing.
use mathlib.Core.Path.{◌≡◌, ap, ◌∙◌}
use Prim.Native.Nat.{ℕ, ◌+◌, ◌-◌, ◌≤◌, ◌<◌}
use native.Mathlib.Omega.{arith}
use Rattle.bits.proofs.Looked.{number_lt}
use Rattle.distance.specs.Distance.{number_of}
use Rattle.told.specs.Metres.{number_in}
use Rattle.metre_lists.proofs.Reading.{front, some_told}
use Rattle.metre_lists.proofs.Listing.{going_first, going_behind, going_on}
use Rattle.metre_lists.proofs.each.Goals as goal

pub loop-init : goal.loop-init
loop-init g c =
    let a = c.args in
    let y = a.x + c.in-Some.bits in
    let n : c.behind-end.result ≡ number_in a.s.now 5 y = c.behind-end.ensures ∙ front a.s.now y (omega arith) c.look.ensures 5 (omega arith) in
    let few : c.behind-end.result ≤ 31 = let b = number_lt a.s.now 5 y in omega (arith, n) in
    let all : c.behind-end.result - 0 ≡ c.behind-end.result = omega arith in
    let t = some_told _ (g.L.Layout.bits a.g.now a.s.now a.x) c.group.ensures.told c.in-Some.is in (
      rw all (going_behind a.s.now (g.L.Layout.whole a.g.now a.s.now (number_of a.k)) (g.L.Layout.put a.g.now a.s.now (number_of a.k)) (λ y. y + g.L.Layout.bits a.g.now a.s.now y) t.0 c.group.ensures.after c.group.auto.out
          (going_first a.s.now (g.L.Layout.whole a.g.now a.s.now (number_of a.k)) (g.L.Layout.put a.g.now a.s.now (number_of a.k)) (λ y. y + g.L.Layout.bits a.g.now a.s.now y) a.puts a.x a.out.now (omega arith)) (ap (λ (k : ℕ). a.x + k) t.1) n few (omega (arith, c.in-Some.ensures.low))),
      few,
    )

pub loop-preserved : goal.loop-preserved
loop-preserved g c =
    let a = c.args in
    let l = c.loop in
    let end = c.behind-end.result in
    let one : end - (l.counter + 1) ≡ end - l.counter - 1 = omega arith in
    let more : 0 < end - l.counter = omega (arith, c.loop-test.true) in
    let t = some_told _ (g.L.Layout.bits a.g.now a.s.now l.at) c.group-in-loop.ensures.told c.in-Some-group.is in
    (rw one (going_on a.s.now (g.L.Layout.whole a.g.now a.s.now (number_of a.k)) (g.L.Layout.put a.g.now a.s.now (number_of a.k)) (λ y. y + g.L.Layout.bits a.g.now a.s.now y) t.0 c.group-in-loop.ensures.after c.group-in-loop.auto.out l.invariant.0 more (ap (λ (k : ℕ). l.at + k) t.1) (omega (arith, c.in-Some-group.ensures.low))), l.invariant.1)
