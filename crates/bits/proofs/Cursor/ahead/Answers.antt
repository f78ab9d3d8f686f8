-- `bits::Cursor::ahead` meets its contract: the window is moved up so that the bits from there on stand in front. Assumes nothing.
use mathlib.Core.Path.{sym, ◌∙◌}
use Prim.Native.Nat.{◌+◌}
use native.Mathlib.Omega.{arith}
use Rattle.bits.specs.Ahead.{window_at}
use Rattle.bits.proofs.Sight.{IsAhead, seen, sight_ends, sight_goes}
use Rattle.bits.proofs.Cursor.ahead.Goals as goal

pub returns-then-not-in_sight : goal.returns-then-not-in_sight
returns-then-not-in_sight c =
    let a = c.args in
    sym (sight_ends a.s.now a.n a.bits a.self.at (sym c.in_sight.ensures ∙ c.if-not-in_sight.true))

pub overflow_sub-s : goal.overflow_sub-s
overflow_sub-s c =
    let a = c.args in
    let i = seen a.s.now a.n a.bits a.self.at (sym c.in_sight.ensures ∙ c.if-not-in_sight.false) in
    omega (arith, i.long)

pub eight-requires : goal.eight-requires
eight-requires c =
    let a = c.args in
    let there : IsAhead a.s.now a.n a.bits a.self.at (window_at a.s.now a.self.at) (a.self.at + a.bits) = seen _ _ _ _ (sym c.in_sight.ensures ∙ c.if-not-in_sight.false) in
    let i = there in
    let l = i.long in
    omega arith

pub overflow_shl-w : goal.overflow_shl-w
overflow_shl-w c =
    let a = c.args in
    let there : IsAhead a.s.now a.n a.bits a.self.at (window_at a.s.now a.self.at) (a.self.at + a.bits) = seen _ _ _ _ (sym c.in_sight.ensures ∙ c.if-not-in_sight.false) in
    let i = there in
    omega (arith, i.some, i.within, i.room)

pub overflow_add-result : goal.overflow_add-result
overflow_add-result c =
    let a = c.args in
    let there : IsAhead a.s.now a.n a.bits a.self.at (window_at a.s.now a.self.at) (a.self.at + a.bits) = seen _ _ _ _ (sym c.in_sight.ensures ∙ c.if-not-in_sight.false) in
    let i = there in
    omega (arith, i.within)

pub returns : goal.returns
returns c =
    let a = c.args in
    rw (c.eight.ensures, c.lower-k.ensures)
    (sym (sight_goes a.s.now a.n a.bits a.self.at
    (sym c.in_sight.ensures ∙ c.if-not-in_sight.false)))
