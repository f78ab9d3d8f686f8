-- `retelling::kind` meets its contract. Assumes nothing.
use mathlib.Core.Path.{◌≡◌, sym, ap, ◌∙◌}
use Prim.Native.Nat.{ℕ, ◌+◌}
use native.Mathlib.Omega.{arith}
use Rattle.told.specs.Metres.{links_put, slopes_put, profiles_put, places_put, levels_put, conditions_put, text_put, handover_put}
use Rattle.told.specs.Decides.{links_whole, slopes_whole, profiles_whole, places_whole, levels_whole, conditions_whole, words_whole, handover_whole, kind_put}
use Rattle.retelling.proofs.ByNumber.{turns, kind_other}
use Rattle.metre_lists.proofs.Reading.{front}
use Rattle.retelling.proofs.kind.Goals as goal

pub user-requires : goal.user-requires
user-requires c =
    let a = c.args in
    let n = sym (c.behind.ensures ∙ front a.p.now.s.now a.p.now.x (omega arith) a.p.now.within.2 8 (omega arith)) ∙ c.in-44.is in
    (omega arith, rw n at c.requires.1)

pub returns-in-5 : goal.returns-in-5
returns-in-5 c =
    let a = c.args in
    let n = sym (c.behind.ensures ∙ front a.p.now.s.now a.p.now.x (omega arith) a.p.now.within.2 8 (omega arith)) ∙ c.in-5.is in
    let h = rw n at c.requires.1 in
    c.list.ensures ∙ turns a.p.now.s.now (a.p.now.x + 23) (links_whole a.p.now.s.now a.p.now.x) (links_put a.p.now.s.now a.p.now.x) a.out.now a.k h.0 h.1 ∙ rw n

pub returns-in-21 : goal.returns-in-21
returns-in-21 c =
    let a = c.args in
    let n = sym (c.behind.ensures ∙ front a.p.now.s.now a.p.now.x (omega arith) a.p.now.within.2 8 (omega arith)) ∙ c.in-21.is in
    let h = rw n at c.requires.1 in
    c.list-in-21.ensures ∙ turns a.p.now.s.now (a.p.now.x + 23) (slopes_whole a.p.now.s.now a.p.now.x) (slopes_put a.p.now.s.now a.p.now.x) a.out.now a.k h.0 h.1 ∙ rw n

pub returns-in-27 : goal.returns-in-27
returns-in-27 c =
    let a = c.args in
    let n = sym (c.behind.ensures ∙ front a.p.now.s.now a.p.now.x (omega arith) a.p.now.within.2 8 (omega arith)) ∙ c.in-27.is in
    let h = rw n at c.requires.1 in
    c.list-in-27.ensures ∙ turns a.p.now.s.now (a.p.now.x + 23) (profiles_whole a.p.now.s.now a.p.now.x) (profiles_put a.p.now.s.now a.p.now.x) a.out.now a.k h.0 h.1 ∙ rw n

pub returns-in-41 : goal.returns-in-41
returns-in-41 c =
    let a = c.args in
    let n = sym (c.behind.ensures ∙ front a.p.now.s.now a.p.now.x (omega arith) a.p.now.within.2 8 (omega arith)) ∙ c.in-41.is in
    let h = rw n at c.requires.1 in
    (let z : a.p.now.x + 25 + 15 ≡ a.p.now.x + 40 = omega arith in rw z at c.led.ensures) ∙ turns a.p.now.s.now (a.p.now.x + 23) (levels_whole a.p.now.s.now a.p.now.x) (levels_put a.p.now.s.now a.p.now.x) a.out.now a.k h.0 h.1 ∙ rw n

pub returns-in-44 : goal.returns-in-44
returns-in-44 c =
    let a = c.args in
    let n = sym (c.behind.ensures ∙ front a.p.now.s.now a.p.now.x (omega arith) a.p.now.within.2 8 (omega arith)) ∙ c.in-44.is in
    c.user.ensures ∙ rw n

pub returns-in-68 : goal.returns-in-68
returns-in-68 c =
    let a = c.args in
    let n = sym (c.behind.ensures ∙ front a.p.now.s.now a.p.now.x (omega arith) a.p.now.within.2 8 (omega arith)) ∙ c.in-68.is in
    let h = rw n at c.requires.1 in
    c.track.ensures ∙ turns a.p.now.s.now (a.p.now.x + 23) (conditions_whole a.p.now.s.now a.p.now.x) (conditions_put a.p.now.s.now a.p.now.x) a.out.now a.k h.0 h.1 ∙ rw n

pub returns-in-72 : goal.returns-in-72
returns-in-72 c =
    let a = c.args in
    let n = sym (c.behind.ensures ∙ front a.p.now.s.now a.p.now.x (omega arith) a.p.now.within.2 8 (omega arith)) ∙ c.in-72.is in
    let h = rw n at c.requires.1 in
    c.text.ensures ∙ turns a.p.now.s.now (a.p.now.x + 23) (words_whole a.p.now.s.now a.p.now.x) (text_put a.p.now.s.now a.p.now.x) a.out.now a.k h.0 h.1 ∙ rw n

pub returns-in-79 : goal.returns-in-79
returns-in-79 c =
    let a = c.args in
    let n = sym (c.behind.ensures ∙ front a.p.now.s.now a.p.now.x (omega arith) a.p.now.within.2 8 (omega arith)) ∙ c.in-79.is in
    let h = rw n at c.requires.1 in
    c.list-in-79.ensures ∙ turns a.p.now.s.now (a.p.now.x + 23) (places_whole a.p.now.s.now a.p.now.x) (places_put a.p.now.s.now a.p.now.x) a.out.now a.k h.0 h.1 ∙ rw n

pub returns-in-131 : goal.returns-in-131
returns-in-131 c =
    let a = c.args in
    let n = sym (c.behind.ensures ∙ front a.p.now.s.now a.p.now.x (omega arith) a.p.now.within.2 8 (omega arith)) ∙ c.in-131.is in
    let h = rw n at c.requires.1 in
    c.one.ensures ∙ turns a.p.now.s.now (a.p.now.x + 23) (handover_whole a.p.now.s.now a.p.now.x) (handover_put a.p.now.s.now a.p.now.x) a.out.now a.k h.0 h.1 ∙ rw n

pub returns-in_default : goal.returns-in_default
returns-in_default c =
    let a = c.args in
    kind_other a.p.now.s.now a.p.now.x a.out.now c.behind.result c.in_default.in_default-own.rest
    ∙ ap (λ (i : ℕ). kind_put a.p.now.s.now a.p.now.x i a.out.now) (c.behind.ensures ∙ front a.p.now.s.now a.p.now.x (omega arith) a.p.now.within.2 8 (omega arith))
