-- `spans::kind` meets its contract: one law for each arm. Assumes nothing.
use mathlib.Core.Path.{sym, ap, ◌∙◌}
use Prim.Native.Nat.{◌*◌, ◌/◌, ◌%◌, ◌^◌}
use native.Mathlib.Omega.{arith}
use Rattle.spans.specs.Spans.{kind_at}
use Rattle.spans.proofs.ByName.{kind_5, kind_21, kind_27, kind_41, kind_42, kind_44, kind_46, kind_68, kind_72, kind_79, kind_131, kind_132, kind_137, kind_254, kind_other}
use Rattle.spans.proofs.Tests.{zero_counted, zero_sized, zero_radio}
use Rattle.spans.proofs.kind.Goals as goal

pub returns-in-5 : goal.returns-in-5
returns-in-5 c =
    let a = c.args in
    c.scaled.ensures
    ∙ rw (c.behind-q.ensures, c.links.ensures, zero_counted _) (kind_5 a.s.now a.n a.end a.start.at a.long a.w (a.w * 2 ^ 0 % 2 ^ 64 / 2 ^ 56) (sym c.behind.ensures ∙ c.in-5.is))

pub returns-in-21 : goal.returns-in-21
returns-in-21 c =
    let a = c.args in
    c.scaled-in-21.ensures
    ∙ rw (c.behind-q.ensures, c.gradients.ensures, zero_counted _, c.behind-in-21.ensures) (kind_21 a.s.now a.n a.end a.start.at a.long a.w (a.w * 2 ^ 0 % 2 ^ 64 / 2 ^ 56) (sym c.behind.ensures ∙ c.in-21.is))

pub returns-in-27 : goal.returns-in-27
returns-in-27 c =
    let a = c.args in
    c.scaled-in-27.ensures
    ∙ rw (c.behind-q.ensures, c.speeds.ensures, zero_counted _) (kind_27 a.s.now a.n a.end a.start.at a.long a.w (a.w * 2 ^ 0 % 2 ^ 64 / 2 ^ 56) (sym c.behind.ensures ∙ c.in-27.is))

pub returns-in-41 : goal.returns-in-41
returns-in-41 c =
    let a = c.args in
    c.scaled-in-41.ensures
    ∙ rw (c.behind-q.ensures, c.levels.ensures, zero_counted _) (kind_41 a.s.now a.n a.end a.start.at a.long a.w (a.w * 2 ^ 0 % 2 ^ 64 / 2 ^ 56) (sym c.behind.ensures ∙ c.in-41.is))

pub returns-in-42 : goal.returns-in-42
returns-in-42 c =
    let a = c.args in
    c.plain.ensures
    ∙ rw (c.with_radio.ensures, zero_radio 8 (omega arith) a.s.now a.n a.start.at 48 a.long 113) (kind_42 a.s.now a.n a.end a.start.at a.long a.w (a.w * 2 ^ 0 % 2 ^ 64 / 2 ^ 56) (sym c.behind.ensures ∙ c.in-42.is))

pub returns-in-44 : goal.returns-in-44
returns-in-44 c =
    let a = c.args in
    c.national.ensures
    ∙ (kind_44 a.s.now a.n a.end a.start.at a.long a.w (a.w * 2 ^ 0 % 2 ^ 64 / 2 ^ 56) (sym c.behind.ensures ∙ c.in-44.is))

pub returns-in-46 : goal.returns-in-46
returns-in-46 c =
    let a = c.args in
    c.plain-in-46.ensures
    ∙ rw (c.choices.ensures, zero_counted _) (kind_46 a.s.now a.n a.end a.start.at a.long a.w (a.w * 2 ^ 0 % 2 ^ 64 / 2 ^ 56) (sym c.behind.ensures ∙ c.in-46.is))

pub returns-in-68 : goal.returns-in-68
returns-in-68 c =
    let a = c.args in
    c.scaled-in-68.ensures
    ∙ rw (c.behind-q.ensures, c.track.ensures, zero_counted _, c.behind-in-68.ensures) (kind_68 a.s.now a.n a.end a.start.at a.long a.w (a.w * 2 ^ 0 % 2 ^ 64 / 2 ^ 56) (sym c.behind.ensures ∙ c.in-68.is))

pub returns-in-72 : goal.returns-in-72
returns-in-72 c =
    let a = c.args in
    c.scaled-in-72.ensures
    ∙ rw (c.behind-q.ensures, c.text.ensures, zero_counted _, c.behind-in-72.ensures) (kind_72 a.s.now a.n a.end a.start.at a.long a.w (a.w * 2 ^ 0 % 2 ^ 64 / 2 ^ 56) (sym c.behind.ensures ∙ c.in-72.is))

pub returns-in-79 : goal.returns-in-79
returns-in-79 c =
    let a = c.args in
    c.scaled-in-79.ensures
    ∙ rw (c.behind-q.ensures, c.positions.ensures, zero_counted _) (kind_79 a.s.now a.n a.end a.start.at a.long a.w (a.w * 2 ^ 0 % 2 ^ 64 / 2 ^ 56) (sym c.behind.ensures ∙ c.in-79.is))

pub returns-in-131 : goal.returns-in-131
returns-in-131 c =
    let a = c.args in
    c.scaled-in-131.ensures
    ∙ rw (c.behind-q.ensures, c.with_radio-in-131.ensures, zero_radio 9 (omega arith) a.s.now a.n a.start.at 64 a.long 129) (kind_131 a.s.now a.n a.end a.start.at a.long a.w (a.w * 2 ^ 0 % 2 ^ 64 / 2 ^ 56) (sym c.behind.ensures ∙ c.in-131.is))

pub returns-in-132 : goal.returns-in-132
returns-in-132 c =
    let a = c.args in
    c.plain-in-132.ensures
    ∙ rw (c.sized.ensures, zero_sized 4 (omega arith) a.long 24) (kind_132 a.s.now a.n a.end a.start.at a.long a.w (a.w * 2 ^ 0 % 2 ^ 64 / 2 ^ 56) (sym c.behind.ensures ∙ c.in-132.is))

pub returns-in-137 : goal.returns-in-137
returns-in-137 c =
    let a = c.args in
    c.plain-in-137.ensures
    ∙ rw (c.sized-in-137.ensures, zero_sized 4 (omega arith) a.long 24) (kind_137 a.s.now a.n a.end a.start.at a.long a.w (a.w * 2 ^ 0 % 2 ^ 64 / 2 ^ 56) (sym c.behind.ensures ∙ c.in-137.is))

pub returns-in-254 : goal.returns-in-254
returns-in-254 c =
    let a = c.args in
    c.plain-in-254.ensures
    ∙ rw (c.sized-in-254.ensures, zero_sized 3 (omega arith) a.long 23) (kind_254 a.s.now a.n a.end a.start.at a.long a.w (a.w * 2 ^ 0 % 2 ^ 64 / 2 ^ 56) (sym c.behind.ensures ∙ c.in-254.is))

pub returns-in_default : goal.returns-in_default
returns-in_default c =
    let a = c.args in
    c.plain-in_default.ensures ∙ kind_other a.s.now a.n a.end a.start.at a.long a.w c.behind.result c.in_default.in_default-own.rest
    ∙ ap (kind_at a.s.now a.n a.end a.start.at a.long a.w) c.behind.ensures
