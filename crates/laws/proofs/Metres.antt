-- What a program tests of one distance: whole metres, and the width of its field. That the unlimited text length never comes of a finite
-- one follows. Assumes nothing.
use mathlib.Core.Bool.{Bool, true, false, ◌&&◌}
use mathlib.Core.Path.{◌≡◌, refl}
use Prim.Native.Nat.{ℕ, zero, suc, ◌%◌, ◌^◌, ◌<◌, ◌≤◌}
use native.Mathlib.Omega.{arith}
use lib.Dec.{eqb, ltb}
use borrow.Author.Tests.{eq-eqb, ne_eqb}
use Rattle.format.specs.Fields.{Field, Sense}
use Rattle.format.specs.Fields.Sense.{plain, scale, distance, text_length}
use Rattle.distance.specs.Steps.{decimetres, steps}
use Rattle.format.specs.Normal.{view_of, metres}
use Rattle.format.specs.Normal.View.{kept, measures}

-- a text length of 15 bits, limited under the scale q, is limited in metres
limited : (q v : ℕ) → q ≤ 2 → v < 32768 → (v ≡ 32767 → ⊥) → steps 1 (decimetres q v) ≡ 32767 → ⊥
limited zero v hq h n e = omega arith
limited (suc zero) v hq h n e = n (omega arith)
limited (suc (suc zero)) v hq h n e = omega arith
limited (suc (suc (suc q))) v hq h n e = omega arith

not_unlimited : (v : ℕ) → view_of text_length v ≡ measures → v ≡ 32767 → ⊥
not_unlimited v h e =
    let u : view_of text_length v ≡ kept = rw (eq-eqb v 32767 e) in
    let z : ◌≡◌ {A = ℕ} 0 1 = cc in
    omega arith

pub metres_finite : (k : Sense) (q v : ℕ) → q ≤ 2 → (k ≡ text_length → v < 32768) → view_of k v ≡ measures
    → view_of k (steps 1 (decimetres q v)) ≡ measures
metres_finite (plain r) q v hq s h = h
metres_finite scale q v hq s h = h
metres_finite distance q v hq s h = refl
metres_finite text_length q v hq s h =
    rw (ne_eqb (steps 1 (decimetres q v)) 32767 (limited q v hq (s refl) (not_unlimited v h)))

and_true : (b : Bool) → (b && true) ≡ b
and_true true = refl
and_true false = refl

-- the two tests
pub metres_tests : (f : Field) (q v : ℕ) → q ≤ 2 → (f.sense ≡ text_length → v < 32768) → view_of f.sense v ≡ measures
    → metres f (decimetres q v) ≡ eqb (decimetres q v % 10) 0 && ltb (steps 1 (decimetres q v)) (2 ^ f.width)
metres_tests f q v hq s h =
    rw (metres_finite f.sense q v hq s h)
    (and_true (eqb (decimetres q v % 10) 0 && ltb (steps 1 (decimetres q v)) (2 ^ f.width)))
