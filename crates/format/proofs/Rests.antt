-- What the rest of a row says: the code of its field, the ends of its range, and how far the row jumps. Tests that the checker computes over all
-- rows. Assumes nothing.
use mathlib.Core.Path.{◌≡◌, sym}
use mathlib.Core.Bool.{Bool, true, ◌&&◌}
use Prim.Native.Nat.{ℕ, suc, ◌+◌, ◌%◌, ◌≤◌, ◌<◌}
use native.Mathlib.Decide.{dec_le}
use native.Mathlib.Nat.{lt_of_not-le}
use native.Mathlib.Omega.{arith}
use borrow.Author.Tests.{eq-eqb, ne_eqb, lt-ltb}
use lib.Dec.{T, eqb, eqb→eq, ltb, ltb→lt}
use Rattle.format.specs.Table.{Row, rows, row_at, act, field_at, jump, code_of, low_of, high_of, rest_of, rest, code_by, low_by, high_by, leap_by, back_by}
use Rattle.format.proofs.Rows.{every, row_law, imp, imp_use, and_left, and_right}

-- ---- what the rest of a row says

pub rest_small : (k : ℕ) → k < 213 → rest k < 64
unfolding rows
rest_small k l = ltb→lt _ _ (row_law (λ k r. ltb (rest_of k r) 64) tt k l)

pub rest_code : (k : ℕ) → k < 213 → code_by (act k) (rest k) ≡ code_of (field_at k).sense
unfolding rows
rest_code k l = eqb→eq _ _ (row_law (λ k r. eqb (code_by r.act (rest_of k r)) (code_of r.field.sense)) tt k l)

pub rest_low : (k : ℕ) → k < 213 → low_by (rest k) ≡ low_of (field_at k)
unfolding rows
rest_low k l = eqb→eq _ _ (row_law (λ k r. eqb (low_by (rest_of k r)) (low_of r.field)) tt k l)

pub rest_high : (k : ℕ) → k < 213 → high_by (rest k) ≡ high_of (field_at k)
unfolding rows
rest_high k l = eqb→eq _ _ (row_law (λ k r. eqb (high_by (rest_of k r)) (high_of r.field)) tt k l)

-- what holds of the rows that pass two tests
two_law : (f g h : ℕ → Row → Bool) → T (every (λ k r. imp (f k r && g k r) (h k r)) 0 rows)
    → (k : ℕ) → k < 213 → f k (row_at k) ≡ true → g k (row_at k) ≡ true → T (h k (row_at k))
two_law f g h t k l e d =
    imp_use (f k (row_at k) && g k (row_at k)) (h k (row_at k)) (row_law (λ k r. imp (f k r && g k r) (h k r)) t k l) (rw (e, d))

-- a field that steers jumps that far ahead
pub rest_ahead : (k : ℕ) → k < 213 → 2 < act k → k + leap_by (act k) (rest k) ≡ jump k
unfolding rows
rest_ahead k l e =
    eqb→eq _ _
    (imp_use (ltb 2 (act k)) (eqb (k + leap_by (act k) (rest k)) (jump k)) (row_law (λ k r. imp (ltb 2 r.act) (eqb (k + leap_by r.act (rest_of k r)) r.jump)) tt k l) (lt-ltb 2 (act k) e))

pub leap_small : (k : ℕ) → k < 213 → leap_by (act k) (rest k) < 64
unfolding rows
leap_small k l = ltb→lt _ _ (row_law (λ k r. ltb (leap_by r.act (rest_of k r)) 64) tt k l)

-- a group's end jumps that far back, and a packet's end to row 0
pub rest_back : (k : ℕ) → k < 213 → act k ≡ 0 → 0 < rest k → jump k + rest k ≡ suc k
unfolding rows
rest_back k l e p =
    eqb→eq _ _
    (two_law (λ k r. eqb r.act 0) (λ k r. ltb 0 (rest_of k r)) (λ k r. eqb (r.jump + rest_of k r) (suc k)) tt k l (eq-eqb (act k) 0 e) (lt-ltb 0 (rest k) p))

pub rest_none : (k : ℕ) → k < 213 → act k ≡ 0 → rest k ≡ 0 → jump k ≡ 0
unfolding rows
rest_none k l e p =
    eqb→eq _ _
    (two_law (λ k r. eqb r.act 0) (λ k r. eqb (rest_of k r) 0) (λ k r. eqb r.jump 0) tt k l (eq-eqb (act k) 0 e) (eq-eqb (rest k) 0 p))

-- the row that repeats the group
pub back_is : (k : ℕ) → k < 213 → act k ≡ 0 → back_by k (rest k) ≡ jump k
back_is k l e = by (dec_le (rest k) 0)
  where
    by : Dec (rest k ≤ 0) → back_by k (rest k) ≡ jump k
    by (yes h) = let z : rest k ≡ 0 = omega arith in rw (eq-eqb (rest k) 0 z) (sym (rest_none k l e z))
    by (no h) =
        let p : 0 < rest k = lt_of_not-le h in
        let b = rest_back k l e p in
        rw (ne_eqb (rest k) 0 (λ z. h (omega arith))) (omega arith)

-- what follows a group's last is the row behind its end
pub group_out : (k : ℕ) → k < 213 → act k ≡ 0 → 0 < jump k → jump (jump k) ≡ suc k
unfolding row_at
group_out k l e p =
    eqb→eq _ _
    (two_law (λ k r. eqb r.act 0) (λ k r. ltb 0 r.jump) (λ k r. eqb (jump r.jump) (suc k)) tt k l (eq-eqb (act k) 0 e) (lt-ltb 0 (jump k) p))

-- below 10, that of a field that steers nothing is its code, and of no field is anything kept
pub send_free : (k : ℕ) → k < 213 → act k ≡ 2 → rest k < 10 → code_of (field_at k).sense ≡ rest k
unfolding rows
send_free k l e p =
    eqb→eq _ _
    (two_law (λ k r. eqb r.act 2) (λ k r. ltb (rest_of k r) 10) (λ k r. eqb (code_of r.field.sense) (rest_of k r)) tt k l (eq-eqb (act k) 2 e) (lt-ltb (rest k) 10 p))

pub field_free : (k : ℕ) → k < 213 → 1 < act k → rest k < 10 → code_of (field_at k).sense < 3
unfolding rows
field_free k l e p =
    ltb→lt _ _
    (two_law (λ k r. ltb 1 r.act) (λ k r. ltb (rest_of k r) 10) (λ k r. ltb (code_of r.field.sense) 3) tt k l (lt-ltb 1 (act k) e) (lt-ltb (rest k) 10 p))

-- the row of a field with a range from a on, whose high end is the lowest four bits
pub record Ranges (a k : ℕ) : Type 0 where
  pub ranged : 9 < code_of (field_at k).sense
  pub low : low_of (field_at k) ≡ a
  pub high : high_of (field_at k) ≡ rest k % 16

abbrev ranges : ℕ → ℕ → Row → Bool
ranges a k r =
    ltb 9 (code_of r.field.sense) && (eqb (low_of r.field) a && eqb (high_of r.field) (rest_of k r % 16))

range_law : (a i j : ℕ) → T (every (λ k r. imp (ltb i (rest_of k r) && ltb (rest_of k r) j) (ranges a k r)) 0 rows)
    → (k : ℕ) → k < 213 → i < rest k → rest k < j → Ranges a k
range_law a i j t k l e p =
    let s = two_law (λ k r. ltb i (rest_of k r)) (λ k r. ltb (rest_of k r) j) (ranges a) t k l (lt-ltb i (rest k) e) (lt-ltb (rest k) j p) in
    let ends = and_right (ltb 9 (code_of (field_at k).sense)) (eqb (low_of (field_at k)) a && eqb (high_of (field_at k)) (rest k % 16)) s in
    record {
      ranged = ltb→lt _ _ (and_left (ltb 9 (code_of (field_at k).sense)) (eqb (low_of (field_at k)) a && eqb (high_of (field_at k)) (rest k % 16)) s);
      low = eqb→eq _ _ (and_left (eqb (low_of (field_at k)) a) (eqb (high_of (field_at k)) (rest k % 16)) ends);
      high = eqb→eq _ _ (and_right (eqb (low_of (field_at k)) a) (eqb (high_of (field_at k)) (rest k % 16)) ends);
    }

pub from_zero : (k : ℕ) → k < 213 → 9 < rest k → rest k < 48 → Ranges 0 k
unfolding rows
from_zero = range_law 0 9 48 tt

pub from_one : (k : ℕ) → k < 213 → 47 < rest k → rest k < 52 → Ranges 1 k
unfolding rows
from_one = range_law 1 47 52 tt
