-- A loop over a list: a group, N_ITER, and that many further groups. One law for every kind of group: what is left asks and puts what the whole list
-- did. Assumes nothing.
use mathlib.Core.Bool.{Bool, true, false, cond}
use mathlib.Core.List.{List}
use mathlib.Core.Path.{◌≡◌, refl, sym, ap, ◌∙◌}
use Prim.Native.Nat.{ℕ, suc, ◌+◌, ◌-◌, ◌*◌, ◌≤◌, ◌<◌}
use native.Mathlib.Omega.{arith}
use lib.ListN.{length}
use Rattle.told.specs.Metres.{number_in, each_put, list_put}
use Rattle.told.specs.Decides.{each_whole, list_whole}

module _ (s : List ℕ) (test : ℕ → Bool) (puts : ℕ → List ℕ → List ℕ) (past : ℕ → ℕ) where
  -- before the first group, or with so many groups left
  abbrev left_whole : Bool → ℕ → ℕ → Bool
  left_whole first left at = cond first (list_whole s test past at) (each_whole test past left at)

  abbrev left_put : Bool → ℕ → ℕ → List ℕ → List ℕ
  left_put first left at out = cond first (list_put s puts past at out) (each_put puts past left at out)

  -- at the bit at, where each distance is put, or each is tested
  pub record Going (tells : Bool) (x : ℕ) (base : List ℕ) (first : Bool) (left at : ℕ) (out : List ℕ) : Type 0 where
    pub whole : cond tells true (list_whole s test past x) ≡ cond tells true (left_whole first left at)
    pub put : cond tells (list_put s puts past x base) base ≡ cond tells (left_put first left at out) out
    pub low : at + 405 * left + cond first 13000 0 ≤ 14000
    pub keeps : length out ≡ length base

  pub going_first : (tells : Bool) (x : ℕ) (base : List ℕ) → x ≤ 900 → Going tells x base true 0 x base
  going_first tells x base h = record { whole = refl; put = refl; low = omega arith; keeps = refl }

  module _ {tells : Bool} {x : ℕ} {base : List ℕ} where
    module _ {left at : ℕ} {out after : List ℕ} (t : cond tells true (test at) ≡ true) (e : after ≡ cond tells (puts at out) out) (l : length after ≡ length out) where
      -- behind the first group: so many are left
      pub going_behind : Going tells x base true left at out → {y n : ℕ} → y ≡ past at → n ≡ number_in s 5 y → n ≤ 31 → y ≤ at + 400
          → Going tells x base false n (y + 5) after
      going_behind g {y} {n} hy hn few far =
          record { whole = g.whole ∙ whole_by tells t; put = g.put ∙ put_by tells e; low = omega (arith, g.low); keeps = l ∙ g.keeps }
        where
          same : number_in s 5 (past at) ≡ n
          same = ap (number_in s 5) (sym hy) ∙ sym hn

          whole_by : (b : Bool) → cond b true (test at) ≡ true
              → cond b true (list_whole s test past at) ≡ cond b true (each_whole test past n (y + 5))
          whole_by true i = refl
          whole_by false i = rw (i, same, ← hy)

          put_by : (b : Bool) → after ≡ cond b (puts at out) out → cond b (list_put s puts past at out) out ≡ cond b (each_put puts past n (y + 5) after) after
          put_by true j = rw (j, same, ← hy)
          put_by false j = sym j

      -- behind another
      pub going_on : Going tells x base false left at out → 0 < left → {y : ℕ} → y ≡ past at → y ≤ at + 400 → Going tells x base false (left - 1) y after
      going_on g some {y} hy far =
          record { whole = g.whole ∙ whole_by tells t; put = g.put ∙ put_by tells e; low = omega (arith, g.low); keeps = l ∙ g.keeps }
        where
          more : left ≡ suc (left - 1)
          more = omega arith

          whole_by : (b : Bool) → cond b true (test at) ≡ true → cond b true (each_whole test past left at) ≡ cond b true (each_whole test past (left - 1) y)
          whole_by true i = refl
          whole_by false i = ap (λ (k : ℕ). each_whole test past k at) more ∙ rw (i, hy)

          put_by : (b : Bool) → after ≡ cond b (puts at out) out → cond b (each_put puts past left at out) out ≡ cond b (each_put puts past (left - 1) y after) after
          put_by true j = ap (λ (k : ℕ). each_put puts past k at out) more ∙ rw (j, hy)
          put_by false j = sym j
