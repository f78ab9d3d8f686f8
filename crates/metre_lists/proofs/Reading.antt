-- Numbers in front of a window and behind its first bits, and what is told of one and of two. Assumes nothing.
use Rattle.std.specs.Prelude.{Option, Some, None}
use mathlib.Core.Bool.{Bool, true, false, cond, ◌&&◌}
use mathlib.Core.List.{List}
use mathlib.Core.Path.{◌≡◌, refl, sym, ap, ◌∙◌}
use Prim.Native.Nat.{ℕ, ◌+◌, ◌-◌, ◌*◌, ◌/◌, ◌%◌, ◌^◌, ◌≤◌, ◌<◌}
use native.Mathlib.Nat.{mod-lt, mod-eq_of_lt, mul-le-mul}
use native.Mathlib.Omega.{arith}
use borrow.Author.Tests.{eq-eqb, ne_eqb, le-leb, lt-leb}
use lib.Dec.{eqb}
use lib.ListN.{length}
use lib.Pow.{pow_mono, shr_lt}
use Rattle.bits.specs.Ahead.{behind, seen_at}
use Rattle.bits.proofs.Looked.{number_is}
use Rattle.metre_lists.specs.Groups.{roomed}
use Rattle.told.specs.Metres.{number_in}

-- a number of so many bits
pub behind_lt : (w o b : ℕ) → b ≤ 64 → behind w o b < 2 ^ b
behind_lt w o b h =
    let sum : b + (64 - b) ≡ 64 = omega arith in
    let small : w * 2 ^ o % 2 ^ 64 < 2 ^ 64 = mod-lt (w * 2 ^ o) (omega arith) in
    shr_lt b (64 - b) (rw sum small)

pub twenty : (w o b : ℕ) → b ≤ 20 → behind w o b < 1048576
twenty w o b h = let a = behind_lt w o b (omega arith) in let c : 2 ^ b ≤ 2 ^ 20 = pow_mono h in omega (arith, a, c)

-- in front of what is moved up
pub moved_front : (w o b : ℕ) → behind (w * 2 ^ o % 2 ^ 64) 0 b ≡ behind w o b
moved_front w o b =
    let m = w * 2 ^ o % 2 ^ 64 in
    let one : m * 2 ^ 0 ≡ m = omega arith in
    let small : m < 2 ^ 64 = mod-lt (w * 2 ^ o) (omega arith) in
    ap (λ (x : ℕ). x % 2 ^ 64 / 2 ^ (64 - b)) one ∙ ap (λ (x : ℕ). x / 2 ^ (64 - b)) (mod-eq_of_lt small)

module _ (s : List ℕ) (x : ℕ) (long : 8 ≤ length s) {w : ℕ} (e : w ≡ seen_at s x) where
  pub front : (b : ℕ) → b ≤ 57 → behind w 0 b ≡ number_in s b x
  front b h = let z : x + 0 ≡ x = omega arith in rw e (rw z at (number_is s x long 0 b (omega arith)))

  pub there : (o b : ℕ) → o + b ≤ 57 → behind w o b ≡ number_in s b (x + o)
  there o b h = rw e (number_is s x long o b h)

  pub moved : (o b : ℕ) → o + b ≤ 57 → behind (w * 2 ^ o % 2 ^ 64) 0 b ≡ number_in s b (x + o)
  moved o b h = moved_front w o b ∙ there o b h

-- ---- one of two numbers, by a number that is read

module _ (v j : ℕ) {r d : ℕ} (m n : ℕ) (e : r ≡ v) where
  pub then_picked : r ≡ j → d ≡ m → d ≡ cond (eqb v j) m n
  then_picked h i = i ∙ rw (eq-eqb v j (sym e ∙ h)) refl

  pub else_picked : (r ≡ j → ⊥) → d ≡ n → d ≡ cond (eqb v j) m n
  else_picked h i = i ∙ rw (ne_eqb v j (λ f. h (e ∙ f))) refl

pub picked_low : (c : Bool) (m n : ℕ) → cond c m n ≤ m + n
picked_low true m n = omega arith
picked_low false m n = omega arith

-- ---- two distances, put or tested

module _ (b : Bool) where
  pub first_fails : (p q : Bool) → cond b true p ≡ false → cond b true (p && q) ≡ false
  first_fails p q = by b
    where
      by : (c : Bool) → cond c true p ≡ false → cond c true (p && q) ≡ false
      by true h = h
      by false h = rw h

  pub then_second : (p q : Bool) → cond b true p ≡ true → cond b true (p && q) ≡ cond b true q
  then_second p q = by b
    where
      by : (c : Bool) → cond c true p ≡ true → cond c true (p && q) ≡ cond c true q
      by true h = refl
      by false h = rw h

  -- where one fails, none is put
  pub none_put : (p : Bool) → cond b true p ≡ false → b ≡ false
  none_put p = by b
    where
      by : (c : Bool) → cond c true p ≡ false → c ≡ false
      by true h = let z : ◌≡◌ {A = ℕ} 0 1 = cc in absurd (omega arith)
      by false h = refl

  pub both_put : (p q : List ℕ → List ℕ) (base one two : List ℕ) → one ≡ cond b (p base) base → two ≡ cond b (q one) one → two ≡ cond b (q (p base)) base
  both_put p q base one two = by b
    where
      by : (c : Bool) → one ≡ cond c (p base) base → two ≡ cond c (q one) one → two ≡ cond c (q (p base)) base
      by true h i = i ∙ ap q h
      by false h i = i ∙ h

-- with a number more
pub plus : (c : Bool) (k m n : ℕ) → cond c m n + k ≡ cond c (m + k) (n + k)
plus true k m n = refl
plus false k m n = refl

-- what a field of at most five bits adds
pub product : (step v : ℕ) {b : ℕ} → step ≤ 11 → v < 2 ^ b → b ≤ 5 → step * v ≤ 341
product step v {b} h l few =
    let low : 2 ^ b ≤ 2 ^ 5 = pow_mono few in
    mul-le-mul h (let m : v ≤ 31 = omega (arith, l, low) in m)

-- how many bits a group has that is told, and none of one that is not
pub some_bits : (c : Bool) (n : ℕ) → c ≡ true → Some n ≡ cond c (Some n) None
some_bits c n h = rw h

pub no_bits : (c : Bool) (n : ℕ) → c ≡ false → None ≡ cond c (Some n) None
no_bits c n h = rw h

-- by the answer
pub some_told : (c : Bool) (n : ℕ) {m : ℕ} {r : Option ℕ} → r ≡ cond c (Some n) None → r ≡ Some m → (c ≡ true) × (m ≡ n)
some_told true n h i = (refl, cc)
some_told false n h i = absurd cc

-- one of two numbers, neither of which is 0
pub some_of : (c : Bool) (m n : ℕ) → 0 < m → 0 < n → 0 < cond c m n
some_of true m n h i = h
some_of false m n h i = i

-- ---- room

module _ (s out : List ℕ) where
  pub short_bytes : length s < 8 → roomed s out ≡ false
  short_bytes h = rw (lt-leb 8 (length s) h)

  module _ (long : 8 ≤ length s) where
    pub little_room : length out < 4 → roomed s out ≡ false
    little_room h = rw (le-leb 8 (length s) long, lt-leb 4 (length out) h)

    pub room : 4 ≤ length out → roomed s out ≡ true
    room h = rw (le-leb 8 (length s) long, le-leb 4 (length out) h)
