-- The header's answer, by the tests that `front::header` makes; and that the state which is answered is that behind a header which keeps every
-- rule. Assumes nothing.
use Rattle.std.specs.Prelude.{Some, None, Option, ℕ}
use mathlib.Core.Path.{◌≡◌, refl, ap, ◌∙◌}
use mathlib.Core.List.{List}
use mathlib.Core.Bool.{Bool, true, false, cond, ◌&&◌}
use Prim.Native.Nat.{ℕ, ◌/◌, ◌<◌, ◌≤◌}
use native.Mathlib.Omega.{arith}
use borrow.Author.Tests.{eq-eqb, ne_eqb, le-leb, lt-leb, leb-true, eqb-true}
use lib.Dec.{eqb, leb}
use Rattle.bits.specs.Take.{taken_at, skip_at}
use Rattle.bits.specs.declared.Cursor.{Cursor}
use Rattle.bits.proofs.Fields.{taken, skipped}
use Rattle.states.specs.Heads.{pig_in, total_in, dup_in, behind, Started, front_by, front_of}

module _ (s : List ℕ) (n : ℕ) where
  -- 25 bits are not there
  pub front_short : taken_at s n 25 0 ≡ None → None ≡ front_of s n
  front_short e = rw e

  lacks : skip_at n 25 25 ≡ None → leb 50 n ≡ false
  unfolding skip_at
  lacks k = by (leb 50 n) refl k
    where
      by : (b : Bool) → leb 50 n ≡ b → ◌≡◌ {A = Option Cursor} (cond {A = Option Cursor} b (Some (record { at = 50 })) None) None → leb 50 n ≡ false
      by true h l = let z : ◌≡◌ {A = ℕ} 0 1 = cc in absurd (omega arith)
      by false h l = h

  module _ {a : ℕ} {c : Cursor} (e : taken_at s n 25 0 ≡ Some (a, c)) where
    -- the other 25 are not there
    pub front_lacking : skip_at n 25 c.at ≡ None → None ≡ front_of s n
    front_lacking l = let h = rw (taken s n 25 0 a c e).past at l in rw (e, lacks h)

    module _ {d : Cursor} (k : skip_at n 25 c.at ≡ Some d) where
      there : 50 ≤ n
      there = let p = skipped n 25 c.at d k in omega (arith, p.within, (taken s n 25 0 a c e).past)

      -- all of it is there, and the fixed values are other ones
      pub front_other : (a / 65536 ≡ 288 → ⊥) → None ≡ front_of s n
      front_other f = rw e (simp (le-leb 50 n there, ne_eqb (a / 65536) 288 f))

      module _ (f : a / 65536 ≡ 288) where
        pub front_above : total_in a < pig_in a → None ≡ front_of s n
        front_above o = rw e (simp (le-leb 50 n there, eq-eqb (a / 65536) 288 f, lt-leb (pig_in a) (total_in a) o))

        module _ (o : pig_in a ≤ total_in a) where
          pub front_double : dup_in a ≡ 3 → None ≡ front_of s n
          front_double m = rw e (simp (le-leb 50 n there, eq-eqb (a / 65536) 288 f, le-leb (pig_in a) (total_in a) o, lt-leb (dup_in a) 2 (omega (arith, m))))

          -- every rule is kept
          pub front_whole : (dup_in a ≡ 3 → ⊥) → Some (behind a) ≡ front_of s n
          front_whole m = rw e (simp (le-leb 50 n there, eq-eqb (a / 65536) 288 f, le-leb (pig_in a) (total_in a) o, le-leb (dup_in a) 2 (omega (arith, m))))

  pub front_started : Started s n (front_of s n)
  front_started = by (taken_at s n 25 0) refl
    where
      tests : (a : ℕ) (c : Cursor) (p q r t : Bool) → taken_at s n 25 0 ≡ Some (a, c) → leb 50 n ≡ p → eqb (a / 65536) 288 ≡ q → leb (pig_in a) (total_in a) ≡ r → leb (dup_in a) 2 ≡ t
          → Started s n (cond (p && (q && (r && t))) (Some (behind a)) None)
      tests a c true true true true e hp hq hr ht =
          record {
            bits = a;
            field = e ∙ ap (λ (x : ℕ). Some (a, record { at = x })) (taken s n 25 0 a c e).past;
            room = leb-true 50 n hp;
            fixed = eqb-true (a / 65536) 288 hq;
            ordered = leb-true (pig_in a) (total_in a) hr;
            single = leb-true (dup_in a) 2 ht;
            state = refl;
          }
      tests a c true true true false e hp hq hr ht = tt
      tests a c true true false t e hp hq hr ht = tt
      tests a c true false r t e hp hq hr ht = tt
      tests a c false q r t e hp hq hr ht = tt

      by : (t : Option (ℕ × Cursor)) → taken_at s n 25 0 ≡ t → Started s n (front_by n t)
      by (Some (a, c)) e = tests a c (leb 50 n) (eqb (a / 65536) 288) (leb (pig_in a) (total_in a)) (leb (dup_in a) 2) e refl refl refl refl
      by None e = tt
