-- What packets hold by the tests that the code makes, one law for each way out. Assumes nothing.
use Rattle.std.specs.Prelude.{Some, None, Option}
use mathlib.Core.Path.{◌≡◌, refl, sym, ◌∙◌}
use mathlib.Core.Bool.{Bool, true, false, cond}
use mathlib.Core.List.{List}
use Prim.Native.Nat.{ℕ, ◌+◌, ◌-◌, ◌*◌, ◌/◌, ◌%◌, ◌^◌, ◌≤◌, ◌<◌}
use native.Mathlib.Nat.{mod-lt}
use native.Mathlib.Omega.{arith}
use borrow.Author.Tests.{le-leb, lt-leb, eq-eqb, ne_eqb, eqb-true, eqb-false}
use lib.Dec.{eqb}
use lib.Bits.{bit_or}
use Rattle.word64.proofs.Words.{or_shl}
use Rattle.bits.specs.Ahead.{behind, ahead_at}
use Rattle.bits.specs.Take.{taken_at, skip_at}
use Rattle.bits.specs.declared.Cursor.{Cursor}
use Rattle.format.specs.Rules.{radio_from}
use Rattle.hops.specs.Hops.{counted, level_in}
use Rattle.hops.proofs.Kept.{is_counted}
use Rattle.lists.specs.Lists.{if_skipped, if_taken, if_seen, conditions_at}
use Rattle.bodies.specs.Bodies.{so_many, sized_by, radio_at, track_at, restricted_at, stopping_at, text_in, second_level, first_level, text_at}

-- ---- a length

module _ (long wanted v : ℕ) where
  pub sized_so : long ≡ wanted → v ≡ sized_by long wanted v
  unfolding sized_by
  sized_so h = rw (eq-eqb long wanted h)

  pub sized_else : (long ≡ wanted → ⊥) → 0 ≡ sized_by long wanted v
  unfolding sized_by
  sized_else h = rw (ne_eqb long wanted h)

-- ---- so many values, where one is counted

module _ (v : ℕ) where
  cond_many : (b : Bool) (x y : ℕ) → so_many v x ≡ counted y → so_many v (cond b x 0) ≡ counted (cond b y 0)
  cond_many true x y e = e
  cond_many false x y e = refl

  skipped_many : (t : Option Cursor) (f g : ℕ → ℕ) → ((y : ℕ) → so_many v (f y) ≡ counted (g y)) → so_many v (if_skipped t f) ≡ counted (if_skipped t g)
  skipped_many (Some c) f g e = e c.at
  skipped_many None f g e = refl

  taken_many : (t : Option (ℕ × Cursor)) (f g : ℕ → ℕ → ℕ) → ((a y : ℕ) → so_many v (f a y) ≡ counted (g a y))
      → so_many v (if_taken t f) ≡ counted (if_taken t g)
  taken_many (Some (a, c)) f g e = e a c.at
  taken_many None f g e = refl

  seen_many : (t : Option (ℕ × Cursor)) (f g : ℕ → ℕ) → ((a : ℕ) → so_many v (f a) ≡ counted (g a)) → so_many v (if_seen t f) ≡ counted (if_seen t g)
  seen_many (Some (a, c)) f g e = e a
  seen_many None f g e = refl

  module _ (some : 1 ≤ v) where
    pub sized_many : (long wanted : ℕ) → so_many v (sized_by long wanted 1) ≡ counted (sized_by long wanted v)
    unfolding sized_by
    sized_many long wanted = cond_many (eqb long wanted) 1 v (is_counted refl some)

    pub radio_many : (s : List ℕ) (n x place long wanted : ℕ) → so_many v (radio_at s n x place long wanted 1) ≡ counted (radio_at s n x place long wanted v)
    unfolding radio_at
    radio_many s n x place long wanted =
        cond_many (eqb long wanted) _ _
        (skipped_many (skip_at n place x) _ _
        (λ y. taken_many (ahead_at s n 32 y) _ _
        (λ a z. seen_many (ahead_at s n 32 z) _ _
        (λ b. cond_many (radio_from 16 false (behind a 0 32 * 2 ^ 32 + behind b 0 32)) 1 v (is_counted refl some)))))

-- counted from a bit on
sized_behind : (z l e v : ℕ) {m : ℕ} → z ≤ e → m ≡ z + l → sized_by (e - z) l v ≡ sized_by m e v
sized_behind z l e v {m} h em = by (eqb m e) refl
  where
    by : (b : Bool) → eqb m e ≡ b → sized_by (e - z) l v ≡ sized_by m e v
    by true t = let q = eqb-true m e t in sym (sized_so (e - z) l v (omega arith)) ∙ sized_so m e v q
    by false t = let q = eqb-false m e t in sym (sized_else (e - z) l v (λ r. q (omega arith))) ∙ sized_else m e v q

-- ---- a list of which no rule reads anything

module _ (s : List ℕ) (n x long : ℕ) where
  pub restricted_lacking : skip_at n 102 x ≡ None → 0 ≡ restricted_at s n x long
  unfolding restricted_at
  restricted_lacking e = rw e

  module _ {c : Cursor} (at : skip_at n 102 x ≡ Some c) where
    pub restricted_short : taken_at s n 5 c.at ≡ None → 0 ≡ restricted_at s n x long
    unfolding restricted_at
    restricted_short e = rw (at, e)

    pub restricted_taken : {k : ℕ} {d : Cursor} → taken_at s n 5 c.at ≡ Some (k, d) → sized_by long (107 + 38 * k) (13 + 4 * k) ≡ restricted_at s n x long
    unfolding restricted_at
    restricted_taken e = rw (at, e)

module _ (long stop : ℕ) where
  pub stopping_over : (stop ≡ 0 → ⊥) → 0 ≡ stopping_at long stop
  unfolding stopping_at
  stopping_over h = rw (ne_eqb stop 0 h)

  pub stopping_kept : stop ≡ 0 → sized_by long 48 7 ≡ stopping_at long stop
  unfolding stopping_at
  stopping_kept h = rw (eq-eqb stop 0 h)

module _ (s : List ℕ) (n e x long initial : ℕ) where
  pub track_first : initial ≡ 1 → sized_by long 41 6 ≡ track_at s n e x long initial
  unfolding track_at
  track_first h = rw (eq-eqb initial 1 h)

  pub track_list : (initial ≡ 1 → ⊥) → conditions_at s n e x ≡ track_at s n e x long initial
  unfolding track_at
  track_list h = rw (ne_eqb initial 1 h)

-- ---- a text

module _ (e z v f w : ℕ) where
  pub text_none : f ≡ 0 → 0 ≡ text_in e z v f w
  unfolding text_in
  text_none h = rw (eq-eqb f 0 h)

  module _ (some : f ≡ 0 → ⊥) (d : ℕ) (ed : d ≡ behind w f 2) where
    pub confirm_over : 2 < d → 0 ≡ text_in e z v f w
    unfolding text_in
    confirm_over h = rw (ne_eqb f 0 some, ← ed, lt-leb d 2 h)

    pub text_astray : e < z → d ≤ 2 → 0 ≡ text_in e z v f w
    unfolding text_in
    text_astray l h =
        rw (ne_eqb f 0 some, ← ed, le-leb d 2 h)
        (sized_else (z + f + 10 + 8 * behind w (f + 2) 8) e (v + f / 8 + behind w (f + 2) 8) (λ q. absurd (omega arith)))

    pub text_kept : z ≤ e → (k : ℕ) → k ≡ behind w (f + 2) 8 → d ≤ 2 → sized_by (e - z) (f + 10 + 8 * k) (v + f / 8 + k) ≡ text_in e z v f w
    unfolding text_in
    text_kept l k ek h = rw (ne_eqb f 0 some, ← ed, ← ek, le-leb d 2 h) (sized_behind z (f + 10 + 8 * k) e (v + f / 8 + k) l (omega arith))

module _ (s : List ℕ) (n e x class : ℕ) where
  pub class_over : 1 < class → 0 ≡ text_at s n e x class
  unfolding text_at
  class_over h = rw (lt-leb class 1 h)

  module _ (low : class ≤ 1) where
    pub text_lacking : skip_at n 47 x ≡ None → 0 ≡ text_at s n e x class
    unfolding text_at
    text_lacking h = rw (le-leb class 1 low, h)

    module _ {c : Cursor} (at : skip_at n 47 x ≡ Some c) where
      pub level_short : ahead_at s n 3 c.at ≡ None → 0 ≡ text_at s n e x class
      unfolding text_at first_level
      level_short h = rw (le-leb class 1 low, at, h)

      module _ {a : ℕ} {d : Cursor} (seen : ahead_at s n 3 c.at ≡ Some (a, d)) (f : ℕ) (ef : f ≡ level_in 5 a) where
        pub level_none : f ≡ 0 → 0 ≡ text_at s n e x class
        unfolding text_at first_level
        level_none h = rw (le-leb class 1 low, at, seen, ← ef, eq-eqb f 0 h)

        module _ (some : f ≡ 0 → ⊥) where
          pub second_lacking : skip_at n (f + 29) c.at ≡ None → 0 ≡ text_at s n e x class
          unfolding text_at first_level
          second_lacking h = rw (le-leb class 1 low, at, seen, ← ef, ne_eqb f 0 some, h)

          module _ {c₂ : Cursor} (on : skip_at n (f + 29) c.at ≡ Some c₂) where
            pub second_short : ahead_at s n 3 c₂.at ≡ None → 0 ≡ text_at s n e x class
            unfolding text_at first_level second_level
            second_short h = rw (le-leb class 1 low, at, seen, ← ef, ne_eqb f 0 some, on, h)

            pub second_seen : {b : ℕ} {d₂ : Cursor} → ahead_at s n 3 c₂.at ≡ Some (b, d₂)
                → text_in e c₂.at (15 + f / 8) (level_in 5 b) b ≡ text_at s n e x class
            unfolding text_at first_level second_level
            second_seen h = rw (le-leb class 1 low, at, seen, ← ef, ne_eqb f 0 some, on, h)

-- ---- a radio number

module _ (s : List ℕ) (n x place long wanted v : ℕ) where
  pub radio_long : (long ≡ wanted → ⊥) → 0 ≡ radio_at s n x place long wanted v
  unfolding radio_at
  radio_long h = rw (ne_eqb long wanted h)

  module _ (so : long ≡ wanted) where
    pub radio_lacking : skip_at n place x ≡ None → 0 ≡ radio_at s n x place long wanted v
    unfolding radio_at
    radio_lacking h = rw (eq-eqb long wanted so, h)

    module _ {c : Cursor} (at : skip_at n place x ≡ Some c) where
      pub high_short : ahead_at s n 32 c.at ≡ None → 0 ≡ radio_at s n x place long wanted v
      unfolding radio_at
      high_short h = rw (eq-eqb long wanted so, at, h)

      module _ {a : ℕ} {d : Cursor} (high : ahead_at s n 32 c.at ≡ Some (a, d)) where
        pub low_short : ahead_at s n 32 d.at ≡ None → 0 ≡ radio_at s n x place long wanted v
        unfolding radio_at
        low_short h = rw (eq-eqb long wanted so, at, high, h)

        module _ {b : ℕ} {f : Cursor} (low : ahead_at s n 32 d.at ≡ Some (b, f)) where
          pub radio_broken : radio_from 16 false (behind a 0 32 * 2 ^ 32 + behind b 0 32) ≡ false → 0 ≡ radio_at s n x place long wanted v
          unfolding radio_at
          radio_broken h = rw (eq-eqb long wanted so, at, high, low, h)

          pub radio_kept : radio_from 16 false (behind a 0 32 * 2 ^ 32 + behind b 0 32) ≡ true → v ≡ radio_at s n x place long wanted v
          unfolding radio_at
          radio_kept h = rw (eq-eqb long wanted so, at, high, low, h)

-- two halves of a number, joined as the code does
pub halves : {p q : ℕ} (a b : ℕ) → p ≡ behind a 0 32 → q ≡ behind b 0 32 → bit_or (p * 2 ^ 32 % 2 ^ 64) q ≡ behind a 0 32 * 2 ^ 32 + behind b 0 32
halves a b ep eq = rw (ep, eq) (or_shl 32 32 (behind a 0 32) (behind b 0 32) (half a) (half b) (omega arith))
  where
    below : (x : ℕ) → x < 2 ^ 64 → x / 2 ^ 32 < 2 ^ 32
    below x h = omega arith

    half : (w : ℕ) → behind w 0 32 < 2 ^ 32
    half w = below (w * 2 ^ 0 % 2 ^ 64) (mod-lt _ (omega arith))
