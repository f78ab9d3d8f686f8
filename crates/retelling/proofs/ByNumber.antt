-- What is put for a packet by its numbers: by its Q_SCALE, its NID_PACKET and its NID_XUSER. Assumes nothing.
use Rattle.std.specs.Prelude.{Some, None}
use mathlib.Core.Bool.{Bool, true, false, cond, ◌&&◌}
use mathlib.Core.List.{List}
use mathlib.Core.Logic.{◌⊎◌, inl, inr}
use mathlib.Core.Path.{◌≡◌, refl, sym, ap, ◌∙◌}
use Prim.Native.Nat.{ℕ, zero, suc, ◌+◌, ◌≤◌, ◌<◌}
use native.Mathlib.Omega.{arith}
use borrow.Author.Tests.{eq-eqb, ne_eqb, eqb-true, le-leb, lt-leb}
use lib.Dec.{eqb, leb}
use lib.ListN.{length}
use Rattle.metre_lists.specs.Groups.{roomed}
use Rattle.distance.specs.Distance.{number_of, scaled_by}
use Rattle.distance.specs.declared.Scale.{Scale}
use Rattle.distance.specs.declared.Scale.TheVariants.{Tenths, Metres, Tens}
use Rattle.told.specs.Metres.{number_in, metres_said, links_put, slopes_put, profiles_put, places_put, levels_put, conditions_put, text_put, handover_put, circuits_put, restrictions_put, reverse_put, turnout_put}
use Rattle.told.specs.Decides.{links_whole, slopes_whole, profiles_whole, places_whole, levels_whole, conditions_whole, words_whole, handover_whole, circuits_whole, restrictions_whole, reverse_whole, turnout_whole, scaled_put, user_put, kind_put}
use Rattle.retelling.specs.Retold.{told_by}

-- ---- by a Q_SCALE

pub scale_number : (q : ℕ) (k : Scale) → scaled_by q ≡ Some k → q ≡ number_of k
unfolding scaled_by
scale_number zero k e = let i : Tenths ≡ k = cc in rw (← i)
scale_number (suc zero) k e = let i : Metres ≡ k = cc in rw (← i)
scale_number (suc (suc zero)) k e = let i : Tens ≡ k = cc in rw (← i)
scale_number (suc (suc (suc n))) k e = let z : ◌≡◌ {A = ℕ} 0 1 = cc in absurd (omega arith)

pub scale_not : (q : ℕ) → scaled_by q ≡ None → 2 < q
unfolding scaled_by
scale_not zero e = let z : ◌≡◌ {A = ℕ} 0 1 = cc in absurd (omega arith)
scale_not (suc zero) e = let z : ◌≡◌ {A = ℕ} 0 1 = cc in absurd (omega arith)
scale_not (suc (suc zero)) e = let z : ◌≡◌ {A = ℕ} 0 1 = cc in absurd (omega arith)
scale_not (suc (suc (suc n))) e = omega arith

-- a Q_SCALE lies in the window of its packet
pub scale_near : (c : Bool) → cond c 47 23 + 2 ≤ 57
scale_near true = omega arith
scale_near false = omega arith

pub not_metres : {k : Scale} → (k ≡ Tenths) ⊎ (k ≡ Tens) → number_of k ≡ 1 → ⊥
not_metres (inl e) h = let z = sym (ap number_of e) ∙ h in omega arith
not_metres (inr e) h = let z = sym (ap number_of e) ∙ h in omega arith

number_few : (k : Scale) → number_of k ≤ 2
number_few Tenths = omega arith
number_few Metres = omega arith
number_few Tens = omega arith

module _ (s : List ℕ) (b : ℕ) (whole : ℕ → Bool) (puts : ℕ → List ℕ → List ℕ) (out : List ℕ) where
  -- of a scale that is not that of metres
  pub turns : (k : Scale) → number_in s 2 b ≡ number_of k → (number_of k ≡ 1 → ⊥)
      → told_by b (whole (number_of k)) (puts (number_of k)) out ≡ scaled_put s b whole puts out
  turns k e h = rw (e, ne_eqb (number_of k) 1 h, le-leb (number_of k) 2 (number_few k))

  -- of that of metres, and of none
  pub idle : (number_in s 2 b ≡ 1) ⊎ (2 < number_in s 2 b) → scaled_put s b whole puts out ≡ out
  idle (inl h) = rw (eq-eqb (number_in s 2 b) 1 h)
  idle (inr h) = rw (ne_eqb (number_in s 2 b) 1 (λ e. omega arith), lt-leb (number_in s 2 b) 2 h)

-- ---- by the number of a packet

cond_out : {out : List ℕ} (c : Bool) {a b : List ℕ} → a ≡ out → b ≡ out → cond c a b ≡ out
cond_out true h i = h
cond_out false h i = i

module _ (s : List ℕ) (x : ℕ) (out : List ℕ) where
  -- a NID_XUSER that is none of these, or CTCS-5
  pub user_other : (u : ℕ) → (((Unit {0} × (u ≡ 1 → ⊥)) × (u ≡ 2 → ⊥)) × (u ≡ 3 → ⊥)) × (u ≡ 4 → ⊥) → out ≡ user_put s x u out
  user_other u h = rw (ne_eqb u 1 h.0.0.0.1, ne_eqb u 2 h.0.0.1, ne_eqb u 3 h.0.1, ne_eqb u 4 h.1)

  -- a NID_PACKET without a scale
  pub kind_other : (i : ℕ)
      → ((((((((Unit {0} × (i ≡ 5 → ⊥)) × (i ≡ 21 → ⊥)) × (i ≡ 27 → ⊥)) × (i ≡ 41 → ⊥)) × (i ≡ 44 → ⊥)) × (i ≡ 68 → ⊥)) × (i ≡ 72 → ⊥)) × (i ≡ 79 → ⊥)) × (i ≡ 131 → ⊥)
      → out ≡ kind_put s x i out
  kind_other i h =
      rw (
        ne_eqb i 5 h.0.0.0.0.0.0.0.0.1,
        ne_eqb i 21 h.0.0.0.0.0.0.0.1,
        ne_eqb i 27 h.0.0.0.0.0.0.1,
        ne_eqb i 41 h.0.0.0.0.0.1,
        ne_eqb i 44 h.0.0.0.0.1,
        ne_eqb i 68 h.0.0.0.1,
        ne_eqb i 72 h.0.0.1,
        ne_eqb i 79 h.0.1,
        ne_eqb i 131 h.1,
      )

  user_idle : (u : ℕ) → (number_in s 2 (x + 47) ≡ 1) ⊎ (2 < number_in s 2 (x + 47)) → user_put s x u out ≡ out
  user_idle u h =
      let i : (w : ℕ → Bool) (p : ℕ → List ℕ → List ℕ) → scaled_put s (x + 47) w p out ≡ out = λ w p. idle s (x + 47) w p out h in
      cond_out (eqb u 1) (i (circuits_whole s x) (circuits_put s x)) (cond_out (eqb u 2) (i (restrictions_whole s x) (restrictions_put s x)) (cond_out (eqb u 3) (i (reverse_whole s x) (reverse_put s x)) (cond_out (eqb u 4) (i (turnout_whole s x) (turnout_put s x)) refl)))

  -- in metres, or with a Q_SCALE that is none
  pub kind_idle : (i : ℕ) → (number_in s 2 (x + cond (eqb i 44) 47 23) ≡ 1) ⊎ (2 < number_in s 2 (x + cond (eqb i 44) 47 23)) → out ≡ kind_put s x i out
  kind_idle i h = sym (by (eqb i 44) refl h)
    where
      by : (c : Bool) → eqb i 44 ≡ c → (number_in s 2 (x + cond c 47 23) ≡ 1) ⊎ (2 < number_in s 2 (x + cond c 47 23)) → kind_put s x i out ≡ out
      by true e g = let j = eqb-true i 44 e in rw j (user_idle (number_in s 9 (x + 23)) g)
      by false e g =
          let k : (w : ℕ → Bool) (p : ℕ → List ℕ → List ℕ) → scaled_put s (x + 23) w p out ≡ out = λ w p. idle s (x + 23) w p out g in
          rw e
          (cond_out (eqb i 5) (k (links_whole s x) (links_put s x)) (cond_out (eqb i 21) (k (slopes_whole s x) (slopes_put s x)) (cond_out (eqb i 27) (k (profiles_whole s x) (profiles_put s x)) (cond_out (eqb i 41) (k (levels_whole s x) (levels_put s x))
          (cond_out (eqb i 68) (k (conditions_whole s x) (conditions_put s x)) (cond_out (eqb i 72) (k (words_whole s x) (text_put s x)) (cond_out (eqb i 79) (k (places_whole s x) (places_put s x)) (cond_out (eqb i 131) (k (handover_whole s x) (handover_put s x)) refl))))))))

-- ---- what the distances and lists of a packet tell, where there is room

module _ (b : ℕ) (whole : Bool) (puts : List ℕ → List ℕ) (out : List ℕ) where
  pub stays : whole ≡ false → out ≡ told_by b whole puts out
  stays h = rw h

  pub tells : whole ≡ true → metres_said b (puts out) ≡ told_by b whole puts out
  tells h = rw h

pub first_false : (a b : Bool) → a ≡ false → (a && b) ≡ false
first_false a b h = rw h

pub second_false : (a b : Bool) → a ≡ true → b ≡ false → (a && b) ≡ false
second_false a b h i = rw (h, i)

pub both_true : (a b : Bool) → a ≡ true → b ≡ true → (a && b) ≡ true
both_true a b h i = rw (h, i)

module _ (s : List ℕ) (long : 8 ≤ length s) where
  pub distance_is : {r w : Bool} → r ≡ (leb 8 (length s) && w) → r ≡ w
  distance_is e = rw (le-leb 8 (length s) long) at e

  module _ (out : List ℕ) (four : 4 ≤ length out) where
    pub put_is : {after told : List ℕ} → after ≡ cond (roomed s out) told out → after ≡ told
    put_is e = rw (le-leb 8 (length s) long, le-leb 4 (length out) four) at e

    module _ (x : ℕ) (near : x ≤ 900) where
      pub list_is : {r w : Bool} → r ≡ (roomed s out && leb x 900 && w) → r ≡ w
      list_is e = rw (le-leb 8 (length s) long, le-leb 4 (length out) four, le-leb x 900 near) at e

      pub list_kept : (told : List ℕ) {after : List ℕ} → after ≡ cond (roomed s out && leb x 900 && false) told out → after ≡ out
      list_kept told e = rw (le-leb 8 (length s) long, le-leb 4 (length out) four, le-leb x 900 near) at e

      pub list_put_lem : {after told : List ℕ} → after ≡ cond (roomed s out && leb x 900 && true) told out → after ≡ told
      list_put_lem e = rw (le-leb 8 (length s) long, le-leb 4 (length out) four, le-leb x 900 near) at e
