-- Two telegrams compared by their normal forms, by what the check and the normaliser promise alone: no two telegrams have the same bytes. For any
-- terms. Assumes nothing.
use Rattle.std.specs.Prelude.{Ok, true, false, Err, Decides}
use mathlib.Core.Bool.{Bool, true, false}
use mathlib.Core.List.{List}
use mathlib.Core.Logic.{◌≢◌}
use mathlib.Core.Path.{◌≡◌, refl, sym, ap, ◌∙◌}
use Prim.Native.Nat.{ℕ, ◌≤◌, ◌<◌}
use native.Mathlib.Omega.{arith}
use borrow.Author.Tests.{le-leb, lt-leb}
use lib.ListN.{length, take}
use Rattle.bits.specs.Bits.{bytes_of, bytes_for, same}
use Rattle.bits.proofs.Same.{same_true, same_self}
use Rattle.format.specs.Rules.{Terms}
use Rattle.format.specs.Telegrams.{Entry, bits}
use Rattle.format.specs.Telegrams.Result.{accepted, refused}
use Rattle.format.specs.declared.Kind.TheVariants.{Room}
use Rattle.format.specs.declared.Refusal.{Refusal}
use Rattle.states.specs.Reader.{early, checked}
use Rattle.states.specs.Normaliser.{Normalise}
use Rattle.states.proofs.Accepting.{one_telegram}
use Rattle.normals.specs.Normals.{Ready}
use Rattle.alike.specs.Pairs.{pair_into, SaysSame}
use Rattle.alike.specs.Pairs.Pair.{both}
use Rattle.normals.proofs.Forms.{form, form_telegram, bits_long, holds, front}
use Rattle.format.specs.Refusals.{Answer}
use Rattle.alike.specs.declared.PairError.TheVariants.{First, Second}

-- ---- lists compared

same_false : (bs cs : List ℕ) → bs ≢ cs → same bs cs ≡ false
same_false bs cs d = by_test (same bs cs) refl
  where
    by_test : (t : Bool) → same bs cs ≡ t → t ≡ false
    by_test true e = absurd (d (same_true bs cs e))
    by_test false e = refl

-- a flag is not both
unlike : {t : Bool} → t ≡ true → t ≡ false → ⊥
unlike h e = let z : ◌≡◌ {A = ℕ} 0 1 = cc in omega arith

-- ---- one of the two is refused, or has no room

module _ (p : Terms) (s : List ℕ) (n : ℕ) (t : List ℕ) (m : ℕ) (x y : List ℕ) where
  pub no_room_for_first : length x < 104 → SaysSame p s n t m x y (Err (First (early Room))) x y
  no_room_for_first h = let f = lt-leb 104 (length x) h in record { answers = rw f; first = rw f; second = rw f }

  module _ (rx : 104 ≤ length x) where
    pub no_room_for_other : length y < 104 → SaysSame p s n t m x y (Err (Second (early Room))) x y
    no_room_for_other h =
        let f = le-leb 104 (length x) rx in
        let g = lt-leb 104 (length y) h in
        record { answers = rw (f, g); first = rw (f, g); second = rw (f, g) }

    module _ (ry : 104 ≤ length y) where
      pub first_refused : {r : Refusal} → checked p s n ≡ refused r → SaysSame p s n t m x y (Err (First r)) x y
      first_refused e =
          let f = le-leb 104 (length x) rx in
          let g = le-leb 104 (length y) ry in
          record { answers = rw (f, g, e); first = rw (f, g, e); second = rw (f, g, e) }

      pub second_refused : {es : List Entry} {r : Refusal} → checked p s n ≡ accepted es → checked p t m ≡ refused r
          → SaysSame p s n t m x y (Err (Second r)) x y
      second_refused c e =
          let f = le-leb 104 (length x) rx in
          let g = le-leb 104 (length y) ry in
          record { answers = rw (f, g, c, e); first = rw (f, g, c, e); second = rw (f, g, c, e) }

-- ---- both are accepted

module _ (p : Terms) (s : List ℕ) (n : ℕ) (t : List ℕ) (m : ℕ) (x y : List ℕ) (g : Ready p s n x) (f : Ready p t m y) where
  pub pair_is : pair_into p s n t m (length x) (length y) ≡ both g.entries f.entries
  pair_is = rw (le-leb 104 (length x) g.room, le-leb 104 (length y) f.room, g.accepts, f.accepts)

  abbrev ones : List ℕ
  ones = bits (form p s n x g)

  abbrev others : List ℕ
  others = bits (form p t m y f)

  module _ (x_after y_after : List ℕ) {a b : Answer} (h : Normalise p s n x a x_after) (i : Normalise p t m y b y_after) where
    compares : (c : Bool) → same ones others ≡ c → SaysSame p s n t m x y (Ok c) x_after y_after
    compares c q = record {
      answers = rw (pair_is, q);
      first = rw pair_is (holds p s n x g x_after h);
      second = rw pair_is (holds p t m y f y_after i);
    }

    pub other_size : n ≢ m → SaysSame p s n t m x y (Ok false) x_after y_after
    other_size u = compares false (same_false ones others (λ q. u (sym (bits_long p s n x g) ∙ ap length q ∙ bits_long p t m y f)))

    module _ (z : n ≡ m) {l : ℕ} (c : l ≡ bytes_for n) where
      one_front : take l x_after ≡ bytes_of ones
      one_front = front p s n x g x_after h l c

      other_front : take l y_after ≡ bytes_of others
      other_front = front p t m y f y_after i l (c ∙ ap bytes_for z)

      found_same : take l x_after ≡ take l y_after → SaysSame p s n t m x y (Ok true) x_after y_after
      found_same q =
          let u : ones ≡ others =
          ap bits (one_telegram p _ _ (form_telegram p s n x g) (form_telegram p t m y f) (sym one_front ∙ q ∙ other_front)) in
          compares true (ap (same ones) (sym u) ∙ same_self ones)

      found_other : take l x_after ≢ take l y_after → SaysSame p s n t m x y (Ok false) x_after y_after
      found_other q = compares false (same_false ones others (λ u. q (one_front ∙ ap bytes_of u ∙ sym other_front)))

      -- the answer of `==` on the two
      pub found : (same : Bool) → Decides same (take l x_after ≡ take l y_after) → SaysSame p s n t m x y (Ok same) x_after y_after
      found true d = found_same (d.0 refl)
      found false d = found_other (λ q. unlike (d.1 q) refl)
