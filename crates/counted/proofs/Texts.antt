-- ETCS-72: two levels, and as many X_TEXT as L_TEXT says. Assumes nothing.
use Rattle.std.specs.Prelude.{Some, None, Option, ℕ}
use mathlib.Core.Bool.{true, false, cond}
use mathlib.Core.List.{List}
use mathlib.Core.Path.{◌≡◌, refl, sym, ◌∙◌}
use Prim.Native.Nat.{ℕ, ◌+◌, ◌*◌, ◌/◌, ◌≤◌, ◌<◌}
use native.Mathlib.Omega.{arith}
use borrow.Author.Tests.{eqb-false, leb-true}
use lib.Dec.{eqb, leb}
use lib.ListN.{length}
use Rattle.bits.specs.Ahead.{behind, ahead_at}
use Rattle.bits.specs.Bits.{value_of}
use Rattle.bits.specs.Take.{field_bits, skip_at}
use Rattle.bits.proofs.Fields.{skipped}
use Rattle.bits.proofs.Sight.{Ahead, sighted}
use Rattle.format.specs.Fields.{NID_STM, Q_TEXTCLASS, Q_TEXTDISPLAY, D_TEXTDISPLAY, M_MODETEXTDISPLAY, M_LEVELTEXTDISPLAY, L_TEXTDISPLAY, T_TEXTDISPLAY, Q_TEXTCONFIRM, L_TEXT, X_TEXT}
use Rattle.format.specs.Packets.{Items, ◌▸◌, ◌⧺◌}
use Rattle.format.specs.Packets.Items.{end, send_if, send_times}
use Rattle.format.specs.Rules.{next}
use Rattle.hops.specs.Hops.{level_in}
use Rattle.hops.proofs.Bounds.{level_small}
use Rattle.lists.specs.Lists.{if_skipped, if_seen}
use Rattle.passing.proofs.Passing.{Passed, passed_so, passed_grows, passed_then, passed_one, ruled_run, free_run, free_times}
use Rattle.bodies.specs.Bodies.{text_in, second_level, first_level, text_at}
use Rattle.counted.proofs.Bodies.{sized_long, sized_through}
use Rattle.counted.proofs.Levels.{level_passed}
use Rattle.counted.proofs.Listed.{Through, through_then}
use Rattle.counted.proofs.Tests.{cond_true, cond_false}
use Rattle.bits.specs.declared.Cursor.{Cursor}

-- behind its second level, from that on, and from its first on

abbrev confirmed : Items
confirmed = Q_TEXTCONFIRM ▸ send_times L_TEXT (X_TEXT ▸ end) end

abbrev ending : Items
ending = send_if M_LEVELTEXTDISPLAY NID_STM confirmed

abbrev beginning : Items
beginning = send_if M_LEVELTEXTDISPLAY NID_STM (L_TEXTDISPLAY ▸ T_TEXTDISPLAY ▸ M_MODETEXTDISPLAY ▸ ending)

abbrev pub texts : Items
texts = Q_TEXTCLASS ▸ Q_TEXTDISPLAY ▸ D_TEXTDISPLAY ▸ M_MODETEXTDISPLAY ▸ beginning

module _ (s : List ℕ) (n e : ℕ) (room : e ≤ 8 * length s) where
  -- behind the second level, with so many X_TEXT
  characters : {z w : ℕ} → Ahead s z w → (f k : ℕ) → f ≤ 11 → behind w f 2 ≤ 2 → behind w (f + 2) 8 ≡ k → z + f + 10 + 8 * k ≤ 8 * length s
      → Passed s confirmed (z + f) (2 + k) end (z + f + 10 + 8 * k)
  unfolding next
  characters {z} {w} a f k l c ek inside =
      let first : z + (f + 2) ≡ z + f + 2 = omega arith in
      let confirm : value_of (field_bits s 2 (z + f)) ≤ 2 = rw (← (a.part f 2 (omega arith) (omega arith))) c in
      let v = value_of (field_bits s 8 (z + f + 2)) in
      let ev : v ≡ k = rw (← first) (sym (a.part (f + 2) 8 (omega arith) (omega arith)) ∙ ek) in
      let run = free_times s v (X_TEXT ▸ end) end (z + f + 2 + 8) (refl, tt) in
      let confirms = passed_one {t = confirmed} {x = z + f} tt (omega arith, confirm) refl in
      passed_so (passed_then confirms (passed_then (passed_one tt tt refl) run)) (omega arith) (omega arith)

  module _ {z w : ℕ} (a : Ahead s z w) where
    abbrev f : ℕ
    f = level_in 5 w

    -- from the second level on, with v values before it
    text_through : (v : ℕ) → 0 < text_in e z (v + 3) f w → Through s ending z e v (text_in e z (v + 3) f w)
    unfolding text_in
    text_through v h =
        let k = behind w (f + 2) 8 in
        let some : eqb f 0 ≡ false = cond_false (eqb f 0) _ h in
        let tested = rw some at h in
        let low : leb (behind w f 2) 2 ≡ true = cond_true (leb (behind w f 2) 2) _ tested in
        let counted = rw low at tested in
        let ends : z + f + 10 + 8 * k ≡ e = sized_long (z + f + 10 + 8 * k) e (v + 3 + f / 8 + k) counted in
        let n = eqb-false f 0 some in
        let level = level_passed 46 "M_LEVELTEXTDISPLAY" 5 a (omega arith) confirmed (omega arith) (omega arith) in
        let rest = characters a f k (level_small 5 w) (leb-true (behind w f 2) 2 low) refl (omega arith) in
        rw (some, low)
        (sized_through (z + f + 10 + 8 * k) e (v + 3 + f / 8 + k) (passed_so (passed_then level rest) refl ends) (omega arith) counted)

  second_through : (v z : ℕ) → 0 < second_level s n e (v + 3) z → Through s ending z e v (second_level s n e (v + 3) z)
  unfolding second_level
  second_through v z = by (ahead_at s n 3 z) refl
    where
      by : (t : Option (ℕ × Cursor)) → ahead_at s n 3 z ≡ t → 0 < if_seen t (λ w. text_in e z (v + 3) (level_in 5 w) w)
          → Through s ending z e v (if_seen t (λ w. text_in e z (v + 3) (level_in 5 w) w))
      by (Some (w, c)) q h = text_through (sighted s n 3 z w c q).ahead v h
      by None q h = absurd (omega arith)

  -- from the first level on, with eight values before it
  module _ (y : ℕ) {w : ℕ} (a : Ahead s y w) where
    abbrev b : ℕ
    b = level_in 5 w

    abbrev later : ℕ → ℕ
    later = second_level s n e (15 + b / 8)

    between : (eqb b 0 ≡ false) → (z : ℕ) → z ≡ y + (b + 29) → 0 < later z → Through s beginning y e 8 (later z)
    unfolding ◌⧺◌
    between some z ez h =
        let m : 15 + b / 8 ≡ 12 + b / 8 + 3 = omega arith in
        let i : Through s ending z e (12 + b / 8) (later z) = rw (← m) at (second_through (12 + b / 8) z (rw m at h)) in
        let g = passed_grows i.body in
        let n = eqb-false b 0 some in
        let shown : Items = L_TEXTDISPLAY ▸ T_TEXTDISPLAY ▸ M_MODETEXTDISPLAY ▸ ending in
        let level = level_passed 46 "M_LEVELTEXTDISPLAY" 5 a (omega arith) shown (omega arith) (omega arith) in
        let three = free_run s (L_TEXTDISPLAY ▸ T_TEXTDISPLAY ▸ M_MODETEXTDISPLAY ▸ end) ending (y + b) (refl, (refl, (refl, tt))) in
        let p : Passed s beginning y (4 + b / 8) ending z = passed_so (passed_then level three) (omega arith) (omega arith) in
        let c : 12 + b / 8 ≡ 8 + (4 + b / 8) = omega arith in
        through_then p (rw c at i)

    gone_to : (eqb b 0 ≡ false) → (t : Option Cursor) → skip_at n (b + 29) y ≡ t → 0 < if_skipped t later → Through s beginning y e 8 (if_skipped t later)
    gone_to some (Some c) q h = between some c.at (skipped n (b + 29) y c q).past h
    gone_to some None q h = absurd (omega arith)

    seen_first : 0 < cond (eqb b 0) 0 (if_skipped (skip_at n (b + 29) y) later)
        → Through s beginning y e 8 (cond (eqb b 0) 0 (if_skipped (skip_at n (b + 29) y) later))
    seen_first h =
        let some : eqb b 0 ≡ false = cond_false (eqb b 0) _ h in
        rw some (gone_to some (skip_at n (b + 29) y) refl (rw some at h))

  first_through : (y : ℕ) → 0 < first_level s n e y → Through s beginning y e 8 (first_level s n e y)
  unfolding first_level
  first_through y = by (ahead_at s n 3 y) refl
    where
      by : (t : Option (ℕ × Cursor)) → ahead_at s n 3 y ≡ t
          → 0 < if_seen t (λ w. cond (eqb (level_in 5 w) 0) 0 (if_skipped (skip_at n (level_in 5 w + 29) y) (second_level s n e (15 + level_in 5 w / 8))))
          → Through s beginning y e 8
          (if_seen t (λ w. cond (eqb (level_in 5 w) 0) 0 (if_skipped (skip_at n (level_in 5 w + 29) y) (second_level s n e (15 + level_in 5 w / 8)))))
      by (Some (w, c)) q h = seen_first y (sighted s n 3 y w c q).ahead h
      by None q h = absurd (omega arith)

  -- behind its Q_SCALE
  module _ {x w : ℕ} (a : Ahead s x w) where
    from_class : behind w 25 2 ≤ 1 → (y : ℕ) → y ≡ x + 47 → 0 < first_level s n e y → Through s texts (x + 25) e 4 (first_level s n e y)
    unfolding ◌⧺◌
    from_class low y ey h =
        let i = first_through y h in
        let g = passed_grows i.body in
        let class : value_of (field_bits s 2 (x + 25)) ≤ 1 = rw (← (a.part 25 2 (omega arith) (omega arith))) low in
        let four = ruled_run s (Q_TEXTCLASS ▸ Q_TEXTDISPLAY ▸ D_TEXTDISPLAY ▸ M_MODETEXTDISPLAY ▸ end) beginning (x + 25)
        ((omega arith, class), (tt, (tt, (tt, tt)))) in
        through_then (passed_so four {y₁ = y} refl (omega arith)) i

    pub texts_through : 0 < text_at s n e x (behind w 25 2) → Through s texts (x + 25) e 4 (text_at s n e x (behind w 25 2))
    unfolding text_at
    texts_through h =
        let low : leb (behind w 25 2) 1 ≡ true = cond_true (leb (behind w 25 2) 1) _ h in
        rw low (by (leb-true (behind w 25 2) 1 low) (skip_at n 47 x) refl (rw low at h))
      where
        by : behind w 25 2 ≤ 1 → (t : Option Cursor) → skip_at n 47 x ≡ t → 0 < if_skipped t (first_level s n e)
            → Through s texts (x + 25) e 4 (if_skipped t (first_level s n e))
        by low (Some c) q h = from_class low c.at (skipped n 47 x c q).past h
        by low None q h = absurd (omega arith)
