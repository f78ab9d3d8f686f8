-- **A packet that is counted keeps every rule but the tenth**, with as many values as are counted, and ends by the bit n; and one that is marked is in
-- metres, or has no scale. Assumes nothing.
use Rattle.std.specs.Prelude.{Some, None, Option}
use mathlib.Core.Bool.{Bool, true, false, cond}
use mathlib.Core.List.{List}
use mathlib.Core.Path.{◌≡◌, refl, sym, ◌∙◌}
use Prim.Native.Nat.{ℕ, suc, ◌+◌, ◌*◌, ◌≤◌, ◌<◌}
use native.Mathlib.Omega.{arith}
use borrow.Author.Tests.{eqb-true, leb-true}
use lib.Dec.{T, eqb, leb}
use lib.ListN.{length}
use Rattle.bits.specs.Ahead.{behind}
use Rattle.bits.specs.Bits.{value_of}
use Rattle.bits.specs.Take.{field_bits, skip_at}
use Rattle.bits.proofs.Fields.{skipped}
use Rattle.bits.proofs.Looked.{number_within}
use Rattle.bits.proofs.Sight.{Ahead}
use Rattle.format.specs.Fields.{Q_ASPECT, Q_SRSTOP, D_STARTREVERSE, L_REVERSEAREA, D_TURNOUT, V_TURNOUT}
use Rattle.format.specs.Packets.{Items, ◌▸◌, ◌⧺◌, etcs, ctcs, find}
use Rattle.format.specs.Packets.Items.{end}
use Rattle.format.specs.Rules.{next}
use Rattle.laws.proofs.Steps.{going}
use Rattle.lists.specs.Lists.{links_at, levels_at, choices_at, circuits_at}
use Rattle.passing.proofs.Filled.Filled.{own}
use Rattle.passing.proofs.Passing.{passed_from, passed_grows}
use Rattle.passing.proofs.Passing.Passed.{pass}
use Rattle.passing.proofs.Sorts.{Kept, id_is, kept_by, kept_44}
use Rattle.bodies.specs.Bodies.{sized_by, radio_at, track_at, restricted_at, stopping_at, text_at}
use Rattle.spans.specs.Spans.{plain, span, scaled_by, user_at, national_at, kind_at, span_skipped, packet_at}
use Rattle.spans.specs.declared.Span.{Span}
use Rattle.telling.proofs.MetresThere.{metres_there, there_own, there_none, there_user, there_user_none}
use Rattle.telling.proofs.Once.Phase.{heading}
use Rattle.telling.proofs.Scales.{ordered}
use Rattle.wide_lists.specs.WideLists.{speeds_at, positions_at}
use Rattle.counted.proofs.Bodies.{sized_free, gradients_through, levels_body, track_through, circuits_body, restricted_through, stopping_through}
use Rattle.counted.proofs.EachList.{links_through, choices_through, speeds_through, positions_through}
use Rattle.counted.proofs.EachKind.{Sends, Scaled, found_5, found_21, found_27, found_41, found_42, found_46, found_68, found_72, found_79, found_131, found_132, found_137, found_254, user_1, user_2, user_3, user_4, user_5}
use Rattle.counted.proofs.Listed.{Through}
use Rattle.counted.proofs.Radios.{session_through, handover_through}
use Rattle.counted.proofs.Texts.{texts_through}
use Rattle.bits.specs.declared.Cursor.{Cursor}

-- where this counts it, a packet of so many bits at the bit x keeps its rules, and is in metres or has no scale if this says so
pub record Counted (s : List ℕ) (x long : ℕ) (h : Span) : Type 0 where
  pub kept : 0 < h.values → Kept s x long h.values
  pub metres : 0 < h.values → h.metric ≡ true → metres_there s x ≡ true

none_counted : {s : List ℕ} {x long : ℕ} → Counted s x long (plain 0)
none_counted = record { kept = λ h. absurd (omega arith); metres = λ h m. absurd (omega arith) }

-- by a test of two numbers, or of one that is to be small
pub by_equal : (P : Span → Type 0) (a b : ℕ) (h k : Span) → (a ≡ b → P h) → P k → P (cond (eqb a b) h k)
by_equal P a b h k p q = by (eqb a b) refl
  where
    by : (t : Bool) → eqb a b ≡ t → P (cond t h k)
    by true e = p (eqb-true a b e)
    by false e = q

pub by_below : (P : Span → Type 0) (a b : ℕ) (h k : Span) → (a ≤ b → P h) → P k → P (cond (leb a b) h k)
by_below P a b h k p q = by (leb a b) refl
  where
    by : (t : Bool) → leb a b ≡ t → P (cond t h k)
    by true e = p (leb-true a b e)
    by false e = q

module _ {s : List ℕ} {x w : ℕ} (a : Ahead s x w) (long : ℕ) (room : x + long ≤ 8 * length s) (dir : behind w 8 2 ≤ 2) where
  abbrev C : Span → Type 0
  C h = Counted s x long h

  -- where so many are counted, all behind so many bits is passed, with v values before it
  abbrev Body : Items → ℕ → ℕ → ℕ → Type 0
  Body t bits v total = 0 < total → Through s t (x + bits) (x + long) v total

  -- the Q_SCALE so many bits behind x, which the window holds
  scale_is : (o : ℕ) → o + 2 ≤ 57 → x + (o + 2) ≤ 8 * length s → value_of (field_bits s 2 (x + o)) ≡ behind w o 2
  scale_is o h inside = sym (a.part o 2 h inside)

  -- ---- by the items behind its head, with no scale or with one

  own_plain : (id : ℕ) (t : Items) → Sends (find id etcs) t → T (ordered heading t) → behind w 0 8 ≡ id → (v : ℕ) → Body t 23 3 v → C (plain v)
  own_plain id t f o e v i =
      record {
        kept = λ h.
            let g = passed_grows (i h).body in
            kept_by a (omega arith) id f e dir (own (i h).body) (i h).counts;
        metres = λ h m. let g = passed_grows (i h).body in there_none s x id t f o (number_within s 8 x (omega arith) ∙ id_is a (omega arith) ∙ e);
      }

  own_scaled : (id : ℕ) (t : Items) → Scaled (find id etcs) t → behind w 0 8 ≡ id → (v : ℕ) → Body t 25 4 v → C (scaled_by (behind w 23 2) v)
  unfolding scaled_by next
  own_scaled id t f e v i =
      by_below C (behind w 23 2) 2 (span v (eqb (behind w 23 2) 1)) (plain 0)
      (λ q.
      record {
        kept = λ h.
            let g = passed_grows (i h).body in
            let scale : value_of (field_bits s 2 (x + 23)) ≤ 2 = rw (scale_is 23 (omega arith) (omega arith)) q in
            let there : x + 25 ≡ x + 23 + 2 = omega arith in
            kept_by a (omega arith) id f e dir (own (pass tt (omega arith, scale) refl (passed_from (i h).body there))) (omega (arith, (i h).counts));
        metres = λ h m.
            let g = passed_grows (i h).body in
            there_own s x id t f (number_within s 8 x (omega arith) ∙ id_is a (omega arith) ∙ e)
            ∙ rw (number_within s 2 (x + 23) (omega arith), scale_is 23 (omega arith) (omega arith)) m;
      })
      none_counted

  -- ---- by those behind the head of the CTCS packet in it

  module _ (e : behind w 0 8 ≡ 44) (alike : behind w 32 2 ≡ behind w 8 2) (inner : long ≡ behind w 34 13 + 23) where
    name_is : x + 47 ≤ 8 * length s → value_of (field_bits s 8 x) ≡ 44
    name_is h = id_is a (omega arith) ∙ e

    user_is : x + 47 ≤ 8 * length s → value_of (field_bits s 9 (x + 23)) ≡ behind w 23 9
    user_is h = sym (a.part 23 9 (omega arith) (omega arith))

    user_plain : (u : ℕ) (t : Items) → Sends (find u ctcs) t → T (going t) → T (ordered heading t) → behind w 23 9 ≡ u → (v : ℕ) → Body t 47 6 v
        → C (plain v)
    user_plain u t f g o k v i =
        record {
          kept = λ h. let c = (i h).counts in rw c (kept_44 a room dir e alike inner u f k g (i h).body);
          metres = λ h m.
              let l = passed_grows (i h).body in there_user_none s x u t f o (number_within s 8 x (omega arith) ∙ name_is (omega arith))
              (number_within s 9 (x + 23) (omega arith) ∙ user_is (omega arith) ∙ k);
        }

    user_scaled : (u : ℕ) (t : Items) → Scaled (find u ctcs) t → behind w 23 9 ≡ u → (v : ℕ) → Body t 49 7 v → C (scaled_by (behind w 47 2) v)
    unfolding scaled_by next
    user_scaled u t f k v i =
        by_below C (behind w 47 2) 2 (span v (eqb (behind w 47 2) 1)) (plain 0)
        (λ q.
        record {
          kept = λ h.
              let g = passed_grows (i h).body in
              let scale : value_of (field_bits s 2 (x + 47)) ≤ 2 = rw (scale_is 47 (omega arith) (omega arith)) q in
              let there : x + 49 ≡ x + 47 + 2 = omega arith in
              let c : v ≡ 6 + suc (i h).passed = omega (arith, (i h).counts) in
              rw c (kept_44 a room dir e alike inner u f k tt (pass tt (omega arith, scale) refl (passed_from (i h).body there)));
          metres = λ h m.
              let g = passed_grows (i h).body in
              there_user s x u t f (number_within s 8 x (omega arith) ∙ name_is (omega arith)) (number_within s 9 (x + 23) (omega arith) ∙ user_is (omega arith) ∙ k)
              ∙ rw (number_within s 2 (x + 47) (omega arith), scale_is 47 (omega arith) (omega arith)) m;
        })
        none_counted

    user_counted : (n : ℕ) → C (user_at s n (x + long) x long w (behind w 23 9))
    unfolding user_at ◌⧺◌
    user_counted n =
        let id = behind w 23 9 in
        let z = x + long in
        by_equal C id 1 _ _ (λ k. user_scaled 1 _ user_1 k (circuits_at s n z x) (circuits_body s n z room x))
        (by_equal C id 2 _ _ (λ k. user_scaled 2 _ user_2 k (restricted_at s n x long) (restricted_through s n x long))
        (by_equal C id 3 _ _
        (λ k. user_scaled 3 _ user_3 k (sized_by long 79 9)
        (sized_free s (D_STARTREVERSE ▸ L_REVERSEAREA ▸ end) long 79 9 (refl, (refl, tt)) (λ l. omega arith) refl))
        (by_equal C id 4 _ _
        (λ k. user_scaled 4 _ user_4 k (sized_by long 71 9)
        (sized_free s (D_TURNOUT ▸ V_TURNOUT ▸ end) long 71 9 (refl, (refl, tt)) (λ l. omega arith) refl))
        (by_equal C id 5 _ _ (λ k. user_plain 5 _ user_5 tt tt k (stopping_at long (behind w 47 1)) (stopping_through a long room)) none_counted))))

  national_counted : (n : ℕ) → behind w 0 8 ≡ 44 → C (national_at s n (x + long) x long w)
  unfolding national_at
  national_counted n e =
      by_equal C (behind w 32 2) (behind w 8 2) _ _
      (λ alike. by_equal C long (behind w 34 13 + 23) _ _ (λ inner. user_counted e alike inner n) none_counted) none_counted

  -- ---- each kind

  kind_counted : (n : ℕ) → C (kind_at s n (x + long) x long w (behind w 0 8))
  unfolding kind_at ◌⧺◌
  kind_counted n =
      let id = behind w 0 8 in
      let z = x + long in
      let k = behind w 49 5 in
      by_equal C id 5 _ _ (λ e. own_scaled 5 _ found_5 e (links_at s n z x) (links_through s n z room x))
      (by_equal C id 21 _ _ (λ e. own_scaled 21 _ found_21 e (sized_by long (54 + 24 * k) (8 + 3 * k)) (gradients_through a long room))
      (by_equal C id 27 _ _ (λ e. own_scaled 27 _ found_27 e (speeds_at s n z x) (speeds_through s n z room x))
      (by_equal C id 41 _ _ (λ e. own_scaled 41 _ found_41 e (levels_at s n z x) (levels_body s n z room x))
      (by_equal C id 42 _ _ (λ e. own_plain 42 _ found_42 tt e (radio_at s n x 48 long 113 8) (session_through s n x long))
      (by_equal C id 44 _ _ (λ e. national_counted n e)
      (by_equal C id 46 _ _ (λ e. own_plain 46 _ found_46 tt e (choices_at s n z x) (choices_through s n z room x))
      (by_equal C id 68 _ _ (λ e. own_scaled 68 _ found_68 e (track_at s n z x long (behind w 25 1)) (track_through a n long room))
      (by_equal C id 72 _ _ (λ e. own_scaled 72 _ found_72 e (text_at s n z x (behind w 25 2)) (texts_through s n z room a))
      (by_equal C id 79 _ _ (λ e. own_scaled 79 _ found_79 e (positions_at s n z x) (positions_through s n z room x))
      (by_equal C id 131 _ _ (λ e. own_scaled 131 _ found_131 e (radio_at s n x 64 long 129 9) (handover_through s n x long))
      (by_equal C id 132 _ _
      (λ e. own_plain 132 _ found_132 tt e (sized_by long 24 4) (sized_free s (Q_ASPECT ▸ end) long 24 4 (refl, tt) (λ l. omega arith) refl))
      (by_equal C id 137 _ _
      (λ e. own_plain 137 _ found_137 tt e (sized_by long 24 4) (sized_free s (Q_SRSTOP ▸ end) long 24 4 (refl, tt) (λ l. omega arith) refl))
      (by_equal C id 254 _ _ (λ e. own_plain 254 _ found_254 tt e (sized_by long 23 3) (sized_free s end long 23 3 tt (λ l. omega arith) refl))
      none_counted)))))))))))))

-- ---- by the tests before the kind's

-- the packet ends by the bit n, which is small, and its Q_DIR is allowed
pub by_inside : (P : Span → Type 0) (s : List ℕ) (n x long w : ℕ) → P (plain 0)
    → (n ≤ 830 → x + long ≤ n → behind w 8 2 ≤ 2 → P (kind_at s n (x + long) x long w (behind w 0 8))) → P (packet_at s n x long w)
unfolding packet_at
by_inside P s n x long w none some = by_below P n 830 _ _ (λ low. by low (skip_at n long x) refl) none
  where
    by : n ≤ 830 → (t : Option Cursor) → skip_at n long x ≡ t
        → P (span_skipped t (λ e. cond (leb (behind w 8 2) 2) (kind_at s n e x long w (behind w 0 8)) (plain 0)))
    by low (Some c) q =
        let i = skipped n long x c q in rw i.past (by_below P (behind w 8 2) 2 _ _ (λ dir. some low i.within dir) none)
    by low None q = none

-- **the packet at the bit x, by the window w there**
pub packet_kept : (s : List ℕ) (n : ℕ) {x w : ℕ} → Ahead s x w → n ≤ 8 * length s → (long : ℕ) → 0 < (packet_at s n x long w).values
    → Kept s x long (packet_at s n x long w).values × (x + long ≤ n)
packet_kept s n {x} {w} a room long =
    by_inside (λ (h : Span). 0 < h.values → Kept s x long h.values × (x + long ≤ n)) s n x long w (λ h. absurd (omega arith))
    (λ low inside dir h. ((kind_counted a long (omega arith) dir n).kept h, inside))

-- **and its mark**
pub packet_metres_lem : (s : List ℕ) (n : ℕ) {x w : ℕ} → Ahead s x w → n ≤ 8 * length s → (long : ℕ) → 0 < (packet_at s n x long w).values
    → (packet_at s n x long w).metric ≡ true → metres_there s x ≡ true
packet_metres_lem s n {x} {w} a room long =
    by_inside (λ (h : Span). 0 < h.values → h.metric ≡ true → metres_there s x ≡ true) s n x long w (λ h m. absurd (omega arith))
    (λ low inside dir h m. (kind_counted a long (omega arith) dir n).metres h m)
