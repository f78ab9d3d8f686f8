-- The rules of a value, 4, 6, 7, 9 and 10: the test of the value that is due and what the rule says over the entries are one. Assumes nothing.
use mathlib.Core.Bool.{Bool, true, false, cond, ◌&&◌, ◌||◌}
use mathlib.Core.List.{List}
use mathlib.Core.Logic.{◌⊎◌, inl, inr}
use mathlib.Core.Option.{Option, some, none}
use mathlib.Core.Path.{◌≡◌, refl, sym, ap, ◌∙◌}
use Prim.Native.Nat.{ℕ, ◌≤◌, ◌<◌}
use native.Mathlib.Omega.{arith}
use borrow.Author.Tests.{leb-true, leb-false, lt-leb, eqb-true, eqb-false, eq-eqb, ne_eqb}
use lib.Dec.{eqb, leb}
use Rattle.format.specs.Fields.{Field, N_TOTAL, NID_PACKET, NID_XUSER}
use Rattle.format.specs.Fields.Rule.{packet, user, direction, within}
use Rattle.format.specs.Packets.{Items, find, etcs, ctcs}
use Rattle.format.specs.Rules.{Context, Level, rule_of, known, unless, forbidden, radio_from, misdirected, broken, clash, paper}
use Rattle.format.specs.Rules.Level.{in_header, in_packet, in_user}
use Rattle.format.specs.Telegrams.{Entry}
use Rattle.format.specs.declared.Kind.{Kind}
use Rattle.format.specs.declared.Kind.TheVariants.{Header, Unknown, Value}
use Rattle.laws.proofs.Order.{order_value, unless_is}
use Rattle.laws.proofs.Headed.{InBody}
use Rattle.laws.proofs.Pairs.{one_end}
use Rattle.given.specs.Broken.{HeaderBroken, Unlisted, Disallowed, Collide}
use Rattle.given.specs.Broken.HeaderBroken.{updown, version, media, dup}
use Rattle.given.specs.Broken.{HeaderBroken as headers, Unlisted as unlisted}
use Rattle.given.specs.Broken.Disallowed.{outside}
use Rattle.given.proofs.Radio.{radio_is}
use Rattle.given.proofs.Tables.{etcs_none, ctcs_none}
use Rattle.given.proofs.Sorts.{HeaderField, Sort, range_rule, range_number_lem, range_direction}
use Rattle.given.proofs.Sorts.HeaderField.{q_updown, m_version, q_media, n_pig, n_total, m_dup, m_mcount, nid_c, nid_bg, q_link}
use Rattle.given.proofs.Sorts.Sort.{ranged, radioed, free, directs, sizes, users}
use Rattle.given.proofs.Dues.{Pig}

-- ---- tests

pub none_some : {A : Type 0} {k : Kind} → ◌≡◌ {A = Option Kind} none (some k) → A
none_some e = let z : ◌≡◌ {A = ℕ} 0 1 = cc in absurd (omega arith)

range_out : (a b v : ℕ) → (leb a v && leb v b) ≡ false → (v < a) ⊎ (b < v)
range_out a b v = by_tests (leb a v) (leb v b) refl refl
  where
    by_tests : (x y : Bool) → leb a v ≡ x → leb v b ≡ y → (x && y) ≡ false → (v < a) ⊎ (b < v)
    by_tests true true i j h = let z : ◌≡◌ {A = ℕ} 0 1 = cc in absurd (omega arith)
    by_tests true false i j h = inr (leb-false v b j)
    by_tests false y i j h = inl (leb-false a v i)

out_range : (a b v : ℕ) → (v < a) ⊎ (b < v) → (leb a v && leb v b) ≡ false
out_range a b v (inl h) = rw (lt-leb a v h)
out_range a b v (inr h) = rw (lt-leb v b h) (and_false (leb a v))
  where
    and_false : (x : Bool) → (x && false) ≡ false
    and_false true = refl
    and_false false = refl

-- the one value of a range of one
one_out : (a v : ℕ) → (leb a v && leb v a) ≡ false → v ≡ a → ⊥
one_out a v h e = by_side (range_out a a v h)
  where
    by_side : (v < a) ⊎ (a < v) → ⊥
    by_side (inl l) = omega arith
    by_side (inr l) = omega arith

not_one : (a v : ℕ) → (v ≡ a → ⊥) → (leb a v && leb v a) ≡ false
not_one a v n = by_test (leb a v) refl
  where
    by_test : (x : Bool) → leb a v ≡ x → (x && leb v a) ≡ false
    by_test false i = refl
    by_test true i = let l = leb-true a v i in lt-leb v a (strict l)
      where
        strict : a ≤ v → a < v
        strict l = by_eq (eqb v a) refl
          where
            by_eq : (b : Bool) → eqb v a ≡ b → a < v
            by_eq true e = absurd (n (eqb-true v a e))
            by_eq false e = let m = eqb-false v a e in omega arith

pub clash_is : (d e : ℕ) → clash d e ≡ true → Collide d e
unfolding clash
clash_is d e = by_tests (eqb d e) (eqb d 2) (eqb e 2) refl refl refl
  where
    by_tests : (a b c : Bool) → eqb d e ≡ a → eqb d 2 ≡ b → eqb e 2 ≡ c → (a || (b || c)) ≡ true → Collide d e
    by_tests true b c i j k h = inl (eqb-true d e i)
    by_tests false true c i j k h = inr (inl (eqb-true d 2 j))
    by_tests false false true i j k h = inr (inr (eqb-true e 2 k))
    by_tests false false false i j k h = let z : ◌≡◌ {A = ℕ} 0 1 = cc in absurd (omega arith)

or_true : (b : Bool) → (b || true) ≡ true
or_true true = refl
or_true false = refl

pub is_clash : (d e : ℕ) → Collide d e → clash d e ≡ true
unfolding clash
is_clash d e (inl h) = rw (eq-eqb d e h)
is_clash d e (inr (inl h)) = rw (eq-eqb d 2 h) (or_true (eqb d e))
is_clash d e (inr (inr h)) = rw (eq-eqb e 2 h, or_true (eqb d 2)) (or_true (eqb d e))

known_none : (o : Option Items) → known o ≡ false → o ≡ none
known_none none h = refl
known_none (some t) h = cc

or_none : (a b : Bool) → (a || b) ≡ false → (a ≡ false) × (b ≡ false)
or_none true b h = (cc, cc)
or_none false b h = (refl, h)

-- ---- the rule of a field

module _ (es : List Entry) (c : Context) (v : ℕ) where
  abbrev judge : Field → Option Kind
  judge f = broken paper c (rule_of f.sense) v

  -- 4
  pub header_sound : (f : Field) → HeaderField f → (f ≡ N_TOTAL → Pig es c) → c.level ≡ in_header → (k : Kind) → judge f ≡ some k
      → (Header ≡ k) × HeaderBroken es f v
  unfolding broken
  header_sound f q_updown w l k e = let h = unless_is (leb 1 v && leb v 1) Header k (rw l at e) in (h.1, updown (one_out 1 v h.0))
  header_sound f m_version w l k e = let h = unless_is (leb 16 v && leb v 16) Header k (rw l at e) in (h.1, version (one_out 16 v h.0))
  header_sound f q_media w l k e = let h = unless_is (leb 0 v && leb v 0) Header k (rw l at e) in (h.1, media (one_out 0 v h.0))
  header_sound f n_pig w l k e = none_some e
  header_sound f n_total w l k e =
      let h = unless_is (leb c.pig v) Header k e in
      let g = w refl in
      (h.1, headers.total g.before c.pig g.ends (leb-false c.pig v h.0))
  header_sound f m_dup w l k e = let h = unless_is (leb 0 v && leb v 2) Header k (rw l at e) in (h.1, dup (above (range_out 0 2 v h.0)))
    where
      above : (v < 0) ⊎ (2 < v) → 2 < v
      above (inl i) = absurd (omega arith)
      above (inr i) = i
  header_sound f m_mcount w l k e = none_some e
  header_sound f nid_c w l k e = none_some e
  header_sound f nid_bg w l k e = none_some e
  header_sound f q_link w l k e = none_some e

  pub header_complete : (f : Field) → HeaderBroken es f v → (f ≡ N_TOTAL → Pig es c) → c.level ≡ in_header → judge f ≡ some Header
  unfolding broken
  header_complete f (updown n) w l = rw (not_one 1 v n, l)
  header_complete f (version n) w l = rw (not_one 16 v n, l)
  header_complete f (media n) w l = rw (not_one 0 v n, l)
  header_complete f (dup n) w l = rw (out_range 0 2 v (inr n), l)
  header_complete f (headers.total b n e h) w l =
      let g = w refl in
      let i : n ≡ c.pig = ap (λ (x : Entry). x.value) (one_end b g.before _ _ (sym e ∙ g.ends)).1 in
      rw (lt-leb c.pig v (rw i at h))

  -- 6
  pub packet_sound : (k : Kind) → broken paper c packet v ≡ some k → (Unknown ≡ k) × Unlisted NID_PACKET v
  unfolding broken
  packet_sound k e =
      let h = unless_is (eqb v 255 || known (find v etcs)) Unknown k e in
      let o = or_none (eqb v 255) (known (find v etcs)) h.0 in
      (h.1, unlisted.packet ((etcs_none v).0 (known_none (find v etcs) o.1, eqb-false v 255 o.0)))

  pub user_sound : (k : Kind) → broken paper c user v ≡ some k → (Unknown ≡ k) × Unlisted NID_XUSER v
  unfolding broken
  user_sound k e = let h = unless_is (known (find v ctcs)) Unknown k e in (h.1, unlisted.user ((ctcs_none v).0 (known_none (find v ctcs) h.0)))

  pub unlisted_complete : (f : Field) → Unlisted f v → judge f ≡ some Unknown
  unfolding broken
  unlisted_complete f (unlisted.packet n) = let h = (etcs_none v).1 n in rw (ne_eqb v 255 h.1, h.0)
  unlisted_complete f (unlisted.user n) = rw ((ctcs_none v).1 n)

  -- 7, behind an L_PACKET
  pub body_sound : (f : Field) → Sort f → InBody f → forbidden c.level ≡ Value → (k : Kind) → judge f ≡ some k → (Value ≡ k) × Disallowed f v
  unfolding broken
  body_sound f (ranged {a = a} {b = b} r q) i l k e =
      let h = unless_is (leb a v && leb v b) Value k (rw (q, l) at e) in
      (h.1, outside r (range_out a b v h.0))
  body_sound f radioed i l k e =
      let h = unless_is (radio_from 16 false v) Value k e in
      (h.1, Disallowed.radio (λ r. let g = (radio_is v).1 r in let z : ◌≡◌ {A = ℕ} 0 1 = cc h.0 in omega arith))
  body_sound f (free q) i l k e = none_some (rw q at e)
  body_sound f directs i l k e = absurd i
  body_sound f sizes i l k e = absurd i
  body_sound f users i l k e = absurd i

  -- a Q_DIR
  pub direction_sound : (k : Kind) → broken paper c direction v ≡ some k → ((2 < v) × (Value ≡ k)) ⊎ ((v ≤ 2) × (misdirected paper c c.level v ≡ some k))
  unfolding broken
  direction_sound k = by_test (leb v 2) refl
    where
      by_test : (b : Bool) → leb v 2 ≡ b → cond b (misdirected paper c c.level v) (some Value) ≡ some k
          → ((2 < v) × (Value ≡ k)) ⊎ ((v ≤ 2) × (misdirected paper c c.level v ≡ some k))
      by_test true i h = inr (leb-true v 2 i, h)
      by_test false i h = inl (leb-false v 2 i, cc)

  -- 7, of any field of a packet
  pub disallowed_complete : (f : Field) → Disallowed f v → (12 ≤ f.number → c.level ≡ in_header → ⊥) → judge f ≡ some Value
  unfolding broken
  disallowed_complete f (outside {a = a} {b = b} r o) n = by_rule (range_rule r)
    where
      by_level : (l : Level) → c.level ≡ l → forbidden l ≡ Value
      by_level in_header e = absurd (n (range_number_lem r) e)
      by_level in_packet e = refl
      by_level in_user e = refl

      above : (a ≡ 0) × (b ≡ 2) → (v < a) ⊎ (b < v) → 2 < v
      above q (inl h) = absurd (omega arith)
      above q (inr h) = omega arith

      by_rule : (rule_of f.sense ≡ within a b) ⊎ (rule_of f.sense ≡ direction) → judge f ≡ some Value
      by_rule (inl e) = rw (e, out_range a b v o, by_level c.level refl)
      by_rule (inr e) = rw e ((order_value paper c v).1 (above (range_direction r e) o))
  disallowed_complete f (Disallowed.radio r) n = by_test (radio_from 16 false v) refl
    where
      by_test : (b : Bool) → radio_from 16 false v ≡ b → unless b Value ≡ some Value
      by_test true e = absurd (r ((radio_is v).0 e))
      by_test false e = refl
