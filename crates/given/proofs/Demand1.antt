-- Demand 1: "Each refusal has a number and a place by fixed rules, is given exactly when its rule is broken first", in reading and in writing. Assumes
-- nothing.
use mathlib.Core.Bool.{Bool, true, false}
use mathlib.Core.List.{List, [], ◌∷◌, ◌++◌}
use mathlib.Core.Logic.{◌↔◌}
use mathlib.Core.Option.{Option, some, none}
use mathlib.Core.Path.{◌≡◌, refl, sym, ap, ◌∙◌, subst}
use Prim.Native.Nat.{ℕ, ◌+◌, ◌^◌, ◌≤◌, ◌<◌}
use native.Mathlib.Omega.{arith}
use borrow.Author.Tests.{leb-true, leb-false, ltb-true, ltb-false}
use lib.Dec.{leb, ltb}
use lib.ListN.{length}
use Rattle.bits.specs.Bits.{Below}
use Rattle.format.specs.Fields.{Field}
use Rattle.format.specs.Packets.{Items, find, etcs}
use Rattle.format.specs.Packets.Items.{end}
use Rattle.format.specs.Rules.{State, Level, Next, field, due, next, rule_of, broken, past, onward, step, clash, collides_by, paper}
use Rattle.format.specs.Rules.Next.{over, breaks}
use Rattle.format.specs.Telegrams.{Entry, entry, bit_count, read, write}
use Rattle.format.specs.Telegrams.Result.{refused}
use Rattle.format.specs.Telegrams.Taken.{got, lacks}
use Rattle.format.specs.declared.Kind.{Kind}
use Rattle.format.specs.declared.Kind.TheVariants.{Header, Unknown, Value, Length, Direction, Repeated, Trailing, Wide, Full}
use Rattle.format.specs.declared.Refusal.{Refusal}
use Rattle.laws.proofs.Steps.{Stepped, stepped, over_mark}
use Rattle.laws.proofs.Steps.Settled.{on, closed, misfitted}
use Rattle.laws.proofs.Steps.Stepped.{forbidden, marked, noticed}
use Rattle.laws.proofs.Sources.{width_named}
use Rattle.laws.proofs.Tile.{bits_more}
use Rattle.laws.proofs.Order.{broken_of_value, order_broken, order_length}
use Rattle.laws.proofs.Points.{Sends, Offends, Points, Pointed}
use Rattle.laws.proofs.Points.Missing.{ended, wide, full}
use Rattle.laws.proofs.Points.Points.{lacking, breaking, sizing, trailing}
use Rattle.laws.proofs.Pointed.{sends_at}
use Rattle.laws.proofs.Offending.{offends}
use Rattle.laws.proofs.Recalled.{sends_stands}
use Rattle.laws.proofs.JustPointed.{read_refuses, write_refuses}
use Rattle.given.specs.Broken.{Breaks, Medium, part_in, NextIs, Broken}
use Rattle.given.specs.Broken.Breaks.{four, six, seven, eight, nine, ten, twelve, thirteen}
use Rattle.given.specs.Broken.Medium.{in_bits, in_values}
use Rattle.given.specs.Broken.Broken.{by_value, five, eleven}
use Rattle.given.specs.Given.{rank, Given}
use Rattle.given.proofs.Ruled.{forbidden_breaks, four_forbids, six_forbids, seven_forbids, nine_forbids, ten_forbids}
use Rattle.given.proofs.Lengths.{sized_wrong, eight_breaks}
use Rattle.given.proofs.Lawfully.{breaks_rank, fitting_rank, value_rank, direction_over, repeat_over, told_first, length_first, over_keeps, sends_lawful, lawful_sends}
use Rattle.given.proofs.Media.{source_in, GoodIn, Sound, sound_good, given_hand, hand_given, one_hand, ends_lacks, lacks_ends, wide_lacks, lacks_wide, lacks_full, full_source}

-- ---- the order of all the rules

pub broken_rank : {m : Medium} {es : List Entry} {t : Items} {left : List ℕ} {k : Kind} {x : ℕ} → Broken m es t left k x → 1 ≤ rank k
broken_rank (by_value v rest h b) = let r = breaks_rank b in omega arith
broken_rank (five e) = omega arith
broken_rank (eleven y rest i h) = omega arith

not_length : {f : Field} {l : Level} → Offends Length f l → ⊥
not_length o = elim o [ ]

-- the end mark
pub mark_over : (s : State) → s.todo ≡ end → step paper s 255 ≡ over
unfolding step broken next find etcs onward
mark_over s i = rw i refl

module _ (m : Medium) {es : List Entry} {s : State} (left : List ℕ) (h : Sends paper es s) (g : GoodIn m s left) where
  abbrev Here : Kind → ℕ → Type 0
  Here k x = Broken m es s.todo left k x

  abbrev First : Kind → Type 0
  First k = (j : Kind) (x : ℕ) → Here j x → rank k ≤ rank j

  at_past : past s ≡ bit_count es + (field s).width
  at_past = ap (λ (n : ℕ). n + (field s).width) (sends_at h)

  -- ---- what is pointed at is broken first

  lacking_wide : source_in m s left ≡ lacks Wide → First Wide
  lacking_wide e j x (by_value v rest q b) = (breaks_rank b).0
  lacking_wide e j x (five q) = let i = ends_lacks m s left q in let z : ◌≡◌ {A = ℕ} 0 1 = cc in absurd (omega arith)
  lacking_wide e j x (eleven y rest i q) = omega arith

  lacking_full : source_in m s left ≡ lacks Full → First Full
  lacking_full e j x (by_value v rest q b) =
      fitting_rank (λ l. let i = wide_lacks m s v left rest q l in let z : ◌≡◌ {A = ℕ} 0 1 = cc in omega arith) b
  lacking_full e j x (five q) = let i = ends_lacks m s left q in let z : ◌≡◌ {A = ℕ} 0 1 = cc in absurd (omega arith)
  lacking_full e j x (eleven y rest i q) = omega arith

  -- where a value is given, only its own rules and 11 can be broken
  given_first : (v : ℕ) (ys : List ℕ) → source_in m s left ≡ got v ys → (k : Kind) → rank k ≤ 7
      → ((j : Kind) (x : ℕ) → Breaks es s.todo v j x → rank k ≤ rank j) → First k
  given_first v ys e k r f j x (by_value u rest q b) =
      let i = one_hand m s v u left ys rest g e q in
      f j x (subst (λ (n : ℕ). Breaks es s.todo n j x) i b)
  given_first v ys e k r f j x (five q) = let i = ends_lacks m s left q in let z : ◌≡◌ {A = ℕ} 0 1 = cc in absurd (omega arith)
  given_first v ys e k r f j x (eleven y rest i q) = omega arith

  judged_kind : (v : ℕ) (k : Kind) → step paper s v ≡ breaks k → (k ≡ Length → ⊥) → broken paper s.context (rule_of (field s).sense) v ≡ some k
  judged_kind v k f n = by_way (stepped paper s v) f
    where
      by_way : {a : Next} → Stepped paper s v a → a ≡ breaks k → broken paper s.context (rule_of (field s).sense) v ≡ some k
      by_way (forbidden b) i = cc
      by_way (marked b j) i = cc
      by_way (noticed b j (on q)) i = cc
      by_way (noticed b j (closed q)) i = cc
      by_way (noticed b j (misfitted q w)) i = absurd (n (cc))

  pub points_first : {r : Refusal} → Points paper (source_in m) es s left r → Here r.kind r.place × First r.kind
  points_first (lacking e ended) = (five (lacks_ends m s left e), λ j x b. broken_rank b)
  points_first (lacking e wide) = let w = lacks_wide m s left e in (by_value w.value w.rest w.hand (twelve w.wide), lacking_wide e)
  points_first (lacking e full) =
      let w = lacks_full m s left e in
      let a = at_past in
      (by_value w.value w.rest w.hand (thirteen (omega (arith, w.full))), lacking_full e)
  points_first (breaking {v = v} {ys = ys} {k = k} e f o) =
      let q = judged_kind v k f (λ i. not_length (rw i at o)) in
      let b = forbidden_breaks h v k q in
      let r = breaks_rank b in
      let i = given_hand m s v left ys g e in
      (by_value v ys i.0 b, given_first v ys e k (omega arith) (told_first h v i.1 k q))
  points_first (sizing {v = v} {x = x} {ys = ys} e f w) =
      let q = (order_length paper s v).0 f in
      let i = given_hand m s v left ys g e in
      (by_value v ys i.0 (eight q.1 (sized_wrong h v q.0 q.1 w)), given_first v ys e Length (omega arith) (length_first h v i.1 q.0))
  points_first (trailing {v = v} {y = y} {ys = ys} e f) =
      let q = over_mark paper s v f in
      let i = given_hand m s v left (y ∷ ys) g e in
      let hand = subst (λ (n : ℕ). NextIs m (field s) left n (y ∷ ys)) q.1 i.0 in
      let wid : (entry s v).field.width ≡ 8 = width_named s.todo v ∙ ap (λ (t : Items). (due t).width) q.0 in
      let at : bit_count es + 8 ≡ bit_count (es ++ (entry s v ∷ [])) = omega (arith, bits_more es (entry s v)) in (
        subst (λ (n : ℕ). Here Trailing n) at (eleven y ys q.0 hand),
        given_first v (y ∷ ys) e Trailing (omega arith) (λ j x b. absurd (over_keeps h v i.1 f j x b)),
      )

  -- ---- what is broken first is pointed at

  abbrev Pointing : Kind → ℕ → Type 0
  Pointing k x = Points paper (source_in m) es s left (record { kind = k; place = x })

  -- the value at hand, where neither 12 nor 13 is broken first
  module _ (v : ℕ) (rest : List ℕ) (hand : NextIs m (field s) left v rest) where
    small_there : (k : Kind) → First k → 3 ≤ rank k → v < 2 ^ (field s).width
    small_there k f r = by_test (ltb v (2 ^ (field s).width)) refl
      where
        by_test : (b : Bool) → ltb v (2 ^ (field s).width) ≡ b → v < 2 ^ (field s).width
        by_test true e = ltb-true v (2 ^ (field s).width) e
        by_test false e = let q = f Wide (bit_count es) (by_value v rest hand (twelve (ltb-false v (2 ^ (field s).width) e))) in absurd (omega arith)

    room_there : (k : Kind) → First k → 4 ≤ rank k → past s ≤ 830
    room_there k f r = by_test (leb (past s) 830) refl
      where
        by_test : (b : Bool) → leb (past s) 830 ≡ b → past s ≤ 830
        by_test true e = leb-true (past s) 830 e
        by_test false e =
            let l = leb-false (past s) 830 e in
            let a = at_past in
            let q = f Full (bit_count es) (by_value v rest hand (thirteen (omega arith))) in
            absurd (omega arith)

    given_there : (k : Kind) → First k → 4 ≤ rank k → source_in m s left ≡ got v rest
    given_there k f r = hand_given m s v left rest hand (record { small = small_there k f (omega arith); room = room_there k f r })

    -- a Q_DIR above 2 breaks 7 before 9 or 10
    two_there : (k : Kind) → First k → 5 ≤ rank k → (2 < v → Breaks es s.todo v Value (bit_count es)) → v ≤ 2
    two_there k f r b = by_test (leb v 2) refl
      where
        by_test : (x : Bool) → leb v 2 ≡ x → v ≤ 2
        by_test true e = leb-true v 2 e
        by_test false e = let q = f Value (bit_count es) (by_value v rest hand (b (leb-false v 2 e))) in absurd (omega arith)

    told_there : (k : Kind) → First k → 4 ≤ rank k → broken paper s.context (rule_of (field s).sense) v ≡ some k → Pointing k (bit_count es)
    told_there k f r q = breaking (given_there k f r) (order_broken paper s v k q) (offends paper s v k (sends_stands h) q)

    none_there : First Length → broken paper s.context (rule_of (field s).sense) v ≡ none
    none_there f = by_judge (broken paper s.context (rule_of (field s).sense) v) refl
      where
        by_judge : (o : Option Kind) → broken paper s.context (rule_of (field s).sense) v ≡ o → broken paper s.context (rule_of (field s).sense) v ≡ none
        by_judge none e = e
        by_judge (some j) e =
            let q = f j (bit_count es) (by_value v rest hand (forbidden_breaks h v j e)) in
            let r = value_rank (broken_of_value paper s.context (rule_of (field s).sense) v j e) in
            absurd (omega arith)

    value_points : {k : Kind} {x : ℕ} → First k → Breaks es s.todo v k x → Pointing k x
    value_points f (four w) = told_there Header f (omega arith) (four_forbids h v w)
    value_points f (six w) = told_there Unknown f (omega arith) (six_forbids h v w)
    value_points f (seven w) = told_there Value f (omega arith) (seven_forbids h v w)
    value_points f (eight n w) = let q = eight_breaks h v (none_there f) n w in sizing (given_there Length f (omega arith)) q.0 q.1
    value_points f (nine w) =
        told_there Direction f (omega arith) (nine_forbids h v w (two_there Direction f (omega arith) (λ l. seven (direction_over w l))))
    value_points f (ten w) =
        told_there Repeated f (omega arith) (ten_forbids h v w (two_there Repeated f (omega arith) (λ l. seven (repeat_over w l))))
    value_points f (twelve l) = lacking (wide_lacks m s v left rest hand l) wide
    value_points f (thirteen l) =
        let a = at_past in
        lacking (full_source m s v left rest g hand (small_there Full f (omega arith)) (omega arith)) full

  pub first_points : {k : Kind} {x : ℕ} → Here k x → First k → Pointing k x
  first_points (by_value v rest hand b) f = value_points v rest hand f b
  first_points (five e) f = lacking (ends_lacks m s left e) ended
  first_points (eleven y rest i hand) f =
      let wid : (entry s 255).field.width ≡ 8 = width_named s.todo 255 ∙ ap (λ (t : Items). (due t).width) i in
      let at : bit_count (es ++ (entry s 255 ∷ [])) ≡ bit_count es + 8 = omega (arith, bits_more es (entry s 255)) in
      subst (λ (n : ℕ). Pointing Trailing n) at (trailing (given_there 255 (y ∷ rest) hand Trailing f (omega arith)) (mark_over s i))

-- ---- the whole source

module _ (m : Medium) (whole : List ℕ) (sound : Sound m whole) where
  pub pointed_given : {r : Refusal} → Pointed paper (source_in m) (part_in m) whole r → Given m whole r
  pointed_given q =
      let good = sound_good m whole sound q.sent q.state q.left (sends_at q.sends) q.front in
      let w = points_first m q.left q.sends good q.points in
      record {
        sent = q.sent;
        todo = q.state.todo;
        left = q.left;
        lawful = sends_lawful q.sends;
        front = q.front;
        broken = w.0;
        first = w.1;
      }

  pub given_pointed : {r : Refusal} → Given m whole r → Pointed paper (source_in m) (part_in m) whole r
  given_pointed {r} q =
      let w = lawful_sends q.lawful in
      let good = sound_good m whole sound q.sent w.state q.left (sends_at w.sends) q.front in
      let b = subst (λ t. Broken m q.sent t q.left r.kind r.place) (sym w.todo) q.broken in
      let f = subst (λ t. (k : Kind) (x : ℕ) → Broken m q.sent t q.left k x → rank r.kind ≤ rank k) (sym w.todo) q.first in
      record {
        sent = q.sent;
        state = w.state;
        left = q.left;
        sends = w.sends;
        front = q.front;
        points = first_points m q.left w.sends good b f;
      }

-- reading refuses just where a rule is broken first, by its kind and at its place
pub read_given : (bs : List ℕ) → Below 2 bs → length bs ≤ 830 → (r : Refusal) → (read paper bs ≡ refused r) ↔ Given in_bits bs r
read_given bs b n r =
    let q = read_refuses (collides_by clash) bs b n r in
    (λ e. pointed_given in_bits bs (b, n) (q.0 e), λ w. q.1 (given_pointed in_bits bs (b, n) w))

-- and so does writing
pub write_given : (vs : List ℕ) (r : Refusal) → (write paper vs ≡ refused r) ↔ Given in_values vs r
write_given vs r =
    let q = write_refuses (collides_by clash) vs r in
    (λ e. pointed_given in_values vs tt (q.0 e), λ w. q.1 (given_pointed in_values vs tt w))
