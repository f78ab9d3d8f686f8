-- docs/RULES.md, "Order", asked for as "At one field: 5, 12, 13, then 4, 6 or 7, then 9 (inner Q_DIR) or 10 (outer Q_DIR). 8 is tested after a packet's last
-- field". The order of the rules at one field, for any terms. Assumes nothing.
use mathlib.Core.Bool.{Bool, true, false, cond, not, ◌&&◌, ◌||◌}
use mathlib.Core.List.{List, [], ◌∷◌}
use mathlib.Core.Logic.{◌↔◌, ◌≢◌}
use mathlib.Core.Option.{Option, some, none}
use mathlib.Core.Path.{◌≡◌, refl, ap}
use Prim.Native.Nat.{ℕ, zero, suc, ◌^◌, ◌≤◌, ◌<◌}
use native.Mathlib.Omega.{arith}
use borrow.Author.Tests.{leb-true, leb-false, le-leb, lt-leb, lt-ltb, le-ltb, eqb-false, ne_eqb, not-false}
use lib.Dec.{eqb, leb}
use lib.ListN.{length}
use Rattle.format.specs.Fields.{Rule}
use Rattle.format.specs.Fields.Rule.{any, packet, user, direction, size, pig, total, radio, within}
use Rattle.format.specs.Packets.{Items, find, etcs, ctcs}
use Rattle.format.specs.Packets.Items.{end, nest, send, send_if, send_either, send_times}
use Rattle.format.specs.Refusals.{number_of}
use Rattle.format.specs.Rules.{Terms, State, Context, Level, field, past, next, rule_of, known, unless, forbidden, radio_from, misdirected, broken, noted, closes, fresh, settled, onward, verdict, step}
use Rattle.format.specs.Rules.Level.{in_header, in_packet, in_user}
use Rattle.format.specs.Rules.Next.{go, breaks}
use Rattle.format.specs.Telegrams.{from_bits, from_values, refusal, drive}
use Rattle.format.specs.Telegrams.Driven.{stopped}
use Rattle.format.specs.declared.Kind.{Kind}
use Rattle.format.specs.declared.Kind.TheVariants.{Header, Ended, Unknown, Value, Length, Direction, Repeated, Wide, Full}

-- ---- the order of the rules at one field
-- "At one field: 5, 12, 13, then 4, 6 or 7, then 9 (inner Q_DIR) or 10 (outer Q_DIR). 8 is tested after a packet's last field"

module _ (p : Terms) (s : State) where
  -- 5 first: where the bits end inside the field that is due, no other rule is asked
  pub order_bits_ended : (k : ℕ) (bs : List ℕ) → length bs < (field s).width → drive p from_bits k s bs ≡ stopped (refusal p Ended s)
  unfolding drive from_bits
  order_bits_ended zero bs h = refl
  order_bits_ended (suc k) bs h = rw (lt-leb (field s).width (length bs) h)

  -- and where there is no value
  pub order_values_ended : (k : ℕ) → drive p from_values k s [] ≡ stopped (refusal p Ended s)
  unfolding drive from_values
  order_values_ended zero = refl
  order_values_ended (suc k) = refl

  -- then 12, whether or not the field ends past bit 830
  pub order_wide : (k v : ℕ) (vs : List ℕ) → 2 ^ (field s).width ≤ v → drive p from_values (suc k) s (v ∷ vs) ≡ stopped (refusal p Wide s)
  unfolding drive from_values
  order_wide k v vs h = rw (le-ltb v (2 ^ (field s).width) h)

  -- then 13
  pub order_full : (k v : ℕ) (vs : List ℕ) → v < 2 ^ (field s).width → 830 < past s
      → drive p from_values (suc k) s (v ∷ vs) ≡ stopped (refusal p Full s)
  unfolding drive from_values
  order_full k v vs h g = rw (lt-ltb v (2 ^ (field s).width) h, lt-leb (past s) 830 g)

pub unless_is : (b : Bool) (k j : Kind) → unless b k ≡ some j → (b ≡ false) × (k ≡ j)
unless_is true k j h = (cc, cc)
unless_is false k j h = (refl, cc)

-- the rules of a value: 4, 6, 7, 9 and 10
pub data OfValue : Kind → Type 0 where
  by_header : OfValue Header
  by_unknown : OfValue Unknown
  by_value : OfValue Value
  by_direction : OfValue Direction
  by_repeated : OfValue Repeated

module _ (k : Kind) where
  nothing : none ≡ some k → OfValue k
  nothing h = let z : ◌≡◌ {A = ℕ} 0 1 = cc in absurd (omega arith)

  given : (b : Bool) (j : Kind) → OfValue j → unless b j ≡ some k → OfValue k
  given b j o h = rw (← (unless_is b j k h).1) o

pub broken_of_value : (p : Terms) (c : Context) (r : Rule) (v : ℕ) (k : Kind) → broken p c r v ≡ some k → OfValue k
unfolding broken misdirected
broken_of_value p c any v k h = nothing k h
broken_of_value p c packet v k h = given k (eqb v 255 || known (find v etcs)) Unknown by_unknown h
broken_of_value p c user v k h = given k (known (find v ctcs)) Unknown by_unknown h
broken_of_value p c direction v k h = directed (leb v 2) c.level h
  where
    directed : (a : Bool) (l : Level) → cond a (misdirected p c l v) (some Value) ≡ some k → OfValue k
    directed false l h = given k false Value by_value h
    directed true in_header h = nothing k h
    directed true in_packet h = given k (not (p.collides c v)) Repeated by_repeated h
    directed true in_user h = given k (eqb v c.dir) Direction by_direction h
broken_of_value p c size v k h = nothing k h
broken_of_value p c pig v k h = nothing k h
broken_of_value p c total v k h = given k (leb c.pig v) Header by_header h
broken_of_value p c radio v k h = given k (radio_from 16 false v) Value by_value h
broken_of_value p c (within a b) v k h = given k (leb a v && leb v b) (forbidden c.level) (levelled c.level) h
  where
    levelled : (l : Level) → OfValue (forbidden l)
    levelled in_header = by_header
    levelled in_packet = by_value
    levelled in_user = by_value

-- none of 1, 2 and 3, nor 8
pub of_value_number : {k : Kind} → OfValue k → (3 < number_of k) × (number_of k ≢ 8)
of_value_number by_header = (omega arith, λ e. omega arith)
of_value_number by_unknown = (omega arith, λ e. omega arith)
of_value_number by_value = (omega arith, λ e. omega arith)
of_value_number by_direction = (omega arith, λ e. omega arith)
of_value_number by_repeated = (omega arith, λ e. omega arith)

-- after a value that breaks no rule, only 8 can be given: nothing is left to send, and a length is wrong
pub onward_breaks : (at : ℕ) (o : Option Items) (c : Context) (k : Kind) → onward at o c ≡ breaks k
    → (k ≡ Length) × (o ≡ some end) × (closes at c c.level ≡ false)
unfolding onward settled
onward_breaks at none c k h = (cc, cc, cc)
onward_breaks at (some end) c k h = let e = by_test (closes at c c.level) h in (e.0, refl, e.1)
  where
    by_test : (b : Bool) → cond b (go end (fresh at c)) (breaks Length) ≡ breaks k → (k ≡ Length) × (b ≡ false)
    by_test true h = (cc, cc)
    by_test false h = (cc, refl)
onward_breaks at (some nest) c k h = (cc, cc, cc)
onward_breaks at (some (send f r)) c k h = (cc, cc, cc)
onward_breaks at (some (send_if d f r)) c k h = (cc, cc, cc)
onward_breaks at (some (send_either d a b)) c k h = (cc, cc, cc)
onward_breaks at (some (send_times d g r)) c k h = (cc, cc, cc)

-- the rule of the field that is due, and what its value leaves for later rules
abbrev pub rule_due : State → Rule
rule_due s = rule_of (field s).sense

abbrev pub noted_at : State → ℕ → Context
noted_at s v = noted (rule_due s) s.context s.at v

module _ (p : Terms) (s : State) (v : ℕ) where
  -- a rule of the value, 4, 6, 7, 9 or 10, before 8: whatever the lengths are
  pub order_broken : (k : Kind) → broken p s.context (rule_due s) v ≡ some k → step p s v ≡ breaks k
  unfolding step
  order_broken k h = rw h

  by_rule : (o : Option Kind) → broken p s.context (rule_due s) v ≡ o
      → verdict o (onward (past s) (next s.todo v) (noted_at s v)) ≡ breaks Length
      → (broken p s.context (rule_due s) v ≡ none) × (next s.todo v ≡ some end) × (closes (past s) (noted_at s v) (noted_at s v).level ≡ false)
  by_rule none e h = let l = onward_breaks (past s) (next s.todo v) (noted_at s v) Length h in (e, l.1, l.2)
  by_rule (some k) e h =
      let q : k ≡ Length = cc in
      absurd ((of_value_number (broken_of_value p s.context (rule_due s) v k e)).1 (ap number_of q))

  -- 8 just where the value breaks no rule, it was the last field of a packet, and that or the one around it is not as long as it says
  pub order_length : (step p s v ≡ breaks Length)
      ↔ ((broken p s.context (rule_due s) v ≡ none) × (next s.todo v ≡ some end) × (closes (past s) (noted_at s v) (noted_at s v).level ≡ false))
  unfolding step onward settled
  order_length = (by_rule (broken p s.context (rule_due s) v) refl, λ h. rw (h.0, h.1, h.2))

module _ (p : Terms) (c : Context) (v : ℕ) where
  over_two : (a : Bool) (l : Level) → cond a (misdirected p c l v) (some Value) ≡ some Value → a ≡ false
  unfolding misdirected
  over_two false l h = refl
  over_two true in_header h = cc
  over_two true in_packet h = cc (unless_is (not (p.collides c v)) Repeated Value h).1
  over_two true in_user h = cc (unless_is (eqb v c.dir) Direction Value h).1

  -- at Q_DIR, 7 just where the value is above 2, whatever collides or differs
  pub order_value : (broken p c direction v ≡ some Value) ↔ (2 < v)
  unfolding broken
  order_value = (λ h. leb-false v 2 (over_two (leb v 2) c.level h), λ h. rw (lt-leb v 2 h))

  repeated_is : (a : Bool) (l : Level) → cond a (misdirected p c l v) (some Value) ≡ some Repeated
      → (a ≡ true) × (l ≡ in_packet) × (not (p.collides c v) ≡ false)
  unfolding misdirected
  repeated_is false l h = (cc, cc, cc)
  repeated_is true in_header h = (cc, cc, cc)
  repeated_is true in_packet h = (refl, refl, (unless_is (not (p.collides c v)) Repeated Repeated h).0)
  repeated_is true in_user h = let e = (unless_is (eqb v c.dir) Direction Repeated h).1 in (cc, cc, cc)

  is_repeated : (l : Level) → l ≡ in_packet → p.collides c v ≡ true → misdirected p c l v ≡ some Repeated
  unfolding misdirected
  is_repeated in_header e h = cc
  is_repeated in_packet e h = rw h
  is_repeated in_user e h = cc

  -- then 10, at the Q_DIR of a packet
  pub order_repeated : (broken p c direction v ≡ some Repeated) ↔ ((v ≤ 2) × (c.level ≡ in_packet) × (p.collides c v ≡ true))
  unfolding broken
  order_repeated = (
    λ h. let r = repeated_is (leb v 2) c.level h in (leb-true v 2 r.0, r.1, not-false (p.collides c v) r.2),
    λ h. rw (le-leb v 2 h.0) (is_repeated c.level h.1 h.2),
  )

  direction_is : (a : Bool) (l : Level) → cond a (misdirected p c l v) (some Value) ≡ some Direction
      → (a ≡ true) × (l ≡ in_user) × (eqb v c.dir ≡ false)
  unfolding misdirected
  direction_is false l h = (cc, cc, cc)
  direction_is true in_header h = (cc, cc, cc)
  direction_is true in_packet h = let e = (unless_is (not (p.collides c v)) Repeated Direction h).1 in (cc, cc, cc)
  direction_is true in_user h = (refl, refl, (unless_is (eqb v c.dir) Direction Direction h).0)

  is_direction : (l : Level) → l ≡ in_user → eqb v c.dir ≡ false → misdirected p c l v ≡ some Direction
  unfolding misdirected
  is_direction in_header e h = cc
  is_direction in_packet e h = cc
  is_direction in_user e h = rw h

  -- or 9, at that of a CTCS packet
  pub order_direction : (broken p c direction v ≡ some Direction) ↔ ((v ≤ 2) × (c.level ≡ in_user) × (v ≢ c.dir))
  unfolding broken
  order_direction = (
    λ h. let r = direction_is (leb v 2) c.level h in (leb-true v 2 r.0, r.1, eqb-false v c.dir r.2),
    λ h. rw (le-leb v 2 h.0) (is_direction c.level h.1 (ne_eqb v c.dir h.2)),
  )
