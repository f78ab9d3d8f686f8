-- No two packets of a telegram collide, by any rule of directions: what breaks rule 10 is the Q_DIR of a packet that makes a pair with one
-- before it, and no pair is ever sent. Assumes nothing.
use mathlib.Core.Bool.{Bool, true}
use mathlib.Core.List.{List, [], ◌∷◌, ◌++◌, append_assoc}
use mathlib.Core.Option.{some, none}
use mathlib.Core.Path.{◌≡◌, refl, sym, ap, ◌∙◌, subst}
use Prim.Native.Nat.{ℕ, ◌≤◌}
use native.Mathlib.Omega.{arith}
use lib.Dec.{eqb}
use Rattle.format.specs.Among.{holding}
use Rattle.format.specs.Fields.{Field, NID_PACKET, Q_DIR}
use Rattle.format.specs.Rules.{State, Context, Terms, Level, step, field, rule_of, broken, among, collides_by}
use Rattle.format.specs.Rules.Level.{in_packet}
use Rattle.format.specs.Rules.Next.{over, breaks}
use Rattle.format.specs.Telegrams.{Entry, entry, bit_count, Run, Telegram, Fits}
use Rattle.format.specs.Telegrams.Run.{last, more}
use Rattle.format.specs.declared.Kind.{Kind}
use Rattle.format.specs.declared.Kind.TheVariants.{Repeated}
use Rattle.laws.proofs.Steps.{over_mark}
use Rattle.laws.proofs.Order.{order_repeated}
use Rattle.laws.proofs.Points.{Sends, Offends}
use Rattle.laws.proofs.Points.Offends.{packet_direction}
use Rattle.laws.proofs.Points.Sends.{nothing, one_more}
use Rattle.laws.proofs.Headed.{named_due}
use Rattle.laws.proofs.Standing.{apart}
use Rattle.laws.proofs.Offending.{offends}
use Rattle.laws.proofs.Pairs.{Met, Pair, later_at, met_grown, pair_grown, packet_made, pair_before, not_empty}
use Rattle.laws.proofs.Awaited.{Awaits}
use Rattle.laws.proofs.Awaited.Awaits.{begins, directs, goes_by}
use Rattle.laws.proofs.Recalled.{Recalls, met_before, begins_apart, sends_stands, sends_awaits, sends_recalls}
use Rattle.laws.proofs.Collided.{collides_is, allowed_apart, go_unbroken, breaks_repeated}

-- the terms of a rule of directions, wherever their refusals point
abbrev pub ruled : (Kind → State → ℕ) → (ℕ → ℕ → Bool) → Terms
ruled place collide = record { place_of = place; collides = collides_by collide }

-- a pair that the entry behind the others makes: it is the Q_DIR of the later packet, whose NID_PACKET ends the others
pub record NewPair (collide : ℕ → ℕ → Bool) (es : List Entry) (e : Entry) : Type 0 where
  pub pair : Pair collide (es ++ (e ∷ []))
  pub ends : es ≡ pair.later.before ++ (holding NID_PACKET pair.id ∷ [])
  pub last : pair.later.after ≡ []

-- it begins where the others end
pub new_pair_at : {collide : ℕ → ℕ → Bool} {es : List Entry} {e : Entry} (h : NewPair collide es e) → later_at h.pair ≡ bit_count es
new_pair_at h = ap bit_count (sym h.ends)

-- what is refused as 10 is the Q_DIR of a packet
direction_only : {f : Field} {l : Level} → Offends Repeated f l → (f ≡ Q_DIR) × (l ≡ in_packet)
direction_only packet_direction = (refl, refl)

module _ (place : Kind → State → ℕ) (collide : ℕ → ℕ → Bool) where
  abbrev p : Terms
  p = ruled place collide

  -- ---- what is refused as 10 makes a pair

  -- a packet that collides meets one that stands before its NID_PACKET
  pub collides_met : {es : List Entry} {c : Context} (b : List Entry) (n v : ℕ) → es ≡ b ++ (holding NID_PACKET n ∷ []) → Recalls es c
      → collides_by collide c v ≡ true → (n ≡ 44 → ⊥) × Met collide b n v
  collides_met {es} {c} b n v e r h =
      let i = r.identifies b n e in
      let w = (collides_is collide c v).0 h in
      let m = (r.met collide n v).0 (subst (λ (k : ℕ). among collide k v c.earlier ≡ true) i w.1) in (
        λ k. w.0 (i ∙ k),
        met_before collide n v (λ x f a j. apart NID_PACKET Q_DIR refl (ap (λ (y : Entry). y.field) f)) (rw e at m),
      )

  -- the entry of a value that collides makes a pair
  collides_pairs : {es : List Entry} {c : Context} (b : List Entry) (n v : ℕ) → es ≡ b ++ (holding NID_PACKET n ∷ []) → Recalls es c
      → collides_by collide c v ≡ true → NewPair collide es (holding Q_DIR v)
  collides_pairs b n v e r h =
      let w = collides_met b n v e r h in
      record { pair = record { id = n; dir = v; later = packet_made b v e; not_44 = w.0; earlier = w.1 }; ends = e; last = refl }

  -- what is refused as 10 makes a pair with a packet before
  pub repeated_pair : {es : List Entry} {s : State} {v : ℕ} → Sends p es s → step p s v ≡ breaks Repeated → NewPair collide es (entry s v)
  repeated_pair {es} {s} {v} h e = by_due (sends_awaits h)
    where
      is_broken : broken p s.context (rule_of (field s).sense) v ≡ some Repeated
      is_broken = breaks_repeated p s v e

      is : (field s ≡ Q_DIR) × (s.context.level ≡ in_packet)
      is = direction_only (offends p s v Repeated (sends_stands h) is_broken)

      collides : collides_by collide s.context v ≡ true
      collides = ((order_repeated p s.context v).0 (rw is.0 at is_broken)).2

      by_due : Awaits es s → NewPair collide es (entry s v)
      by_due (begins t) = absurd (apart NID_PACKET Q_DIR refl (rw t at is.0))
      by_due (directs g f l b n j) = rw (named_due s.todo v g ∙ f) (collides_pairs b n v j (sends_recalls h) collides)
      by_due (goes_by g w) = absurd (w.unruled (ap (λ (f : Field). rule_of f.sense) is.0) is.1)

  -- and it is one of the three directions: 7 comes before
  pub repeated_small : {es : List Entry} {s : State} {v : ℕ} → Sends p es s → step p s v ≡ breaks Repeated → v ≤ 2
  repeated_small {s = s} {v = v} h e =
      let b = breaks_repeated p s v e in
      let i = direction_only (offends p s v Repeated (sends_stands h) b) in
      ((order_repeated p s.context v).0 (rw i.0 at b)).0

  -- ---- no pair is sent

  -- a value that makes a pair is the Q_DIR of a packet that collides
  pub pair_collides : {es : List Entry} {s : State} {v : ℕ} (b : List Entry) (i d : ℕ) → Sends p es s → entry s v ≡ holding Q_DIR d
      → es ≡ b ++ (holding NID_PACKET i ∷ []) → (i ≡ 44 → ⊥) → Met collide b i d
      → (field s ≡ Q_DIR) × ((s.context.level ≡ in_packet) × (collides_by collide s.context v ≡ true))
  pair_collides {es} {s} {v} b i d h f j not_44 m = by_due (sends_awaits h)
    where
      r : Recalls es s.context
      r = sends_recalls h

      value_is : v ≡ d
      value_is = ap (λ (x : Entry). x.value) f

      collides : collides_by collide s.context v ≡ true
      collides =
          let k = r.identifies b i j in
          let a = (r.met collide i d).1 (rw j (met_grown m (holding NID_PACKET i ∷ []))) in
          (collides_is collide s.context v).1 (λ x. not_44 (sym k ∙ x), rw (k, value_is) a)

      by_due : Awaits es s → (field s ≡ Q_DIR) × ((s.context.level ≡ in_packet) × (collides_by collide s.context v ≡ true))
      by_due (begins t) = absurd (begins_apart (eqb v 255) (rw t at (ap (λ (x : Entry). x.field) f)))
      by_due (directs g w l a n k) = (w, (l, collides))
      by_due (goes_by g w) = absurd (w.undirected (sym (named_due s.todo v g) ∙ ap (λ (x : Entry). x.field) f) b i j)

  -- and so it is not allowed
  pair_broken : {es : List Entry} {s : State} {v : ℕ} (b : List Entry) (i d : ℕ) → Sends p es s
      → broken p s.context (rule_of (field s).sense) v ≡ none → entry s v ≡ holding Q_DIR d → es ≡ b ++ (holding NID_PACKET i ∷ [])
      → (i ≡ 44 → ⊥) → Met collide b i d → ⊥
  pair_broken {s = s} {v = v} b i d h e f j not_44 m =
      let w = pair_collides b i d h f j not_44 m in
      let free = allowed_apart p s.context v (rw w.0 at e) w.1.0 in
      let z : ◌≡◌ {A = ℕ} 0 1 = cc w.1.1 in
      omega arith

  -- entries that were sent have no pair
  pub sends_apart : {es : List Entry} {s : State} → Sends p es s → Pair collide es → ⊥
  sends_apart nothing h = not_empty h.later.before _ _ h.later.parts
  sends_apart (one_more {s = s} v {t = t} {c = c} w fits e) h =
      sends_apart w
      (pair_before h (λ f i. pair_broken h.later.before h.id h.dir w (go_unbroken p s v t c e) f i h.not_44 h.earlier))

  -- so a pair that the next entry makes is the first
  pub new_first : {es : List Entry} {s : State} {e : Entry} → Sends p es s → (w : NewPair collide es e) → Pair collide w.pair.later.before → ⊥
  new_first h w k = sends_apart h (subst (Pair collide) (sym w.ends) (pair_grown k (holding NID_PACKET w.pair.id ∷ [])))

-- ---- a run, as what was sent and the end mark

-- the entries before the end mark, and the state that they lead to
pub record Finished (p : Terms) (whole : List Entry) : Type 0 where
  pub sent : List Entry
  pub state : State
  pub value : ℕ
  pub sends : Sends p sent state
  pub fits : Fits state value
  pub marks : step p state value ≡ over
  pub ends : whole ≡ sent ++ (entry state value ∷ [])

-- a run from what was sent on ends in its end mark
run_finished : {p : Terms} {es : List Entry} {s : State} {rest : List Entry} → Sends p es s → Run p s rest → Finished p (es ++ rest)
run_finished {es = es} h (last {s = s} {v = v} f e) = record { sent = es; state = s; value = v; sends = h; fits = f; marks = e; ends = refl }
run_finished {p} {es} h (more {s = s} {v = v} {es = rest} f e r) =
    subst (Finished p) (append_assoc es (entry s v ∷ []) rest) (run_finished {es = es ++ (entry s v ∷ [])} (one_more v h f e) r)

-- and so does a telegram
pub finished : {p : Terms} {es : List Entry} → Telegram p es → Finished p es
finished r = run_finished nothing r

-- no telegram has a pair
pub telegram_apart : (place : Kind → State → ℕ) (collide : ℕ → ℕ → Bool) {es : List Entry} → Telegram (ruled place collide) es
    → Pair collide es → ⊥
telegram_apart place collide r h =
    let w = finished r in
    let m = over_mark (ruled place collide) w.state w.value w.marks in
    sends_apart place collide w.sends
    (pair_before (subst (Pair collide) w.ends h) (λ f i. begins_apart (eqb w.value 255) (rw m.0 at (ap (λ (x : Entry). x.field) f))))
