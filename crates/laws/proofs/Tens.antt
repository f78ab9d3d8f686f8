-- What a refusal as 10 is, in reading and in writing, by any rule of directions: the Q_DIR that is due makes the first pair of the entries that
-- were sent. Assumes nothing.
use mathlib.Core.Bool.{Bool}
use mathlib.Core.List.{List, [], ◌∷◌, ◌++◌, append_assoc}
use mathlib.Core.Logic.{◌↔◌}
use mathlib.Core.Option.{some}
use mathlib.Core.Path.{◌≡◌, sym, ap, ap₂, ◌∙◌, subst}
use Prim.Native.Nat.{ℕ, ◌≤◌}
use native.Mathlib.Omega.{arith}
use lib.ListN.{length}
use Rattle.bits.specs.Bits.{Below}
use Rattle.format.specs.Among.{holding, PacketIn}
use Rattle.format.specs.Fields.{NID_PACKET, Q_DIR}
use Rattle.format.specs.Rules.{State, Terms, step, field, rule_of, broken, collides_by, field_place}
use Rattle.format.specs.Rules.Next.{breaks}
use Rattle.format.specs.Telegrams.{Entry, entry, Taken, from_bits, from_values, bits_in, values_in, all, bit_count, read, write}
use Rattle.format.specs.Telegrams.Result.{refused}
use Rattle.format.specs.Telegrams.Taken.{got}
use Rattle.format.specs.declared.Kind.TheVariants.{Repeated}
use Rattle.format.specs.declared.Refusal.{Refusal}
use Rattle.laws.proofs.Order.{order_broken, order_repeated}
use Rattle.laws.proofs.Points.{Sends, Missing, Points, Pointed}
use Rattle.laws.proofs.Points.Points.{lacking, breaking, sizing, trailing}
use Rattle.laws.proofs.Offending.{offends}
use Rattle.laws.proofs.JustPointed.{read_refuses, write_refuses}
use Rattle.laws.proofs.Pairs.{Met, Pair, later_at, Order, one_end, pair_grown, packets_ordered}
use Rattle.laws.proofs.Pairs.Order.{same, ahead, behind}
use Rattle.laws.proofs.Recalled.{sends_stands}
use Rattle.laws.proofs.Apart.{ruled, NewPair, new_pair_at, repeated_pair, repeated_small, pair_collides, new_first}

-- the terms of a rule of directions, whose refusals point at their fields
abbrev pub directing : (ℕ → ℕ → Bool) → Terms
directing collide = ruled field_place collide

-- the refusal as 10 at the later packet's Q_DIR
abbrev pub repeated_at : {collide : ℕ → ℕ → Bool} {es : List Entry} → Pair collide es → Refusal
repeated_at h = record { kind = Repeated; place = later_at h }

-- ---- the first pair

-- a refusal as 10, at the Q_DIR that makes the first pair
pub record AtFirst (collide : ℕ → ℕ → Bool) (es : List Entry) (r : Refusal) : Type 0 where
  pub pair : Pair collide es
  pub first : Pair collide pair.later.before → ⊥
  pub is : r ≡ repeated_at pair

-- the later packet of one pair does not stand before that of another, if none does
not_ahead : {collide : ℕ → ℕ → Bool} {es : List Entry} (h k : Pair collide es) → (Pair collide k.later.before → ⊥)
    → (x : PacketIn k.later.before h.id h.dir) → x.before ≡ h.later.before → ⊥
not_ahead {collide} h k none x i =
    none
    (record {
      id = h.id;
      dir = h.dir;
      later = x;
      not_44 = h.not_44;
      earlier = subst (λ (l : List Entry). Met collide l h.id h.dir) (sym i) h.earlier;
    })

-- so there is one first pair, by its later packet, and one such refusal
pub one_first : {collide : ℕ → ℕ → Bool} {es : List Entry} {r q : Refusal} (h : AtFirst collide es r) (k : AtFirst collide es q)
    → (h.pair.later.before ≡ k.pair.later.before) × (r ≡ q)
one_first {r = r} {q = q} h k = by_order (packets_ordered h.pair.later k.pair.later)
  where
    by_order : Order h.pair.later.before k.pair.later.before h.pair.id h.pair.dir k.pair.id k.pair.dir
        → (h.pair.later.before ≡ k.pair.later.before) × (r ≡ q)
    by_order (same i n j) =
        (i, h.is ∙ ap₂ (λ (l : List Entry) (x : ℕ). record { kind = Repeated; place = bit_count (l ++ (holding NID_PACKET x ∷ [])) }) i n ∙ sym k.is)
    by_order (ahead x i) = absurd (not_ahead h.pair k.pair k.first x i)
    by_order (behind x i) = absurd (not_ahead k.pair h.pair h.first x i)

-- behind entries that were sent, a pair that the next entry makes is the first
abbrev pub first_made : (collide : ℕ → ℕ → Bool) {es : List Entry} {s : State} {e : Entry} → Sends (directing collide) es s → NewPair collide es e
    → AtFirst collide (es ++ (e ∷ [])) (record { kind = Repeated; place = bit_count es })
first_made collide h w =
    record {
      pair = w.pair;
      first = new_first field_place collide h w;
      is = ap (λ (x : ℕ). record { kind = Repeated; place = x }) (sym (new_pair_at w));
    }

-- and it is the first of more entries
abbrev pub first_grown : {collide : ℕ → ℕ → Bool} {es : List Entry} {r : Refusal} → AtFirst collide es r → (fs : List Entry) → AtFirst collide (es ++ fs) r
first_grown h fs = record { pair = pair_grown h.pair fs; first = h.first; is = h.is }

-- ---- what a refusal as 10 is

-- The entries before it were sent, and the value that is due is a direction; with it the entries have their first pair: it is the Q_DIR of the
-- later packet, behind which nothing was sent, and the refusal points at it.
pub record Repeats (collide : ℕ → ℕ → Bool) (source : State → List ℕ → Taken) (part : Entry → List ℕ) (whole : List ℕ) (r : Refusal) : Type 0 where
  pub sent : List Entry
  pub state : State
  pub left : List ℕ
  pub value : ℕ
  pub rest : List ℕ
  pub sends : Sends (directing collide) sent state
  pub front : whole ≡ all part sent ++ left
  pub takes : source state left ≡ got value rest
  pub allowed : value ≤ 2
  pub there : AtFirst collide (sent ++ (entry state value ∷ [])) r
  pub last : there.pair.later.after ≡ []

-- a field that could not be finished is no 10
not_missing : Missing Repeated → ⊥
not_missing m = elim m [ ]

-- entries whose last is the Q_DIR of a packet end in its NID_PACKET before it
last_packet : {es : List Entry} {e : Entry} {i d : ℕ} (h : PacketIn (es ++ (e ∷ [])) i d) → h.after ≡ []
    → (es ≡ h.before ++ (holding NID_PACKET i ∷ [])) × (e ≡ holding Q_DIR d)
last_packet {es} {e} {i} {d} h k =
    one_end es (h.before ++ (holding NID_PACKET i ∷ [])) e (holding Q_DIR d)
    (h.parts
    ∙ ap (λ (l : List Entry). h.before ++ holding NID_PACKET i ∷ holding Q_DIR d ∷ l) k
    ∙ sym (append_assoc h.before (holding NID_PACKET i ∷ []) (holding Q_DIR d ∷ [])))

module _ (collide : ℕ → ℕ → Bool) {source : State → List ℕ → Taken} {part : Entry → List ℕ} {whole : List ℕ} where
  -- where the value breaks rule 10, it makes the first pair
  repeats_here : {q : Refusal} (h : Pointed (directing collide) source part whole q) {v : ℕ} {ys : List ℕ} → source h.state h.left ≡ got v ys
      → step (directing collide) h.state v ≡ breaks Repeated
      → Repeats collide source part whole (record { kind = Repeated; place = bit_count h.sent })
  repeats_here h {v} {ys} e f =
      let w = repeated_pair field_place collide h.sends f in
      record {
        sent = h.sent;
        state = h.state;
        left = h.left;
        value = v;
        rest = ys;
        sends = h.sends;
        front = h.front;
        takes = e;
        allowed = repeated_small field_place collide h.sends f;
        there = first_made collide h.sends w;
        last = w.last;
      }

  pub pointed_repeats : {r : Refusal} → Pointed (directing collide) source part whole r → r.kind ≡ Repeated → Repeats collide source part whole r
  pointed_repeats h = by_points h.points
    where
      by_points : {r : Refusal} → Points (directing collide) source h.sent h.state h.left r → r.kind ≡ Repeated
          → Repeats collide source part whole r
      by_points (lacking e m) i = absurd (not_missing (rw i at m))
      by_points (breaking e f o) i = rw i (repeats_here h e (rw i at f))
      by_points (sizing e f w) i = let z : ◌≡◌ {A = ℕ} 0 1 = cc in absurd (omega arith)
      by_points (trailing e f) i = let z : ◌≡◌ {A = ℕ} 0 1 = cc in absurd (omega arith)

  -- and where it makes the first pair, it breaks rule 10
  pub repeats_pointed : {r : Refusal} → Repeats collide source part whole r → Pointed (directing collide) source part whole r × (r.kind ≡ Repeated)
  repeats_pointed {r} h =
      let k = h.there.pair in
      let l = last_packet k.later h.last in
      let w = pair_collides field_place collide k.later.before k.id k.dir h.sends l.1 l.0 k.not_44 k.earlier in
      let b = (order_repeated (directing collide) h.state.context h.value).1 (h.allowed, w.1.0, w.1.1) in
      let c : broken (directing collide) h.state.context (rule_of (field h.state).sense) h.value ≡ some Repeated = rw w.0 b in
      let o = offends (directing collide) h.state h.value Repeated (sends_stands h.sends) c in
      let p = breaking h.takes (order_broken (directing collide) h.state h.value Repeated c) o in
      let i : record { kind = Repeated; place = bit_count h.sent } ≡ r =
      ap (λ (x : List Entry). record { kind = Repeated; place = bit_count x }) l.0 ∙ sym h.there.is in (
        subst (Pointed (directing collide) source part whole) i
            (record { sent = h.sent; state = h.state; left = h.left; sends = h.sends; front = h.front; points = p }),
        ap (λ (q : Refusal). q.kind) h.there.is,
      )

-- ---- reading and writing

module _ (collide : ℕ → ℕ → Bool) where
  pub read_repeats : (bs : List ℕ) → Below 2 bs → length bs ≤ 830 → (r : Refusal)
      → ((read (directing collide) bs ≡ refused r) × (r.kind ≡ Repeated)) ↔ Repeats collide from_bits bits_in bs r
  read_repeats bs b n r =
      let k = read_refuses (collides_by collide) bs b n r in
      (λ h. pointed_repeats collide (k.0 h.0) h.1, λ h. let w = repeats_pointed collide h in (k.1 w.0, w.1))

  pub write_repeats : (vs : List ℕ) (r : Refusal)
      → ((write (directing collide) vs ≡ refused r) × (r.kind ≡ Repeated)) ↔ Repeats collide from_values values_in vs r
  write_repeats vs r =
      let k = write_refuses (collides_by collide) vs r in
      (λ h. pointed_repeats collide (k.0 h.0) h.1, λ h. let w = repeats_pointed collide h in (k.1 w.0, w.1))
