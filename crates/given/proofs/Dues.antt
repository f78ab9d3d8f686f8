-- What the items that are left say of the entries that were sent: which fields can be due, and N_PIG right before N_TOTAL. Assumes nothing.
use mathlib.Core.Bool.{false}
use mathlib.Core.List.{List, [], ◌∷◌, ◌++◌}
use mathlib.Core.Option.{some}
use mathlib.Core.Path.{◌≡◌, refl, ◌∙◌}
use Prim.Native.Nat.{ℕ}
use native.Mathlib.Omega.{arith}
use lib.Dec.{T, eqb}
use Rattle.format.specs.Among.{holding}
use Rattle.format.specs.Fields.{Field, N_PIG, N_TOTAL, NID_PACKET}
use Rattle.format.specs.Fields.Rule.{pig}
use Rattle.format.specs.Packets.{Items, header}
use Rattle.format.specs.Packets.Items.{end, nest, send, send_if, send_either, send_times}
use Rattle.format.specs.Rules.{State, Context, Terms, Next, begun, step, field, past, due, named, next, rule_of, noted, fresh, moved}
use Rattle.format.specs.Rules.Level.{in_header, in_packet}
use Rattle.format.specs.Rules.Next.{go}
use Rattle.format.specs.Telegrams.{Entry, entry}
use Rattle.laws.proofs.Steps.{going, Stepped, stepped}
use Rattle.laws.proofs.Steps.Settled.{on, closed, misfitted}
use Rattle.laws.proofs.Steps.Stepped.{forbidden, marked, noticed}
use Rattle.laws.proofs.Every.{Every}
use Rattle.laws.proofs.Points.{Sends}
use Rattle.laws.proofs.Points.Sends.{nothing, one_more}
use Rattle.laws.proofs.Headed.{of_header, every_due, every_on, named_due}
use Rattle.laws.proofs.Noted.{packet_noted, header_noted}
use Rattle.laws.proofs.Standing.{Stands, apart}
use Rattle.laws.proofs.Standing.Stands.{between, amid}
use Rattle.laws.proofs.Stays.{amid_level}
use Rattle.laws.proofs.Recalled.{sends_stands}
use Rattle.given.proofs.Along.{levels}
use Rattle.given.proofs.Sorts.{HeaderField, Sort, header_sorted, header_number, sorted_next}
use Rattle.given.proofs.Sorts.HeaderField.{q_updown, m_version, q_media, n_pig, n_total, m_dup, m_mcount, nid_c, nid_bg, q_link}

-- in the header N_TOTAL comes right behind N_PIG
abbrev pub Follows : Items → Type 0
Follows end = Unit
Follows nest = ⊥
Follows (send f r) = (due r ≡ N_TOTAL → f ≡ N_PIG) × Follows r
Follows (send_if c f r) = ⊥
Follows (send_either c a b) = ⊥
Follows (send_times c g r) = ⊥

not_total : (f : Field) → eqb f.number N_TOTAL.number ≡ false → {A : Type 0} → f ≡ N_TOTAL → A
not_total f n e = absurd (apart f N_TOTAL n e)

header_follows : Follows header
unfolding header
header_follows = (
  not_total _ refl,
  (
    not_total _ refl,
    (
      not_total _ refl,
      (
        λ e. refl,
        (not_total _ refl, (not_total _ refl, (not_total _ refl, (not_total _ refl, (not_total _ refl, (not_total _ refl, tt)))))),
      ),
    ),
  ),
)

follows_next : (t : Items) (v : ℕ) (u : Items) → T (going t) → Follows t → next t v ≡ some u → Follows u × (due u ≡ N_TOTAL → due t ≡ N_PIG)
unfolding next
follows_next end v u g h e = absurd g
follows_next nest v u g h e = absurd h
follows_next (send f r) v u g h e = let i : r ≡ u = cc in rw (← i) (h.1, h.0)
follows_next (send_if c f r) v u g h e = absurd h
follows_next (send_either c a b) v u g h e = absurd h
follows_next (send_times c f r) v u g h e = absurd h

-- N_PIG, as the context has it
pub record Pig (es : List Entry) (c : Context) : Type 0 where
  pub before : List Entry
  pub ends : es ≡ before ++ (holding N_PIG c.pig ∷ [])

-- in the header its fields are left, and where N_TOTAL is due N_PIG was sent; behind it those of the packets
pub data Sorted (es : List Entry) (s : State) : Type 0 where
  of_header_lem : s.context.level ≡ in_header → T (going s.todo) → Every HeaderField s.todo → Follows s.todo
      → (field s ≡ N_TOTAL → Pig es s.context) → Sorted es s
  of_packets : (s.context.level ≡ in_header → ⊥) → Every Sort s.todo → Sorted es s

header_rule : {f : Field} → HeaderField f → T (of_header (rule_of f.sense))
header_rule q_updown = tt
header_rule m_version = tt
header_rule q_media = tt
header_rule n_pig = tt
header_rule n_total = tt
header_rule m_dup = tt
header_rule m_mcount = tt
header_rule nid_c = tt
header_rule nid_bg = tt
header_rule q_link = tt

pig_noted : (c : Context) (at v : ℕ) → (noted pig c at v).pig ≡ v
unfolding noted
pig_noted c at v = refl

module _ (p : Terms) (es : List Entry) (s : State) (v : ℕ) (st : Stands es s) where
  abbrev left : Context
  left = noted (rule_of (field s).sense) s.context s.at v

  abbrev more : List Entry
  more = es ++ (entry s v ∷ [])

  pig_next : T (going s.todo) → field s ≡ N_PIG → Pig more left
  pig_next g e =
      let n : named s.todo v ≡ N_PIG = named_due s.todo v g ∙ e in
      record { before = es; ends = rw (n, e, pig_noted s.context s.at v) }

  level_next : (s.context.level ≡ in_header → ⊥) → left.level ≡ in_header → ⊥
  level_next n = by_stand st
    where
      by_stand : Stands es s → left.level ≡ in_header → ⊥
      by_stand (between i l x) e =
          let q : (noted (rule_of NID_PACKET.sense) s.context s.at v).level ≡ in_header = rw i at e in
          let z : ◌≡◌ {A = ℕ} 0 1 = cc (packet_noted s.context s.at v) in
          omega arith
      by_stand (amid g a) e = amid_level s.context s.at v s.todo g n a e

  sorted_on : (u : Items) → T (going u) → next s.todo v ≡ some u → Sorted es s → Sorted more (moved s u left)
  sorted_on u g j (of_header_lem l h k f q) =
      let m = follows_next s.todo v u h f j in
      of_header_lem (header_noted s.context s.at v (rule_of (field s).sense) (header_rule (every_due HeaderField s.todo h k)) ∙ l) g
      (every_on HeaderField (λ z. absurd (omega (arith, header_number z))) s.todo v u h k j) m.0 (λ e. pig_next h (m.1 e))
  sorted_on u g j (of_packets n k) = of_packets (level_next n) (sorted_next s.todo v u k j)

  sorted_off : (c : Context) → c.level ≡ in_packet → Sorted more (moved s end c)
  sorted_off c l = of_packets (λ e. levels e l) tt

  sorted_step : (t : Items) (c : Context) → step p s v ≡ go t c → Sorted es s → Sorted more (moved s t c)
  sorted_step t c e h = by_way (stepped p s v) e
    where
      by_way : {n : Next} → Stepped p s v n → n ≡ go t c → Sorted more (moved s t c)
      by_way (forbidden b) i = let z : ◌≡◌ {A = ℕ} 0 1 = cc in absurd (omega arith)
      by_way (marked b j) i = let z : ◌≡◌ {A = ℕ} 0 1 = cc in absurd (omega arith)
      by_way (noticed {t = u} b j (on k)) i =
          let et : u ≡ t = cc in
          let ec : left ≡ c = cc in
          rw (← et, ← ec) (sorted_on u k j h)
      by_way (noticed b j (closed k)) i =
          let et : end ≡ t = cc in
          let ec : fresh (past s) left ≡ c = cc in
          rw (← et, ← ec) (sorted_off (fresh (past s) left) refl)
      by_way (noticed b j (misfitted k q)) i = let z : ◌≡◌ {A = ℕ} 0 1 = cc in absurd (omega arith)

begun_sorted : Sorted [] begun
unfolding begun header
begun_sorted = of_header_lem refl tt header_sorted header_follows (λ e. absurd (apart _ N_TOTAL refl e))

pub sends_sorted : {p : Terms} {es : List Entry} {s : State} → Sends p es s → Sorted es s
sends_sorted nothing = begun_sorted
sends_sorted {p} (one_more {es = es} {s = s} v {t = t} {c = c} h f e) = sorted_step p es s v (sends_stands h) t c e (sends_sorted h)
