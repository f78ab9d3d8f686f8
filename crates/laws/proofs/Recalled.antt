-- The context recalls just the packets that were sent: along the entries, it knows the NID_PACKET of the packet in hand and whether a
-- packet of any kind and direction meets an earlier one. For any terms, and by any rule of directions. Assumes nothing.
use mathlib.Core.Bool.{Bool, true, false, cond, ◌&&◌, ◌||◌, or-true}
use mathlib.Core.List.{List, [], ◌∷◌, ◌++◌}
use mathlib.Core.Logic.{◌↔◌}
use mathlib.Core.Option.{some}
use mathlib.Core.Path.{◌≡◌, refl, sym, ap, ◌∙◌}
use Prim.Native.Nat.{ℕ}
use native.Mathlib.Omega.{arith}
use borrow.Author.Tests.{eqb-true, eq-eqb}
use lib.Dec.{eqb}
use Rattle.format.specs.Among.{holding}
use Rattle.format.specs.Fields.{NID_PACKET, Q_DIR, END}
use Rattle.format.specs.Packets.{Items}
use Rattle.format.specs.Packets.Items.{end}
use Rattle.format.specs.Rules.{State, Context, Terms, Earlier, Next, begun, step, field, named, past, next, rule_of, noted, fresh, among}
use Rattle.format.specs.Rules.Level.{in_packet}
use Rattle.format.specs.Rules.Next.{go}
use Rattle.format.specs.Telegrams.{Entry, entry}
use Rattle.laws.proofs.Steps.{going_on, Stepped, stepped}
use Rattle.laws.proofs.Steps.Settled.{on, closed, misfitted}
use Rattle.laws.proofs.Steps.Stepped.{forbidden, marked, noticed}
use Rattle.laws.proofs.Points.{Sends}
use Rattle.laws.proofs.Points.Sends.{nothing, one_more}
use Rattle.laws.proofs.Headed.{named_due, packet_headed}
use Rattle.laws.proofs.Noted.{direction_in_packet, packet_noted, kept}
use Rattle.laws.proofs.Standing.{Stands, apart}
use Rattle.laws.proofs.Pointed.{sends_at, stands_on, begun_stands}
use Rattle.laws.proofs.Pairs.{Met, Newest, met_grown, packet_made, packet_newest, one_end, not_empty}
use Rattle.laws.proofs.Pairs.Newest.{old, new}
use Rattle.laws.proofs.Awaited.{Awaits, awaits}
use Rattle.laws.proofs.Awaited.Awaits.{begins, directs, goes_by}

-- what a context recalls of entries: the packets that a packet meets, by any rule of directions; and their NID_PACKET, where they end in one
pub record Recalls (es : List Entry) (c : Context) : Type 0 where
  pub met : (collide : ℕ → ℕ → Bool) (i d : ℕ) → (among collide i d c.earlier ≡ true) ↔ Met collide es i d
  pub identifies : (b : List Entry) (n : ℕ) → es ≡ b ++ (holding NID_PACKET n ∷ []) → c.id ≡ n

-- ---- one packet more

module _ (collide : ℕ → ℕ → Bool) (i d : ℕ) where
  -- among no packets, none is met
  pub among_none : among collide i d [] ≡ false
  unfolding among
  among_none = refl

  -- among one packet more, it is met or one of the others is
  pub among_more : (n v : ℕ) (l : List Earlier)
      → among collide i d (record { id = n; dir = v } ∷ l) ≡ (eqb i n && collide d v || among collide i d l)
  unfolding among
  among_more n v l = refl

  -- a packet that is met, with the same before it in other entries
  abbrev met_old : {es fs : List Entry} (h : Met collide fs i d) (a : List Entry)
      → es ≡ h.packet.before ++ holding NID_PACKET i ∷ holding Q_DIR h.other ∷ a → Met collide es i d
  met_old h a j = record { other = h.other; packet = record { before = h.packet.before; after = a; parts = j }; collides = h.collides }

  -- where the last entry makes no packet, the packet that is met stood there before
  pub met_before : {es : List Entry} {e : Entry} → ((m : ℕ) → e ≡ holding Q_DIR m → (b : List Entry) → es ≡ b ++ (holding NID_PACKET i ∷ []) → ⊥)
      → Met collide (es ++ (e ∷ [])) i d → Met collide es i d
  met_before {es} {e} never h = by_last (packet_newest h.packet)
    where
      by_last : Newest es e h.packet.before i h.other → Met collide es i d
      by_last (old a j) = met_old h a j
      by_last (new f j) = absurd (never h.other f h.packet.before j)

  module _ {es : List Entry} (b : List Entry) (n v : ℕ) (l : List Earlier) (ends : es ≡ b ++ (holding NID_PACKET n ∷ []))
      (ih : (among collide i d l ≡ true) ↔ Met collide es i d) where
    -- the packet is met that its Q_DIR just made, or one before
    more_met : (p q : Bool) → eqb i n ≡ p → collide d v ≡ q → (p && q || among collide i d l) ≡ true
        → Met collide (es ++ (holding Q_DIR v ∷ [])) i d
    more_met true true ei ec h =
        let j : n ≡ i = sym (eqb-true i n ei) in
        record { other = v; packet = packet_made b v (rw j at ends); collides = ec }
    more_met true false ei ec h = met_grown (ih.0 h) (holding Q_DIR v ∷ [])
    more_met false q ei ec h = met_grown (ih.0 h) (holding Q_DIR v ∷ [])

    -- and either is recalled
    met_more : Met collide (es ++ (holding Q_DIR v ∷ [])) i d → (eqb i n && collide d v || among collide i d l) ≡ true
    met_more h = by_last (packet_newest h.packet)
      where
        by_last : Newest es (holding Q_DIR v) h.packet.before i h.other → (eqb i n && collide d v || among collide i d l) ≡ true
        by_last (old a j) =
            rw (ih.1 (met_old h a j)) (or-true (eqb i n && collide d v))
        by_last (new f j) =
            let ev : v ≡ h.other = ap (λ (e : Entry). e.value) f in
            let en : i ≡ n = ap (λ (e : Entry). e.value) (one_end h.packet.before b _ _ (sym j ∙ ends)).1 in
            rw (eq-eqb i n en, ev, h.collides)

    -- so with a packet more, just the packets that were sent are recalled
    met_made : (among collide i d (record { id = n; dir = v } ∷ l) ≡ true) ↔ Met collide (es ++ (holding Q_DIR v ∷ [])) i d
    met_made = (λ h. more_met (eqb i n) (collide d v) refl refl (sym (among_more n v l) ∙ h), λ h. among_more n v l ∙ met_more h)

-- ---- one field more

-- the end mark and a NID_PACKET are no Q_DIR
pub begins_apart : (b : Bool) → cond b END NID_PACKET ≡ Q_DIR → ⊥
begins_apart true e = apart END Q_DIR refl e
begins_apart false e = apart NID_PACKET Q_DIR refl e

module _ (es : List Entry) (s : State) (v : ℕ) where
  -- the context after the value
  abbrev after : Context
  after = noted (rule_of (field s).sense) s.context s.at v

  -- the fields that make no packet leave what is met as it was
  met_kept : after.earlier ≡ s.context.earlier
      → ((m : ℕ) → entry s v ≡ holding Q_DIR m → (b : List Entry) (n : ℕ) → es ≡ b ++ (holding NID_PACKET n ∷ []) → ⊥)
      → Recalls es s.context → (collide : ℕ → ℕ → Bool) (i d : ℕ)
      → (among collide i d after.earlier ≡ true) ↔ Met collide (es ++ (entry s v ∷ [])) i d
  met_kept k never h collide i d =
      rw k (
        λ e. met_grown ((h.met collide i d).0 e) (entry s v ∷ []),
        λ m. (h.met collide i d).1 (met_before collide i d (λ x f b j. never x f b i j) m),
      )

  -- a packet is recalled with its Q_DIR
  met_directed : field s ≡ Q_DIR → named s.todo v ≡ Q_DIR → s.context.level ≡ in_packet → (b : List Entry) (n : ℕ)
      → es ≡ b ++ (holding NID_PACKET n ∷ []) → Recalls es s.context → (collide : ℕ → ℕ → Bool) (i d : ℕ)
      → (among collide i d after.earlier ≡ true) ↔ Met collide (es ++ (entry s v ∷ [])) i d
  met_directed f m l b n e h collide i d =
      rw (f, m, direction_in_packet s.context s.at v l, h.identifies b n e)
      (met_made collide i d b n v s.context.earlier e (h.met collide i d))

  -- so the packets that are recalled are those that were sent, after any field
  met_next : Awaits es s → Recalls es s.context → (collide : ℕ → ℕ → Bool) (i d : ℕ)
      → (among collide i d after.earlier ≡ true) ↔ Met collide (es ++ (entry s v ∷ [])) i d
  met_next (begins t) h =
      met_kept (kept s.context s.at v _ (rw t (λ r l. let z : ◌≡◌ {A = ℕ} 0 1 = cc in omega arith)))
      (λ m e b n j. begins_apart (eqb v 255) (rw t at (ap (λ (x : Entry). x.field) e))) h
  met_next (directs g f l b n e) h = met_directed f (named_due s.todo v g ∙ f) l b n e h
  met_next (goes_by g w) h =
      met_kept (kept s.context s.at v _ w.unruled)
      (λ m e b n j. w.undirected (sym (named_due s.todo v g) ∙ ap (λ (x : Entry). x.field) e) b n j) h

  -- a NID_PACKET is sent only where nothing else is left to send
  pub named_begins : Awaits es s → named s.todo v ≡ NID_PACKET → s.todo ≡ end
  named_begins (begins t) e = t
  named_begins (directs g f l b n j) e = absurd (apart Q_DIR NID_PACKET refl (sym f ∙ sym (named_due s.todo v g) ∙ e))
  named_begins (goes_by g w) e = absurd (w.unnamed (sym (named_due s.todo v g) ∙ e))

  -- the last entry is a NID_PACKET
  last_named : (b : List Entry) (n : ℕ) → es ++ (entry s v ∷ []) ≡ b ++ (holding NID_PACKET n ∷ []) → entry s v ≡ holding NID_PACKET n
  last_named b n e = (one_end es b (entry s v) (holding NID_PACKET n) e).1

  -- a NID_PACKET is noted as it is sent
  identifies_next : Awaits es s → (b : List Entry) (n : ℕ) → es ++ (entry s v ∷ []) ≡ b ++ (holding NID_PACKET n ∷ []) → after.id ≡ n
  identifies_next a b n e =
      let l = last_named b n e in
      let t = named_begins a (ap (λ (x : Entry). x.field) l) in
      rw (t, packet_noted s.context s.at v) (ap (λ (x : Entry). x.value) l)

  -- behind a NID_PACKET no packet ends
  not_ended : (u : Items) → Awaits es s → next s.todo v ≡ some u → u ≡ end → (b : List Entry) (n : ℕ)
      → es ++ (entry s v ∷ []) ≡ b ++ (holding NID_PACKET n ∷ []) → ⊥
  unfolding next
  not_ended u a j q b n e =
      let t = named_begins a (ap (λ (x : Entry). x.field) (last_named b n e)) in
      let hd = packet_headed v u (rw t at j) in
      going_on u (rw hd.is tt) q

  -- one field more, and the context recalls just what was sent
  recalls_next : (p : Terms) (t : Items) (c : Context) → Awaits es s → Recalls es s.context → step p s v ≡ go t c
      → Recalls (es ++ (entry s v ∷ [])) c
  recalls_next p t c a h e = by_way (stepped p s v) e
    where
      by_way : {n : Next} → Stepped p s v n → n ≡ go t c → Recalls (es ++ (entry s v ∷ [])) c
      by_way (forbidden b) i = let z : ◌≡◌ {A = ℕ} 0 1 = cc in absurd (omega arith)
      by_way (marked b j) i = let z : ◌≡◌ {A = ℕ} 0 1 = cc in absurd (omega arith)
      by_way (noticed b j (on g)) i =
          let ec : after ≡ c = cc in
          rw (← ec) (record { met = met_next a h; identifies = identifies_next a })
      by_way (noticed {t = u} b j (closed k)) i =
          let ec : fresh (past s) after ≡ c = cc in
          rw (← ec) (record { met = met_next a h; identifies = λ l n m. absurd (not_ended u a j k l n m) })
      by_way (noticed b j (misfitted k f)) i = let z : ◌≡◌ {A = ℕ} 0 1 = cc in absurd (omega arith)

-- ---- along the entries

-- where the entries that were sent stand
pub sends_stands : {p : Terms} {es : List Entry} {s : State} → Sends p es s → Stands es s
sends_stands nothing = begun_stands
sends_stands {p} (one_more {es = es} {s = s} v {t = t} {c = c} h f e) = stands_on p es s v (sends_at h) t c (sends_stands h) e

-- what is due behind them
pub sends_awaits : {p : Terms} {es : List Entry} {s : State} → Sends p es s → Awaits es s
sends_awaits h = awaits (sends_stands h)

-- at the beginning nothing was sent
begun_recalls : Recalls [] begun.context
unfolding begun
begun_recalls =
    record {
      met = λ collide i d. (
        λ e. let z : ◌≡◌ {A = ℕ} 0 1 = cc (among_none collide i d) in absurd (omega arith),
        λ m. not_empty m.packet.before _ _ m.packet.parts,
      );
      identifies = λ b n e. not_empty b _ _ e;
    }

-- and what the context recalls of them
pub sends_recalls : {p : Terms} {es : List Entry} {s : State} → Sends p es s → Recalls es s.context
sends_recalls nothing = begun_recalls
sends_recalls {p} (one_more {es = es} {s = s} v {t = t} {c = c} h f e) = recalls_next es s v p t c (sends_awaits h) (sends_recalls h) e
