-- What a refusal points at, said over the entries that were sent: the field that is due, an L_PACKET sent before, or the bit behind the
-- end mark. Definitions, with the few laws that they need. Assumes nothing.
use mathlib.Core.List.{List, [], ◌∷◌, ◌++◌, append_assoc}
use mathlib.Core.Path.{◌≡◌, sym, ap, ◌∙◌}
use Prim.Native.Nat.{ℕ}
use Rattle.format.specs.Among.{holding, Inside, size_at, Fitting, Misfitting}
use Rattle.format.specs.Fields.{Field, NID_PACKET, NID_XUSER, Q_DIR, L_PACKET}
use Rattle.format.specs.Packets.{Items}
use Rattle.format.specs.Rules.{State, Context, Terms, Level, begun, step, field, moved}
use Rattle.format.specs.Rules.Level.{in_header, in_packet, in_user}
use Rattle.format.specs.Rules.Next.{go, over, breaks}
use Rattle.format.specs.Telegrams.{Entry, entry, Taken, all, bit_count, Fits}
use Rattle.format.specs.Telegrams.Taken.{got, lacks}
use Rattle.format.specs.declared.Kind.{Kind}
use Rattle.format.specs.declared.Kind.TheVariants.{Header, Ended, Unknown, Value, Length, Direction, Repeated, Trailing, Wide, Full}
use Rattle.format.specs.declared.Refusal.{Refusal}

-- the entries that lead from the beginning to a state, each fitting its field and breaking no rule
pub data Sends (p : Terms) : List Entry → State → Type 0 where
  nothing : Sends p [] begun
  one_more : {es : List Entry} {s : State} (v : ℕ) {t : Items} {c : Context} → Sends p es s → Fits s v → step p s v ≡ go t c
      → Sends p (es ++ (entry s v ∷ [])) (moved s t c)

-- ---- the packet in hand

-- a CTCS packet inside a packet, among all the entries
abbrev pub within : {es : List Entry} (o : Inside NID_PACKET es) → Inside NID_XUSER o.after → Inside NID_XUSER es
within o h =
    let ahead : List Entry → List Entry = λ l. holding NID_PACKET o.name ∷ holding Q_DIR o.dir ∷ holding L_PACKET o.size ∷ l in
    record {
      before = o.before ++ ahead h.before;
      name = h.name;
      dir = h.dir;
      size = h.size;
      after = h.after;
      parts = o.parts ∙ ap (λ (l : List Entry). o.before ++ ahead l) h.parts ∙ sym (append_assoc o.before (ahead h.before) _);
      own = h.own;
    }

-- ---- refusals

-- "8: L_PACKET is not the number of bits its packet takes", at the last field of a packet, by the level of that field: the packet's own,
-- or in a CTCS packet its own, which is tested first, or that of the packet around it. With the bit where that L_PACKET begins.
pub data Wrong (es : List Entry) : Level → ℕ → Type 0 where
  alone : (h : Inside NID_PACKET es) → Misfitting h → Wrong es in_packet (size_at h)
  inner : (o : Inside NID_PACKET es) (h : Inside NID_XUSER o.after) → Misfitting h → Wrong es in_user (size_at (within o h))
  outer : (o : Inside NID_PACKET es) (h : Inside NID_XUSER o.after) → Fitting h → Misfitting o → Wrong es in_user (size_at o)

-- the L_PACKET that is wrong
abbrev pub wrong_size : {es : List Entry} {l : Level} {x : ℕ} → Wrong es l x → Entry
wrong_size (alone h m) = holding L_PACKET h.size
wrong_size (inner o h m) = holding L_PACKET h.size
wrong_size (outer o h f m) = holding L_PACKET o.size

-- Which field breaks a rule, by kind: 4, one of the header; 6, an identifier; 7, one of a packet; 9, the Q_DIR of a CTCS packet; 10, that
-- of a packet.
pub data Offends : Kind → Field → Level → Type 0 where
  in_header_lem : {f : Field} → Offends Header f in_header
  packet_name : Offends Unknown NID_PACKET in_packet
  user_name : Offends Unknown NID_XUSER in_packet
  in_packet_lem : {f : Field} → Offends Value f in_packet
  in_user_lem : {f : Field} → Offends Value f in_user
  user_direction : Offends Direction Q_DIR in_user
  packet_direction : Offends Repeated Q_DIR in_packet

-- Why a source has no value for a field: 5, it ended; 12, the value is too wide; 13, there is no room
pub data Missing : Kind → Type 0 where
  ended : Missing Ended
  wide : Missing Wide
  full : Missing Full

-- What a refusal points at, after the entries es, which lead to the state s, with xs left of the source: the field that could not be
-- finished; the field whose value breaks a rule; an L_PACKET, where a packet ends; or the bit behind the end mark.
pub data Points (p : Terms) (source : State → List ℕ → Taken) (es : List Entry) (s : State) (xs : List ℕ) : Refusal → Type 0 where
  lacking : {k : Kind} → source s xs ≡ lacks k → Missing k → Points p source es s xs (record { kind = k; place = bit_count es })
  breaking : {v : ℕ} {ys : List ℕ} {k : Kind} → source s xs ≡ got v ys → step p s v ≡ breaks k → Offends k (field s) s.context.level
      → Points p source es s xs (record { kind = k; place = bit_count es })
  sizing : {v x : ℕ} {ys : List ℕ} → source s xs ≡ got v ys → step p s v ≡ breaks Length
      → Wrong (es ++ (entry s v ∷ [])) s.context.level x → Points p source es s xs (record { kind = Length; place = x })
  trailing : {v y : ℕ} {ys : List ℕ} → source s xs ≡ got v (y ∷ ys) → step p s v ≡ over
      → Points p source es s xs (record { kind = Trailing; place = bit_count (es ++ (entry s v ∷ [])) })

-- a refusal of a source, with the entries that were sent before it
pub record Pointed (p : Terms) (source : State → List ℕ → Taken) (part : Entry → List ℕ) (whole : List ℕ) (r : Refusal) : Type 0 where
  pub sent : List Entry
  pub state : State
  pub left : List ℕ
  pub sends : Sends p sent state
  pub front : whole ≡ all part sent ++ left
  pub points : Points p source sent state left r
