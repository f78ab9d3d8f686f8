-- Packets stand whole among the entries that were sent: the header, packets that are each as long as they say, and the packet in hand.
-- Definitions, and what one field more makes of them. Assumes nothing.
use mathlib.Core.List.{List, [], ◌∷◌, ◌++◌}
use mathlib.Core.Option.{some}
use mathlib.Core.Path.{◌≡◌}
use Prim.Native.Nat.{ℕ, zero, suc, ◌+◌, ◌<◌}
use lib.Dec.{T}
use lib.ListN.{length}
use Rattle.format.specs.Among.{holding}
use Rattle.format.specs.Fields.{NID_PACKET, Q_DIR, L_PACKET}
use Rattle.format.specs.Packets.{Items}
use Rattle.format.specs.Packets.Items.{end, nest, send, send_if, send_either, send_times}
use Rattle.format.specs.Rules.{State, Earlier, named, next}
use Rattle.format.specs.Rules.Level.{in_header, in_packet}
use Rattle.format.specs.Telegrams.{Entry, bit_count, values}
use Rattle.laws.proofs.Steps.{going}
use Rattle.laws.proofs.Tile.{Plain, widths}
use Rattle.laws.proofs.Headed.{with_head}

-- ---- whole packets

-- entries lead from items to items, and before each of them something is left to send
pub data Goes (t : Items) : List Entry → Items → Type 0 where
  here : Goes t [] t
  further : {es : List Entry} {u w : Items} (v : ℕ) → Goes t es u → T (going u) → next u v ≡ some w
      → Goes t (es ++ (holding (named u v) v ∷ [])) w

-- a packet: its NID_PACKET, Q_DIR and L_PACKET, and what stands behind them
abbrev pub headed : ℕ → ℕ → ℕ → List Entry → List Entry
headed i d n body = holding NID_PACKET i ∷ holding Q_DIR d ∷ holding L_PACKET n ∷ body

-- a packet that was begun: its items, to which its NID_PACKET led
pub record Began (i : ℕ) : Type 0 where
  pub items : Items
  pub found : next end i ≡ some items
  pub small : i < 256

-- it is whole: its fields lead to its end, and it is as long as it says
pub record Packet (i d n : ℕ) (body : List Entry) : Type 0 where
  pub began : Began i
  pub goes : Goes began.items (holding Q_DIR d ∷ holding L_PACKET n ∷ body) end
  pub small_dir : d < 4
  pub small_size : n < 8192
  pub size : n ≡ bit_count (headed i d n body)

-- the header's 50 bits in ten fields, and whole packets behind it: with their NID_PACKET and Q_DIR, the latest first
pub data Whole : List Entry → List Earlier → Type 0 where
  front : {es : List Entry} → bit_count es ≡ 50 → length (values es) ≡ 10 → Whole es []
  then : {es : List Entry} {l : List Earlier} {i d n : ℕ} {body : List Entry} → Whole es l → Packet i d n body
      → Whole (es ++ headed i d n body) (record { id = i; dir = d } ∷ l)

-- ---- how far a telegram was sent

-- how many fields stand in a row
abbrev pub field_count : Items → ℕ
field_count end = zero
field_count nest = zero
field_count (send f r) = suc (field_count r)
field_count (send_if c f r) = zero
field_count (send_either c a b) = zero
field_count (send_times c g r) = zero

-- the header, of which t is left
pub record Fronts (es : List Entry) (t : Items) : Type 0 where
  pub plain : Plain t
  pub bits : bit_count es + widths t ≡ 50
  pub fields : length (values es) + field_count t ≡ 10

-- behind an L_PACKET: entries that end neither in a NID_PACKET nor in the Q_DIR behind one
pub record Past (es : List Entry) : Type 0 where
  pub unnamed : (b : List Entry) (n : ℕ) → es ≡ b ++ (holding NID_PACKET n ∷ []) → ⊥
  pub undirected : (b : List Entry) (n d : ℕ) → es ≡ b ++ (holding NID_PACKET n ∷ holding Q_DIR d ∷ []) → ⊥

-- In the header, between two packets, or behind the NID_PACKET, the Q_DIR or the L_PACKET of a packet; before that packet all packets are whole,
-- and the context has just these, and the packet itself from its Q_DIR on.
pub data Stage (es : List Entry) (s : State) : Type 0 where
  fronting : s.context.level ≡ in_header → s.context.earlier ≡ [] → Fronts es s.todo → Stage es s
  resting : s.todo ≡ end → Whole es s.context.earlier → Stage es s
  after_name : (b : List Entry) {i : ℕ} {r : Items} (g : Began i) → es ≡ b ++ (holding NID_PACKET i ∷ []) → Whole b s.context.earlier
      → s.context.level ≡ in_packet → s.context.start ≡ bit_count b → s.context.id ≡ i → s.todo ≡ g.items → g.items ≡ with_head r → Stage es s
  after_dir : (b : List Entry) {i : ℕ} (d : ℕ) {l : List Earlier} {r : Items} (g : Began i)
      → es ≡ b ++ (holding NID_PACKET i ∷ holding Q_DIR d ∷ []) → Whole b l → s.context.earlier ≡ record { id = i; dir = d } ∷ l
      → s.context.level ≡ in_packet → s.context.start ≡ bit_count b → Goes g.items (holding Q_DIR d ∷ []) s.todo → s.todo ≡ send L_PACKET r
      → d < 4 → Stage es s
  after_size : (b : List Entry) {i : ℕ} (d n : ℕ) (body : List Entry) {l : List Earlier} (g : Began i) → es ≡ b ++ headed i d n body → Whole b l
      → s.context.earlier ≡ record { id = i; dir = d } ∷ l → s.context.start ≡ bit_count b → s.context.long ≡ n
      → Goes g.items (holding Q_DIR d ∷ holding L_PACKET n ∷ body) s.todo → d < 4 → n < 8192 → T (going s.todo) → (s.context.level ≡ in_header → ⊥)
      → Past es → Stage es s
