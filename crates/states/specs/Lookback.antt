-- The packets that came before, as the code finds them: no list of them is kept, but what was read already is looked over again. Definitions
-- alone.
use Rattle.std.specs.Prelude.{Bool, true, false, ◌&&◌, List, [], ◌∷◌, ℕ, zero, suc, ◌+◌, ◌-◌, ◌/◌, ◌%◌, eqb, take, drop, Some, None}
use Rattle.std.proofs.Math.Option.{Option, some, none}
use Rattle.bits.specs.Take.{taken_at}
use Rattle.bits.specs.declared.Cursor.{Cursor}
use Rattle.format.specs.Packets.{Items}
use Rattle.format.specs.Packets.Items.{end, nest, send, send_if, send_either, send_times}
use Rattle.format.specs.Rules.{Earlier, clash, collides_among, next}
use Rattle.format.specs.Table.{field_at, code_of}
use Rattle.states.specs.declared.Level.{Level}
use Rattle.states.specs.declared.Level.TheVariants.{Header, Packet, User}
use Rattle.states.specs.declared.State.{State}
use Rattle.std.specs.Prelude as code

-- ---- over bits: from packet to packet

-- a packet's head, NID_PACKET 8, Q_DIR 2 and L_PACKET 13, in one number
abbrev pub id_in : ℕ → ℕ
id_in a = a / 32768

abbrev pub dir_in : ℕ → ℕ
dir_in a = a / 8192 % 4

abbrev pub long_in : ℕ → ℕ
long_in a = a % 8192

-- what there is at a head, and nothing where there is none
abbrev pub at_head : code.Option (ℕ × Cursor) → (ℕ → Cursor → List Earlier) → List Earlier
at_head (Some (a, c)) found = found a c
at_head None found = []

-- The packets from the bit at on, before the bit stop: "L_PACKET counts from the identifier", so that behind the 23 bits of a head its packet has so
-- many fewer bits than that, and the next one follows. There are at most k.
unfoldable pub hopped : ℕ → List ℕ → ℕ → ℕ → List Earlier
hopped zero s stop at = []
hopped (suc k) s stop at =
    at_head (taken_at s stop 23 at) (λ a c. record { id = id_in a; dir = dir_in a } ∷ hopped k s stop (c.at + (long_in a - 23)))

-- those behind the header, which has 50 bits; each takes a bit at least
abbrev pub packets_before : List ℕ → ℕ → List Earlier
packets_before s stop = hopped stop s stop 50

-- ---- over values: field by field, since L_PACKET counts bits and not values

-- nothing is left to send, so that a packet begins, or the end mark
abbrev pub begins : Items → Bool
begins end = true
begins nest = false
begins (send f r) = false
begins (send_if c f r) = false
begins (send_either c a b) = false
begins (send_times c g r) = false

-- with the packet that begins with the value v, if something begins there and a value follows, which is then its Q_DIR
abbrev pub with_packet : Bool → ℕ → List ℕ → List Earlier → List Earlier
with_packet false v vs l = l
with_packet true v [] l = l
with_packet true v (d ∷ vs) l = record { id = v; dir = d } ∷ l

-- the packets among values, where this is to be sent
unfoldable pub walked : List ℕ → Option Items → List Earlier
walked [] o = []
walked (v ∷ vs) none = []
walked (v ∷ vs) (some t) = with_packet (begins t) v vs (walked vs (next t v))

-- those among the first n, behind the header, which has ten fields
abbrev pub packets_among : List ℕ → ℕ → List Earlier
packets_among vs n = walked (drop 10 (take n vs)) (some end)

-- ---- at the field that is due

-- in a packet, and not in the CTCS packet inside one
abbrev pub is_packet : Level → Bool
is_packet Header = false
is_packet Packet = true
is_packet User = false

-- it is the Q_DIR of a packet, by which packets collide
abbrev pub directs : State → Bool
directs s = eqb (code_of (field_at s.todo.node).sense) 9 && is_packet s.level

-- and that packet, if it holds v, collides with one of these
abbrev pub repeats : State → ℕ → List Earlier → Bool
repeats s v before = directs s && collides_among clash s.id v before
