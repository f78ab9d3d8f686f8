-- docs/RULES.md, "Refusal numbers", "Header", "Allowed values", "Packets that collide" and "Place": when each of the rules 4 to 13 is broken, number by number,
-- and the place that it gives. Definitions alone: nothing here says how an answer is made.
--
--     es     the fields that were sent so far, each with its value
--     t      what the tables still want of this header or packet; `due t` is the next field, `next t v` what they want behind it
--     v      the value of that field
--     left   the bits, or values, that are not used yet
--
-- The tables themselves are taken as they stand in `format` (Fields, Packets): the widths, and what each packet sends.
use Rattle.std.specs.Prelude.{List, [], ◌∷◌, ◌++◌, ◌⊎◌, ◌≡◌, ℕ, ◌+◌, ◌/◌, ◌%◌, ◌^◌, ◌<◌, ◌≤◌, length}
use Rattle.std.proofs.Math.Option.{some}
use Rattle.bits.specs.Bits.{digits}
use Rattle.format.specs.Among.{holding, PacketIn, Inside, size_at, Fitting, Misfitting}
use Rattle.format.specs.Fields.{Field, steers, Q_UPDOWN, M_VERSION, Q_MEDIA, N_PIG, N_TOTAL, M_DUP, NID_PACKET, NID_XUSER, Q_DIR, L_PACKET, Q_SCALE, Q_LINKREACTION, NC_DIFF, M_LEVELTR, NID_STM, NID_RADIO, M_TRACKCOND, Q_TEXTCLASS, M_LEVELTEXTDISPLAY, Q_TEXTCONFIRM, NID_SIGNAL, NID_FREQUENCY, Q_STOP}
use Rattle.format.specs.Packets.{Items}
use Rattle.format.specs.Packets.Items.{end}
use Rattle.format.specs.Rules.{due, named, next}
use Rattle.format.specs.Telegrams.{Entry, bits_in, values_in, bit_count}
use Rattle.format.specs.declared.Kind.{Kind}
use Rattle.format.specs.declared.Kind.TheVariants.{Header, Ended, Unknown, Value, Length, Direction, Repeated, Trailing, Wide, Full}

-- ---- 4

-- "4: a header rule is broken". "Rules: Q_UPDOWN = 1, M_VERSION = 16, Q_MEDIA = 0, M_DUP ≤ 2, N_PIG ≤ N_TOTAL (tested at N_TOTAL)"; N_PIG is
-- sent right before N_TOTAL
pub data HeaderBroken (es : List Entry) : Field → ℕ → Type 0 where
  updown : {v : ℕ} → (v ≡ 1 → ⊥) → HeaderBroken es Q_UPDOWN v
  version : {v : ℕ} → (v ≡ 16 → ⊥) → HeaderBroken es M_VERSION v
  media : {v : ℕ} → (v ≡ 0 → ⊥) → HeaderBroken es Q_MEDIA v
  dup : {v : ℕ} → 2 < v → HeaderBroken es M_DUP v
  total : {v : ℕ} (b : List Entry) (pig : ℕ) → es ≡ b ++ (holding N_PIG pig ∷ []) → v < pig → HeaderBroken es N_TOTAL v

-- ---- 5

-- a telegram is read from bits, or written from values
pub data Medium : Type 0 where
  in_bits in_values : Medium

-- what an entry is there
abbrev pub part_in : Medium → Entry → List ℕ
part_in in_bits e = bits_in e
part_in in_values e = values_in e

-- the next value, for the field f, is v, and the rest comes behind it
abbrev pub NextIs : Medium → Field → List ℕ → ℕ → List ℕ → Type 0
NextIs in_bits f left v rest = (v < 2 ^ f.width) × (left ≡ digits f.width v ++ rest)
NextIs in_values f left v rest = left ≡ v ∷ rest

-- "5: the bits, or the values, end inside a field or before the end mark": fewer bits are left than the next field has, or no value is
abbrev pub Ends : Medium → Field → List ℕ → Type 0
Ends in_bits f left = length left < f.width
Ends in_values f left = left ≡ []

-- ---- 6

-- the value is none of these
abbrev pub NoneOf : List ℕ → ℕ → Type 0
NoneOf [] v = Unit
NoneOf (x ∷ xs) v = (v ≡ x → ⊥) × NoneOf xs v

-- "6: NID_PACKET or NID_XUSER is not in the tables below"; 255 is the end mark
pub data Unlisted : Field → ℕ → Type 0 where
  packet : {v : ℕ} → NoneOf (5 ∷ 21 ∷ 27 ∷ 41 ∷ 42 ∷ 44 ∷ 46 ∷ 68 ∷ 72 ∷ 79 ∷ 131 ∷ 132 ∷ 137 ∷ 254 ∷ 255 ∷ []) v → Unlisted NID_PACKET v
  user : {v : ℕ} → NoneOf (1 ∷ 2 ∷ 3 ∷ 4 ∷ 5 ∷ []) v → Unlisted NID_XUSER v

-- ---- 7

-- "Allowed values": the least and the greatest that a field may hold
pub data Range : Field → ℕ → ℕ → Type 0 where
  -- "Q_DIR, Q_SCALE, Q_LINKREACTION, NC_DIFF, Q_TEXTCONFIRM 0..2"
  q_dir : Range Q_DIR 0 2
  q_scale : Range Q_SCALE 0 2
  q_linkreaction : Range Q_LINKREACTION 0 2
  nc_diff : Range NC_DIFF 0 2
  q_textconfirm : Range Q_TEXTCONFIRM 0 2
  -- "Q_TEXTCLASS 0..1; M_LEVELTR 0..4; M_LEVELTEXTDISPLAY 0..5; NID_STM 1..3; M_TRACKCOND 0..9; NID_SIGNAL 0..7; NID_FREQUENCY 0..12; Q_STOP 0"
  q_textclass : Range Q_TEXTCLASS 0 1
  m_leveltr : Range (steers M_LEVELTR) 0 4
  m_leveltextdisplay : Range (steers M_LEVELTEXTDISPLAY) 0 5
  nid_stm : Range NID_STM 1 3
  m_trackcond : Range M_TRACKCOND 0 9
  nid_signal : Range NID_SIGNAL 0 7
  nid_frequency : Range NID_FREQUENCY 0 12
  q_stop : Range Q_STOP 0 0

-- the 4-bit place j from the right, counted from 0
abbrev pub hex : ℕ → ℕ → ℕ
hex v j = v / 16 ^ j % 16

-- "NID_RADIO is sixteen 4-bit places: none or more digits 0..9, then only F"
pub record Radio (v : ℕ) : Type 0 where
  -- how many places at the end are F
  pub fill : ℕ
  pub most : fill ≤ 16
  pub digit : (j : ℕ) → fill ≤ j → j < 16 → hex v j ≤ 9
  pub filled : (j : ℕ) → j < fill → hex v j ≡ 15

-- "7: a field holds a value not allowed below". "Every other field may hold anything its width holds"
pub data Disallowed : Field → ℕ → Type 0 where
  outside : {f : Field} {a b v : ℕ} → Range f a b → (v < a) ⊎ (b < v) → Disallowed f v
  radio : {v : ℕ} → (Radio v → ⊥) → Disallowed NID_RADIO v

-- ---- 8

-- "8: L_PACKET is not the number of bits its packet takes", where the entries end with a packet: its entries, from its identifier on, have another number
-- of bits than its L_PACKET says. "The inner packet before its ETCS-44": inner, the CTCS packet's L_PACKET is wrong; outer, that one is right or there
-- is none, and the packet's own is wrong. With the bit where the wrong L_PACKET begins; an inner one stands behind the outer one's 13 bits
pub data Misfits (es : List Entry) : ℕ → Type 0 where
  inner : (o : Inside NID_PACKET es) (h : Inside NID_XUSER o.after) → Misfitting h → Misfits es (size_at o + L_PACKET.width + size_at h)
  outer : (o : Inside NID_PACKET es) → ((h : Inside NID_XUSER o.after) → Fitting h) → Misfitting o → Misfits es (size_at o)

-- ---- 9

-- "9: a CTCS packet's Q_DIR differs from that of its ETCS-44": the next field is a Q_DIR right behind a NID_XUSER, in the ETCS-44 o
pub data Differs (es : List Entry) : Field → ℕ → Type 0 where
  differs : {v : ℕ} (o : Inside NID_PACKET es) (b : List Entry) (user : ℕ) → o.name ≡ 44 → es ≡ b ++ (holding NID_XUSER user ∷ [])
      → (v ≡ o.dir → ⊥) → Differs es Q_DIR v

-- ---- 10

-- "From now on 2 collides with 0, 1 and 2": two directions collide that are the same, or of which one is both ways
abbrev pub Collide : ℕ → ℕ → Type 0
Collide d e = (d ≡ e) ⊎ ((d ≡ 2) ⊎ (e ≡ 2))

-- "10: a second packet, other than ETCS-44, has the NID_PACKET .. of an earlier one", and a Q_DIR that collides with its Q_DIR: the next field is a Q_DIR
-- right behind a NID_PACKET, before which a packet with the same NID_PACKET stands
pub data Repeats (es : List Entry) : Field → ℕ → Type 0 where
  repeats : {v : ℕ} (b : List Entry) (id dir : ℕ) → es ≡ b ++ (holding NID_PACKET id ∷ []) → (id ≡ 44 → ⊥) → PacketIn b id dir
      → Collide v dir → Repeats es Q_DIR v

-- ---- by a value: 4, 6 to 10, 12 and 13

-- The value v breaks a rule: its kind, and its place, "the bit where the offending field begins; for 8 that is the L_PACKET field". Several can be broken by one
-- value, as 7 and 10 by a Q_DIR of 3 behind a packet for both ways, or 6 and 8 by a CTCS-6; which of them is told is a matter of their order (Given)
pub data Breaks (es : List Entry) (t : Items) (v : ℕ) : Kind → ℕ → Type 0 where
  four : HeaderBroken es (due t) v → Breaks es t v Header (bit_count es)
  six : Unlisted (due t) v → Breaks es t v Unknown (bit_count es)
  seven : Disallowed (due t) v → Breaks es t v Value (bit_count es)
  -- "8 is tested after a packet's last field"
  eight : {x : ℕ} → next t v ≡ some end → Misfits (es ++ (holding (named t v) v ∷ [])) x → Breaks es t v Length x
  nine : Differs es (due t) v → Breaks es t v Direction (bit_count es)
  ten : Repeats es (due t) v → Breaks es t v Repeated (bit_count es)
  -- "12: writer: a value does not fit its field's width"
  twelve : 2 ^ (due t).width ≤ v → Breaks es t v Wide (bit_count es)
  -- "13: writer: the field would end past bit 830". A reader never breaks it: no more than 830 bits are read, so that such a field breaks 5
  thirteen : 830 < bit_count es + (due t).width → Breaks es t v Full (bit_count es)

-- it breaks none
abbrev pub Keeps : List Entry → Items → ℕ → Type 0
Keeps es t v = (k : Kind) (x : ℕ) → Breaks es t v k x → ⊥

-- ---- with so much left of the bits or values: these, 5 and 11

pub data Broken (m : Medium) (es : List Entry) (t : Items) (left : List ℕ) : Kind → ℕ → Type 0 where
  by_value : (v : ℕ) (rest : List ℕ) {k : Kind} {x : ℕ} → NextIs m (due t) left v rest → Breaks es t v k x → Broken m es t left k x
  -- "for 5 the field that couldn't be finished"
  five : Ends m (due t) left → Broken m es t left Ended (bit_count es)
  -- "11: bits, or values, follow the end mark": "for 11 the first bit past the end mark"
  eleven : (y : ℕ) (rest : List ℕ) → t ≡ end → NextIs m (due t) left 255 (y ∷ rest) → Broken m es t left Trailing (bit_count es + 8)
