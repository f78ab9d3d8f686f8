-- docs/RULES.md, "Refusal numbers" and "Allowed values": which field is due, which rule its value breaks, and what is due after it; and
-- where a refusal points, and which packets collide.
-- Reading, writing and normalising all go by `step`. Definitions alone.
use Rattle.std.specs.Prelude.{Bool, true, false, cond, not, ◌&&◌, ◌||◌, List, [], ◌∷◌, ℕ, zero, suc, ◌+◌, ◌-◌, ◌/◌, ◌%◌, ◌^◌, eqb, leb}
use Rattle.std.proofs.Math.Option.{Option, some, none}
use Rattle.format.specs.Fields.{Field, Rule, Sense, steers, NID_PACKET, NID_XUSER, Q_DIR, END}
use Rattle.format.specs.Fields.Rule.{any, packet, user, direction, size, pig, total, radio, within}
use Rattle.format.specs.Fields.Sense.{plain, scale, distance, text_length}
use Rattle.format.specs.Packets.{Items, times, header, etcs, ctcs, find}
use Rattle.format.specs.Packets.Items.{end, nest, send, send_if, send_either, send_times}
use Rattle.format.specs.Refusals.{number_of}
use Rattle.format.specs.declared.Kind.{Kind}
use Rattle.format.specs.declared.Kind.TheVariants.{Header, Unknown, Value, Length, Direction, Repeated}
use Rattle.format.specs.declared.Spot.{Spot}
use Rattle.format.specs.declared.Spot.TheVariants.{Due, Behind, Outer, Inner}

-- ---- where a telegram stands

pub data Level : Type 0 where
  in_header in_packet in_user : Level

-- a packet that came before: its NID_PACKET and Q_DIR
pub record Earlier : Type 0 where
  pub id : ℕ
  pub dir : ℕ

-- what the rules still need of the fields that were sent
pub record Context : Type 0 where
  pub level : Level
  -- the outermost packet in hand, or the next one: where it begins, its NID_PACKET, Q_DIR and L_PACKET
  pub start : ℕ
  pub id : ℕ
  pub dir : ℕ
  pub long : ℕ
  -- the CTCS packet inside it: where it begins and its L_PACKET
  pub user_start : ℕ
  pub user_long : ℕ
  pub pig : ℕ
  -- every packet whose Q_DIR was sent, the latest first
  pub earlier : List Earlier

abbrev pub context : Level → ℕ → ℕ → ℕ → ℕ → ℕ → ℕ → ℕ → List Earlier → Context
context l s i d n us un p e =
    record { level = l; start = s; id = i; dir = d; long = n; user_start = us; user_long = un; pig = p; earlier = e }

-- the bit where the next field begins, what is to be sent, and the context
pub record State : Type 0 where
  pub at : ℕ
  pub todo : Items
  pub context : Context

unfoldable pub begun : State
begun = record { at = 0; todo = header; context = context in_header 0 0 0 0 0 0 0 [] }

-- ---- what is due

-- the field that is due; where nothing is left to send, the next packet or the end mark is
abbrev pub due : Items → Field
due end = NID_PACKET
due nest = NID_XUSER
due (send f r) = f
due (send_if c f r) = steers c
due (send_either c a b) = steers c
due (send_times c g r) = steers c

abbrev pub field : State → Field
field s = due s.todo

-- the bit where it ends
abbrev pub past : State → ℕ
past s = s.at + (field s).width

-- the name under which its value is sent: "255: the end mark"
abbrev pub named : Items → ℕ → Field
named end v = cond (eqb v 255) END NID_PACKET
named nest v = NID_XUSER
named (send f r) v = f
named (send_if c f r) v = steers c
named (send_either c a b) v = steers c
named (send_times c g r) v = steers c

abbrev pub or_end : Option Items → Items
or_end none = end
or_end (some t) = t

-- what is to be sent after its value; none after the end mark
unfoldable pub next : Items → ℕ → Option Items
next end v = find v etcs
next nest v = some (or_end (find v ctcs))
next (send f r) v = some r
next (send_if c f r) v = some (cond (eqb v 1) (send f r) r)
next (send_either c a b) v = some (cond (eqb v 1) a b)
next (send_times c g r) v = some (times v g r)

-- ---- which rule a value breaks

-- What is decided apart from the rest and may change: the place that a refusal gives, for its kind and the state before the field, and
-- whether a packet collides with an earlier one, for the Q_DIR that it holds.
pub record Terms : Type 0 where
  pub place_of : Kind → State → ℕ
  pub collides : Context → ℕ → Bool

abbrev pub known : Option Items → Bool
known none = false
known (some t) = true

-- "none or more digits 0..9, then only F": the k lowest places of v, after an F or not
unfoldable pub radio_from : ℕ → Bool → ℕ → Bool
radio_from zero full v = true
radio_from (suc k) full v =
    let d = v / 16 ^ k % 16 in (eqb d 15 || leb d 9 && not full) && radio_from k (full || eqb d 15) v

abbrev pub rule_of : Sense → Rule
rule_of (plain r) = r
-- "Q_DIR, Q_SCALE, .. 0..2"
rule_of scale = within 0 2
rule_of distance = any
rule_of text_length = any

abbrev pub unless : Bool → Kind → Option Kind
unless true k = none
unless false k = some k

-- "4: a header rule is broken", "7: a field holds a value not allowed below"
abbrev pub forbidden : Level → Kind
forbidden in_header = Header
forbidden in_packet = Value
forbidden in_user = Value

-- "9: a CTCS packet's Q_DIR differs from that of its ETCS-44", "10: a second packet .."
unfoldable pub misdirected : Terms → Context → Level → ℕ → Option Kind
misdirected p c in_header v = none
misdirected p c in_packet v = unless (not (p.collides c v)) Repeated
misdirected p c in_user v = unless (eqb v c.dir) Direction

-- "then 4, 6 or 7, then 9 (inner Q_DIR) or 10 (outer Q_DIR)"
unfoldable pub broken : Terms → Context → Rule → ℕ → Option Kind
broken p c any v = none
broken p c packet v = unless (eqb v 255 || known (find v etcs)) Unknown
broken p c user v = unless (known (find v ctcs)) Unknown
broken p c direction v = cond (leb v 2) (misdirected p c c.level v) (some Value)
broken p c size v = none
broken p c pig v = none
broken p c total v = unless (leb c.pig v) Header
broken p c radio v = unless (radio_from 16 false v) Value
broken p c (within a b) v = unless (leb a v && leb v b) (forbidden c.level)

-- ---- what the value leaves for later rules

-- "8: L_PACKET" counts from the identifier: the packet began where its NID_PACKET did, the CTCS packet where its NID_XUSER did
unfoldable pub noted : Rule → Context → ℕ → ℕ → Context
noted any c at v = c
noted packet c at v = context in_packet c.start v 0 0 0 0 c.pig c.earlier
noted user c at v = context in_user c.start c.id c.dir c.long at 0 c.pig c.earlier
noted direction c at v = directed c.level
  where
    directed : Level → Context
    directed in_header = c
    directed in_packet = context in_packet c.start c.id v c.long c.user_start c.user_long c.pig (record { id = c.id; dir = v } ∷ c.earlier)
    directed in_user = c
noted size c at v = measured c.level
  where
    measured : Level → Context
    measured in_header = c
    measured in_packet = context in_packet c.start c.id c.dir v c.user_start c.user_long c.pig c.earlier
    measured in_user = context in_user c.start c.id c.dir c.long c.user_start v c.pig c.earlier
noted pig c at v = context c.level c.start c.id c.dir c.long c.user_start c.user_long v c.earlier
noted total c at v = c
noted radio c at v = c
noted (within a b) c at v = c

-- ---- a packet's end

-- "8 is tested after a packet's last field, the inner packet before its ETCS-44": every packet that ends here is as long as it says
unfoldable pub closes : ℕ → Context → Level → Bool
closes at c in_header = true
closes at c in_packet = eqb (at - c.start) c.long
closes at c in_user = eqb (at - c.user_start) c.user_long && eqb (at - c.start) c.long

-- before the next packet, or the end mark
abbrev pub fresh : ℕ → Context → Context
fresh at c = context in_packet at 0 0 0 0 0 c.pig c.earlier

-- ---- one field

-- What a value leads to: on with these items, the end mark passed, or the kind of rule that it breaks.
pub data Next : Type 0 where
  go : Items → Context → Next
  over : Next
  breaks : Kind → Next

unfoldable pub settled : ℕ → Items → Context → Next
settled at end c = cond (closes at c c.level) (go end (fresh at c)) (breaks Length)
settled at nest c = go nest c
settled at (send f r) c = go (send f r) c
settled at (send_if s f r) c = go (send_if s f r) c
settled at (send_either s a b) c = go (send_either s a b) c
settled at (send_times s g r) c = go (send_times s g r) c

unfoldable pub onward : ℕ → Option Items → Context → Next
onward at none c = over
onward at (some t) c = settled at t c

abbrev pub verdict : Option Kind → Next → Next
verdict none n = n
verdict (some k) n = breaks k

-- the value breaks a rule; or it is noted, and after a packet's last field its length is tested
unfoldable pub step : Terms → State → ℕ → Next
step p s v =
    let r = rule_of (field s).sense in
    verdict (broken p s.context r v) (onward (past s) (next s.todo v) (noted r s.context s.at v))

abbrev pub moved : State → Items → Context → State
moved s t c = record { at = past s; todo = t; context = c }

-- ---- the place of a refusal

abbrev pub by_level : {A : Type 0} → Level → A → A → A → A
by_level in_header a b c = a
by_level in_packet a b c = b
by_level in_user a b c = c

-- The L_PACKET that is wrong where a packet's last field ends at the bit past: the packet's own; in a CTCS packet its own, which is tested
-- first, or else that of the packet around it.
abbrev pub misfit : ℕ → Context → Spot
misfit past c = by_level c.level Due Outer (cond (eqb (past - c.user_start) c.user_long) Outer Inner)

-- docs/RULES.md, "Place", asked for as "the offending field ..; for 8 that is the L_PACKET field, for 11 the first bit past the end mark"; it is found at a
-- field that ends at the bit past
unfoldable pub spot_of : Kind → ℕ → Context → Spot
spot_of k past c = cond (eqb (number_of k) 8) (misfit past c) (cond (eqb (number_of k) 11) Behind Due)

-- the bit where that begins; an L_PACKET stands behind the identifier and the Q_DIR of its packet
unfoldable pub spot_at : Spot → ℕ → ℕ → Context → ℕ
spot_at Due at past c = at
spot_at Behind at past c = past
spot_at Outer at past c = c.start + (NID_PACKET.width + Q_DIR.width)
spot_at Inner at past c = c.user_start + (NID_XUSER.width + Q_DIR.width)

-- "Refusals 4 to 13 shall give the bit where the offending field begins", "for 5 the field that couldn't be finished"
unfoldable pub place_from : Kind → ℕ → ℕ → Context → ℕ
place_from k at past c = spot_at (spot_of k past c) at past c

-- found at the field that is due. Its context has the L_PACKET of a CTCS packet, behind which every table has a field.
unfoldable pub field_place : Kind → State → ℕ
field_place k s = place_from k s.at (past s) s.context

-- ---- collisions

-- docs/RULES.md, "Packets that collide", asked for as "A packet valid both ways counts for each way", "From now on 2 collides with 0, 1 and 2". When two directions collide: they
-- are the same, or one of them is both ways. (Q_DIR 3 is refused before, by 7.)
unfoldable pub clash : ℕ → ℕ → Bool
clash d e = eqb d e || (eqb d 2 || eqb e 2)

-- one of the packets has this NID_PACKET and a direction that collides with this one, by any rule of directions
unfoldable pub among : (ℕ → ℕ → Bool) → ℕ → ℕ → List Earlier → Bool
among collide i d [] = false
among collide i d (e ∷ es) = eqb i e.id && collide d e.dir || among collide i d es

-- "10: a second packet, other than ETCS-44, has the NID_PACKET .. of an earlier one", and a direction that collides with its Q_DIR: whether a
-- packet with this NID_PACKET and Q_DIR collides with one of these
abbrev pub collides_among : (ℕ → ℕ → Bool) → ℕ → ℕ → List Earlier → Bool
collides_among collide i d before = not (eqb i 44) && among collide i d before

-- of the packet in hand, for the Q_DIR that it holds
unfoldable pub collides_by : (ℕ → ℕ → Bool) → Context → ℕ → Bool
collides_by collide c v = collides_among collide c.id v c.earlier

-- the terms that hold: docs/RULES.md
abbrev pub paper : Terms
paper = record { place_of = field_place; collides = collides_by clash }
