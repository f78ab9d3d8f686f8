-- Where a value breaks a rule, the entries before it say which field that is: the one that is due, of the sort that the kind is about, or
-- the L_PACKET that is wrong. Assumes nothing.
use mathlib.Core.Bool.{Bool, true, false, cond, not, ◌&&◌, ◌||◌}
use mathlib.Core.List.{List}
use mathlib.Core.Option.{Option, some, none}
use mathlib.Core.Path.{◌≡◌, refl, ◌∙◌, subst}
use Prim.Native.Nat.{ℕ, ◌+◌, ◌-◌}
use native.Mathlib.Omega.{arith}
use borrow.Author.Tests.{eqb-true, eqb-false}
use lib.Dec.{T, eqb, leb}
use Rattle.format.specs.Among.{Inside, size_at}
use Rattle.format.specs.Fields.{Field, Rule, NID_PACKET, NID_XUSER, Q_DIR}
use Rattle.format.specs.Fields.Rule.{any, packet, user, direction, size, pig, total, radio, within}
use Rattle.format.specs.Packets.{Items, find, etcs, ctcs}
use Rattle.format.specs.Packets.Items.{end}
use Rattle.format.specs.Rules.{State, Context, Terms, Level, field, due, rule_of, radio_from, known, unless, forbidden, misdirected, broken, closes, place_from}
use Rattle.format.specs.Rules.Level.{in_header, in_packet, in_user}
use Rattle.format.specs.Telegrams.{Entry, bit_count}
use Rattle.format.specs.declared.Kind.{Kind}
use Rattle.format.specs.declared.Kind.TheVariants.{Unknown, Value, Length, Direction, Repeated}
use Rattle.laws.proofs.Steps.{going}
use Rattle.laws.proofs.Tile.{bit_count_append}
use Rattle.laws.proofs.Points.{Wrong, Offends}
use Rattle.laws.proofs.Points.Offends.{in_header_lem, packet_name, user_name, in_packet_lem, in_user_lem, user_direction, packet_direction}
use Rattle.laws.proofs.Points.Wrong.{alone, inner, outer}
use Rattle.laws.proofs.Points as points
use Rattle.laws.proofs.Headed.{of_header, of_body, InHeader, InBody, every_due}
use Rattle.laws.proofs.Headed.Carried.{carrying, filled}
use Rattle.laws.proofs.Noted.{packet_place, user_place}
use Rattle.laws.proofs.Standing.{Amid, Stands, body_at, inside_bits}
use Rattle.laws.proofs.Standing.Begun.{identified, directed, sized}
use Rattle.laws.proofs.Standing.Amid.{amid_header, amid_packet, amid_user}
use Rattle.laws.proofs.Standing.Stands.{between, amid}

-- ---- an L_PACKET that is wrong

size_at_lem : {id : Field} {es : List Entry} (h : Inside id es) → size_at h ≡ bit_count h.before + (id.width + Q_DIR.width)
size_at_lem h = bit_count_append h.before _ ∙ omega arith

module _ {es : List Entry} (past : ℕ) (c : Context) (a : past ≡ bit_count es) where
  -- in a CTCS packet, by whether it is as long as it says
  user_wrong : (b : Bool) (o : Inside NID_PACKET es) → c.start ≡ bit_count o.before → c.long ≡ o.size → (h : Inside NID_XUSER o.after)
      → c.user_start ≡ body_at o + bit_count h.before → c.user_long ≡ h.size → eqb (past - c.user_start) c.user_long ≡ b
      → b && eqb (past - c.start) c.long ≡ false
      → Wrong es in_user (cond b (c.start + (NID_PACKET.width + Q_DIR.width)) (c.user_start + (NID_XUSER.width + Q_DIR.width)))
  user_wrong true o x y h z w t e =
      let so = size_at_lem o in
      let bo = inside_bits o in
      let bh = inside_bits h in
      let i : past - c.user_start ≡ c.user_long = eqb-true _ _ t in
      subst (λ (n : ℕ). Wrong es in_user n) (omega arith)
      (outer o h (omega arith) (λ m. eqb-false (past - c.start) c.long e (omega arith)))
  user_wrong false o x y h z w t e =
      let sh = size_at_lem (points.within o h) in
      let before : bit_count (points.within o h).before ≡ bit_count o.before + (8 + (2 + (13 + bit_count h.before))) = bit_count_append o.before _ in
      let bo = inside_bits o in
      let bh = inside_bits h in
      subst (λ (n : ℕ). Wrong es in_user n) (omega arith)
      (inner o h (λ m. eqb-false (past - c.user_start) c.user_long t (omega arith)))

  pub wrong : (at : ℕ) → Amid es end c → closes past c c.level ≡ false → Wrong es c.level (place_from Length at past c)
  unfolding closes
  wrong at (amid_header l k) e = let i : true ≡ false = rw l at e in let z : ◌≡◌ {A = ℕ} 0 1 = cc in absurd (omega arith)
  wrong at (amid_packet l (sized h x y k)) e =
      let i : eqb (past - c.start) c.long ≡ false = rw l at e in
      let sh = size_at_lem h in
      let bh = inside_bits h in
      rw (packet_place at past c l, l)
      (subst (λ (n : ℕ). Wrong es in_packet n) (omega arith) (alone h (λ m. eqb-false (past - c.start) c.long i (omega arith))))
  wrong at (amid_user l o x y k z (sized h u w m)) e =
      let b = eqb (past - c.user_start) c.user_long in
      let i : b && eqb (past - c.start) c.long ≡ false = rw l at e in
      rw (user_place at past c b l refl, l) (user_wrong b o x y h (omega arith) w refl i)

-- ---- a field whose value is not allowed

-- no rule is broken, and one is
none_some : {A : Type 0} {k : Kind} → ◌≡◌ {A = Option Kind} none (some k) → A
none_some e = let z : ◌≡◌ {A = ℕ} 0 1 = cc in absurd (omega arith)

-- a rule that breaks as one kind
by_unless : {f : Field} {l : Level} {k : Kind} (b : Bool) (n : Kind) → unless b n ≡ some k → Offends n f l → Offends k f l
by_unless true n e o = none_some e
by_unless {f} {l} {k} false n e o = let i : n ≡ k = cc in subst (λ m. Offends m f l) i o

module _ (p : Terms) (c : Context) (v : ℕ) (k : Kind) where
  header_offends : (f : Field) (r : Rule) → T (of_header r) → c.level ≡ in_header → broken p c r v ≡ some k → Offends k f in_header
  unfolding broken
  header_offends f any h l e = none_some e
  header_offends f packet h l e = absurd h
  header_offends f user h l e = absurd h
  header_offends f direction h l e = absurd h
  header_offends f size h l e = absurd h
  header_offends f pig h l e = none_some e
  header_offends f total h l e = by_unless (leb c.pig v) _ e in_header_lem
  header_offends f radio h l e = absurd h
  header_offends f (within a b) h l e = by_unless (leb a v && leb v b) _ (rw l at e) in_header_lem

  body_offends : (f : Field) (m : Level) (r : Rule) → T (of_body r) → forbidden m ≡ Value → c.level ≡ m → broken p c r v ≡ some k → Offends Value f m
      → Offends k f m
  unfolding broken
  body_offends f m any h g l e o = none_some e
  body_offends f m packet h g l e o = absurd h
  body_offends f m user h g l e o = absurd h
  body_offends f m direction h g l e o = absurd h
  body_offends f m size h g l e o = absurd h
  body_offends f m pig h g l e o = absurd h
  body_offends f m total h g l e o = absurd h
  body_offends f m radio h g l e o = by_unless (radio_from 16 false v) Value e o
  body_offends f m (within a b) h g l e o = by_unless (leb a v && leb v b) Value (rw (l, g) at e) o

  -- a Q_DIR: it is no direction, or it is the wrong one
  by_direction : {m : Level} (b : Bool) (t : Option Kind) → cond b t (some Value) ≡ some k → Offends Value Q_DIR m
      → (t ≡ some k → Offends k Q_DIR m) → Offends k Q_DIR m
  by_direction {m} true t e o g = g e
  by_direction {m} false t e o g = let i : Value ≡ k = cc in subst (λ n. Offends n Q_DIR m) i o

  at_level : (m : Level) → c.level ≡ m → cond (leb v 2) (misdirected p c c.level v) (some Value) ≡ some k
      → cond (leb v 2) (misdirected p c m v) (some Value) ≡ some k
  at_level m l e = subst (λ i. cond (leb v 2) (misdirected p c i v) (some Value) ≡ some k) l e

  amid_offends : {es : List Entry} {t : Items} → T (going t) → Amid es t c → broken p c (rule_of (due t).sense) v ≡ some k
      → Offends k (due t) c.level
  unfolding broken misdirected
  amid_offends {t = t} g (amid_header l h) e = rw l (header_offends (due t) (rule_of (due t).sense) (every_due InHeader t g h) l e)
  amid_offends g (amid_packet l (identified b n i x q)) e =
      rw l
      (by_direction (leb v 2) (misdirected p c in_packet v) (at_level in_packet l e) in_packet_lem (λ h. by_unless (not (p.collides c v)) Repeated h packet_direction))
  amid_offends g (amid_packet l (directed b n d i x q)) e = none_some e
  amid_offends g (amid_packet l (sized h x y carrying)) e = rw l (by_unless (known (find v ctcs)) Unknown e user_name)
  amid_offends g (amid_packet l (sized {t = t} h x y (filled w))) e =
      rw l (body_offends (due t) in_packet (rule_of (due t).sense) (every_due InBody t g w) refl l e in_packet_lem)
  amid_offends g (amid_user l o x y z u (identified b n i h q)) e =
      rw l (by_direction (leb v 2) (misdirected p c in_user v) (at_level in_user l e) in_user_lem (λ h. by_unless (eqb v c.dir) Direction h user_direction))
  amid_offends g (amid_user l o x y z u (directed b n d i h q)) e = none_some e
  amid_offends g (amid_user l o x y z u (sized {t = t} h a b w)) e =
      rw l (body_offends (due t) in_user (rule_of (due t).sense) (every_due InBody t g w) refl l e in_user_lem)

pub offends : (p : Terms) {es : List Entry} (s : State) (v : ℕ) (k : Kind) → Stands es s
    → broken p s.context (rule_of (field s).sense) v ≡ some k → Offends k (field s) s.context.level
unfolding broken
offends p s v k (amid g h) e = amid_offends p s.context v k g h e
offends p s v k (between i l x) e = rw (l, i) (by_unless (eqb v 255 || known (find v etcs)) Unknown (rw i at e) packet_name)
