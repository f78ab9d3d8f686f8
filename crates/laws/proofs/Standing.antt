-- What the entries that were sent say of the state that they lead to: which packet is in hand, where it begins, and how long it says it
-- is. One field more keeps it. Assumes nothing.
use mathlib.Core.Bool.{false}
use mathlib.Core.List.{List, [], ◌∷◌, ◌++◌, append_assoc}
use mathlib.Core.Option.{Option, some, none}
use mathlib.Core.Path.{◌≡◌, refl, sym, ap, ◌∙◌, subst}
use Prim.Native.Nat.{ℕ, ◌+◌}
use native.Mathlib.Omega.{arith}
use borrow.Author.Tests.{eqb-false, ne_eqb}
use lib.Dec.{T, eqb}
use Rattle.format.specs.Among.{holding, Without, Inside}
use Rattle.format.specs.Fields.{Field, NID_PACKET, NID_XUSER, Q_DIR, L_PACKET}
use Rattle.format.specs.Fields.Rule.{packet}
use Rattle.format.specs.Packets.{Items, find, etcs, ctcs}
use Rattle.format.specs.Packets.Items.{end, send}
use Rattle.format.specs.Rules.{State, Context, Terms, field, due, named, next, or_end, known, unless, rule_of, broken, noted, place_from}
use Rattle.format.specs.Rules.Level.{in_header, in_packet, in_user}
use Rattle.format.specs.Telegrams.{Entry, entry, bit_count}
use Rattle.format.specs.declared.Kind.TheVariants.{Length, Unknown}
use Rattle.laws.proofs.Steps.{going, going_on}
use Rattle.laws.proofs.Tile.{bit_count_append}
use Rattle.laws.proofs.Every.{Every}
use Rattle.laws.proofs.Headed.{InHeader, InBody, every_sent, every_due, every_on, outer_body, inner_body, packet_headed, user_headed, Carried, outer_body_lem, inner_body_lem}
use Rattle.laws.proofs.Headed.Carried.{carrying, filled}
use Rattle.laws.proofs.Noted.{direction_in_packet, size_in_packet, direction_in_user, size_in_user, user_noted, packet_noted, body_noted, header_noted, header_place, packet_place}

-- ---- a packet, field by field

-- How far a packet was sent, with the bit where it begins and its L_PACKET: its identifier; its Q_DIR; its L_PACKET. Rest is what the
-- tables say of what stands behind the L_PACKET, Later what is still so of what is left of that.
pub data Begun (id : Field) (Rest Later : Items → Type 0) (es : List Entry) (start long : ℕ) : Items → Type 0 where
  identified : (b : List Entry) (n : ℕ) {r : Items} → es ≡ b ++ (holding id n ∷ []) → start ≡ bit_count b → Rest r
      → Begun id Rest Later es start long (send Q_DIR (send L_PACKET r))
  directed : (b : List Entry) (n d : ℕ) {r : Items} → es ≡ b ++ (holding id n ∷ holding Q_DIR d ∷ []) → start ≡ bit_count b → Rest r
      → Begun id Rest Later es start long (send L_PACKET r)
  sized : {t : Items} (h : Inside id es) → start ≡ bit_count h.before → long ≡ h.size → Later t → Begun id Rest Later es start long t

-- one entry more, of another field
without_append : (f : Field) (es : List Entry) (e : Entry) → Without f es → (e.field ≡ f → ⊥) → Without f (es ++ (e ∷ []))
without_append f [] e w n = (n, tt)
without_append f (x ∷ es) e w n = (w.0, without_append f es e w.1 n)

-- an entry behind a list that ends in m
pub appended : {es : List Entry} (b m : List Entry) (e : Entry) → es ≡ b ++ m → es ++ (e ∷ []) ≡ b ++ (m ++ (e ∷ []))
appended b m e i = ap (λ (l : List Entry). l ++ (e ∷ [])) i ∙ append_assoc b m (e ∷ [])

-- one field more of a packet
abbrev longer : {id : Field} {es : List Entry} → Inside id es → (e : Entry) → (e.field ≡ id → ⊥) → Inside id (es ++ (e ∷ []))
longer {id} h e n =
    record {
      before = h.before;
      name = h.name;
      dir = h.dir;
      size = h.size;
      after = h.after ++ (e ∷ []);
      parts = appended h.before _ e h.parts;
      own = without_append id h.after e h.own n;
    }

-- its L_PACKET
abbrev measured : {id : Field} {es : List Entry} (b : List Entry) (n d v : ℕ) → es ≡ b ++ (holding id n ∷ holding Q_DIR d ∷ [])
    → Inside id (es ++ (holding L_PACKET v ∷ []))
measured {id} b n d v e =
    record {
      before = b;
      name = n;
      dir = d;
      size = v;
      after = [];
      parts = appended b _ (holding L_PACKET v) e;
      own = tt;
    }

-- ---- where the entries stand

-- a packet, and a CTCS packet
abbrev pub Outer : List Entry → ℕ → ℕ → Items → Type 0
Outer es start long t = Begun NID_PACKET (λ r. T (outer_body r)) Carried es start long t

abbrev pub Inner : List Entry → ℕ → ℕ → Items → Type 0
Inner es start long t = Begun NID_XUSER (λ r. T (inner_body r)) (Every InBody) es start long t

-- the bit where what stands behind an L_PACKET begins
abbrev pub body_at : {id : Field} {es : List Entry} → Inside id es → ℕ
body_at {id} h = bit_count h.before + (id.width + (Q_DIR.width + L_PACKET.width))

-- in the header, in a packet, or in the CTCS packet inside one
pub data Amid (es : List Entry) (t : Items) (c : Context) : Type 0 where
  amid_header : c.level ≡ in_header → Every InHeader t → Amid es t c
  amid_packet : c.level ≡ in_packet → Outer es c.start c.long t → Amid es t c
  amid_user : c.level ≡ in_user → (o : Inside NID_PACKET es) → c.start ≡ bit_count o.before → c.long ≡ o.size → (k : ℕ)
      → c.user_start ≡ body_at o + k → Inner o.after k c.user_long t → Amid es t c

-- the same L_PACKET is wrong by either context
pub record Still (c d : Context) : Type 0 where
  pub level : c.level ≡ d.level
  pub place : (at past : ℕ) → place_from Length at past c ≡ place_from Length at past d

-- a value leads from a context to the next; at a packet's last field, the context before tells where its L_PACKET stands
pub record Leads (es : List Entry) (u : Items) (c d : Context) : Type 0 where
  pub amid : Amid es u d
  pub still : u ≡ end → Still c d

-- ---- one field more

-- the bits of entries that end inside a packet
pub inside_bits : {id : Field} {es : List Entry} (h : Inside id es) → bit_count es ≡ body_at h + bit_count h.after
inside_bits {id} h =
    ap bit_count h.parts
    ∙ bit_count_append h.before (holding id h.name ∷ holding Q_DIR h.dir ∷ holding L_PACKET h.size ∷ h.after)
    ∙ omega arith

-- fields of two numbers are two
pub apart : (f g : Field) → eqb f.number g.number ≡ false → f ≡ g → ⊥
apart f g n e = eqb-false f.number g.number n (ap (λ (h : Field). h.number) e)

-- no field of a body is an identifier
body_not : (f g : Field) → InBody f → (InBody g → ⊥) → f ≡ g → ⊥
body_not f g k n e = n (subst InBody e k)

-- the end mark's value is no packet's
mark_unlisted : find 255 etcs ≡ none
unfolding find etcs
mark_unlisted = refl

module _ (p : Terms) (c : Context) (at v : ℕ) (u : Items) where
  still_same : Still c c
  still_same = record { level = refl; place = λ a b. refl }

  header_next : (es : List Entry) (t : Items) → c.level ≡ in_header → T (going t) → Every InHeader t → next t v ≡ some u
      → Leads (es ++ (holding (named t v) v ∷ [])) u c (noted (rule_of (due t).sense) c at v)
  header_next es t l g k j =
      let m = header_noted c at v (rule_of (due t).sense) (every_due InHeader t g k) in
      record {
        amid = amid_header (m ∙ l) (every_on InHeader (λ h. h) t v u g k j);
        still = λ i. record { level = sym m; place = λ a b. header_place a b c l ∙ sym (header_place a b _ (m ∙ l)) };
      }

  -- an identifier that is allowed is in the table
  listed : (o : Option Items) → find v ctcs ≡ o → unless (known o) Unknown ≡ none → some (or_end o) ≡ some u → find v ctcs ≡ some u
  listed none f b i = cc
  listed (some t) f b i = cc

  -- in a packet; its CTCS packet begins where the entries end
  outer_next : {es : List Entry} {t : Items} → c.level ≡ in_packet → at ≡ bit_count es → T (going t) → Outer es c.start c.long t
      → broken p c (rule_of (due t).sense) v ≡ none → next t v ≡ some u
      → Leads (es ++ (holding (named t v) v ∷ [])) u c (noted (rule_of (due t).sense) c at v)
  unfolding next broken
  outer_next l a g (identified b n {r = r} e h q) i j =
      let eu : u ≡ send L_PACKET r = cc in
      rw (eu, direction_in_packet c at v l)
      (record {
        amid = amid_packet refl (directed b n v (appended b _ (holding Q_DIR v) e) h q);
        still = λ k. going_on (send L_PACKET r) tt k;
      })
  outer_next l a g (directed b n d {r = r} e h q) i j =
      let eu : u ≡ r = cc in
      rw (eu, size_in_packet c at v l)
      (record {
        amid = amid_packet refl (sized (measured b n d v e) h refl (outer_body_lem r q));
        still = λ k. record { level = l; place = λ x y. packet_place x y c l ∙ sym (packet_place x y _ refl) };
      })
  outer_next l a g (sized h x y carrying) i j =
      let hd = user_headed v u (listed (find v ctcs) refl i j) in
      rw (hd.is, user_noted c at v)
      (record {
        amid = amid_user refl (longer h (holding NID_XUSER v) (apart NID_XUSER NID_PACKET refl)) x y (bit_count h.after) (a ∙ inside_bits h)
            (identified h.after v refl refl hd.tested);
        still = λ k. going_on (send Q_DIR (send L_PACKET hd.rest)) tt k;
      })
  outer_next l a g (sized {t = t} h x y (filled k)) i j =
      let neq = body_not (named t v) NID_PACKET (every_sent InBody t v g k) (λ z. z) in
      rw (body_noted c at v (rule_of (due t).sense) (every_due InBody t g k))
      (record {
        amid = amid_packet l (sized (longer h (holding (named t v) v) neq) x y (filled (every_on InBody (λ z. z) t v u g k j)));
        still = λ z. still_same;
      })

  -- in the CTCS packet; it never ends with its L_PACKET, so that at its end the context before knows it already
  inner_next : {es : List Entry} {t : Items} → c.level ≡ in_user → (o : Inside NID_PACKET es) → c.start ≡ bit_count o.before
      → c.long ≡ o.size → (k : ℕ) → c.user_start ≡ body_at o + k → T (going t) → Inner o.after k c.user_long t → next t v ≡ some u
      → Leads (es ++ (holding (named t v) v ∷ [])) u c (noted (rule_of (due t).sense) c at v)
  unfolding next
  inner_next l o x y k z g (identified b n {r = r} e h q) j =
      let eu : u ≡ send L_PACKET r = cc in
      rw (eu, direction_in_user c at v l)
      (record {
        amid = amid_user l (longer o (holding Q_DIR v) (apart Q_DIR NID_PACKET refl)) x y k z (directed b n v (appended b _ (holding Q_DIR v) e) h q);
        still = λ i. still_same;
      })
  inner_next l o x y k z g (directed b n d {r = r} e h q) j =
      let eu : u ≡ r = cc in
      let m = inner_body_lem r q in
      rw (eu, size_in_user c at v l)
      (record {
        amid = amid_user refl (longer o (holding L_PACKET v) (apart L_PACKET NID_PACKET refl)) x y k z (sized (measured b n d v e) h refl m.1);
        still = going_on r m.0;
      })
  inner_next l o x y k z g (sized {t = t} h a b w) j =
      let f : InBody (named t v) = every_sent InBody t v g w in
      let e : Entry = holding (named t v) v in
      rw (body_noted c at v (rule_of (due t).sense) (every_due InBody t g w))
      (record {
        amid = amid_user l (longer o e (body_not (named t v) NID_PACKET f (λ i. i))) x y k z
            (sized (longer h e (body_not (named t v) NID_XUSER f (λ i. i))) a b (every_on InBody (λ i. i) t v u g w j));
        still = λ i. still_same;
      })

  -- from one packet to the next
  pub mark_apart : find v etcs ≡ some u → eqb v 255 ≡ false
  mark_apart e = ne_eqb v 255 (λ i. let z : ◌≡◌ {A = ℕ} 0 1 = cc mark_unlisted in omega arith)

  between_next : (es : List Entry) → c.start ≡ bit_count es → next end v ≡ some u
      → Leads (es ++ (holding (named end v) v ∷ [])) u c (noted packet c at v)
  unfolding next
  between_next es x j =
      let hd = packet_headed v u j in
      rw (mark_apart j, hd.is, packet_noted c at v)
      (record {
        amid = amid_packet refl (identified es v refl x hd.tested);
        still = going_on (send Q_DIR (send L_PACKET hd.rest)) tt;
      })

  amid_next : {es : List Entry} {t : Items} → at ≡ bit_count es → T (going t) → Amid es t c → broken p c (rule_of (due t).sense) v ≡ none
      → next t v ≡ some u → Leads (es ++ (holding (named t v) v ∷ [])) u c (noted (rule_of (due t).sense) c at v)
  amid_next {es} {t} a g (amid_header l k) b j = header_next es t l g k j
  amid_next a g (amid_packet l k) b j = outer_next l a g k b j
  amid_next a g (amid_user l o x y k z h) b j = inner_next l o x y k z g h j

-- ---- the state

-- the entries stand between two packets, or amid one or the header
pub data Stands (es : List Entry) (s : State) : Type 0 where
  between : s.todo ≡ end → s.context.level ≡ in_packet → s.context.start ≡ s.at → Stands es s
  amid : T (going s.todo) → Amid es s.todo s.context → Stands es s

pub stands_next : (p : Terms) (es : List Entry) (s : State) (v : ℕ) (u : Items) → s.at ≡ bit_count es → Stands es s
    → broken p s.context (rule_of (field s).sense) v ≡ none → next s.todo v ≡ some u
    → Leads (es ++ (entry s v ∷ [])) u s.context (noted (rule_of (field s).sense) s.context s.at v)
stands_next p es s v u a (amid g h) b j = amid_next p s.context s.at v u a g h b j
stands_next p es s v u a (between i l x) b j = rw i (between_next p s.context s.at v u es (x ∙ a) (rw i at j))
