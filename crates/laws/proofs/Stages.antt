-- Along the entries that were sent, packets stand whole and the context has just these: one field more keeps it. For any terms. Assumes nothing.
use mathlib.Core.Bool.{true, false}
use mathlib.Core.List.{List, [], ◌∷◌, ◌++◌, append_assoc}
use mathlib.Core.Option.{some}
use mathlib.Core.Path.{◌≡◌, refl, sym, ap, ◌∙◌, subst}
use Prim.Native.Nat.{ℕ, ◌+◌, ◌-◌, ◌<◌}
use native.Mathlib.Omega.{arith}
use lib.Dec.{T, eqb}
use Rattle.format.specs.Among.{holding}
use Rattle.format.specs.Fields.{Field, NID_PACKET, Q_DIR, L_PACKET}
use Rattle.format.specs.Fields.Rule.{packet, direction, size}
use Rattle.format.specs.Packets.{Items, header}
use Rattle.format.specs.Packets.Items.{end, nest, send, send_if, send_either, send_times}
use Rattle.format.specs.Rules.{State, Context, context, Terms, Earlier, Level, Next, begun, step, field, named, past, next, moved, rule_of, noted, closes, fresh}
use Rattle.format.specs.Rules.Level.{in_header, in_packet, in_user}
use Rattle.format.specs.Rules.Next.{go}
use Rattle.format.specs.Telegrams.{Entry, entry, bit_count, Fits}
use Rattle.laws.proofs.Steps.{going, going_on, Stepped, stepped}
use Rattle.laws.proofs.Steps.Settled.{on, closed, misfitted}
use Rattle.laws.proofs.Steps.Stepped.{forbidden, marked, noticed}
use Rattle.laws.proofs.Tile.{bit_count_append, bits_more, values_more, sent_next, header_plain}
use Rattle.laws.proofs.Points.{Sends}
use Rattle.laws.proofs.Points.Sends.{nothing, one_more}
use Rattle.laws.proofs.Headed.{Headed, InHeader, every_due, with_head, outer_body, packet_headed}
use Rattle.laws.proofs.Noted.{direction_in_packet, size_in_packet, packet_noted, header_noted, kept}
use Rattle.laws.proofs.Standing.{Stands, Amid, appended, apart, mark_apart}
use Rattle.laws.proofs.Standing.Stands.{between, amid}
use Rattle.laws.proofs.Standing.Amid.{amid_header, amid_packet, amid_user}
use Rattle.laws.proofs.Pointed.{past_bits, sends_at}
use Rattle.laws.proofs.Pairs.{one_end}
use Rattle.laws.proofs.Awaited.{Awaits, awaits}
use Rattle.laws.proofs.Awaited.Awaits.{begins, directs, goes_by}
use Rattle.laws.proofs.Recalled.{sends_stands, named_begins}
use Rattle.laws.proofs.Stays.{closes_so, closed_size, Stays, amid_stays, amid_level}
use Rattle.laws.proofs.Whole.{Began, Whole, Goes, headed, Fronts, Past, Stage}
use Rattle.laws.proofs.Whole.Goes.{here, further}
use Rattle.laws.proofs.Whole.Whole.{front, then}
use Rattle.laws.proofs.Whole.Stage.{fronting, resting, after_name, after_dir, after_size}

-- ---- one field more

-- entries that end in an entry of another field
not_named : (es : List Entry) (e : Entry) → (e.field ≡ NID_PACKET → ⊥) → (b : List Entry) (n : ℕ) → es ++ (e ∷ []) ≡ b ++ (holding NID_PACKET n ∷ []) → ⊥
not_named es e h b n i = h (ap (λ (x : Entry). x.field) (one_end es b e (holding NID_PACKET n) i).1)

-- and in no NID_PACKET before that
not_directed : (es : List Entry) (e : Entry) → ((b : List Entry) (n : ℕ) → es ≡ b ++ (holding NID_PACKET n ∷ []) → ⊥) → (b : List Entry) (n d : ℕ)
    → es ++ (e ∷ []) ≡ b ++ (holding NID_PACKET n ∷ holding Q_DIR d ∷ []) → ⊥
not_directed es e h b n d i =
    h b n (one_end es (b ++ (holding NID_PACKET n ∷ [])) e (holding Q_DIR d) (i ∙ sym (append_assoc b (holding NID_PACKET n ∷ []) (holding Q_DIR d ∷ [])))).0

module _ (p : Terms) (es : List Entry) (s : State) (v : ℕ) (a : s.at ≡ bit_count es) (st : Stands es s) (f : Fits s v) where
  abbrev more : List Entry
  more = es ++ (entry s v ∷ [])

  abbrev left : Context
  left = noted (rule_of (field s).sense) s.context s.at v

  -- the field ends where the entries do
  past_is : past s ≡ bit_count more
  past_is = past_bits p es s v a

  -- a field of the header
  front_more : (t u : Items) → s.todo ≡ t → T (going t) → Fronts es t → next t v ≡ some u → Fronts more u
  front_more end u i g h j = absurd g
  front_more (send x r) u i g h j =
      let eu : u ≡ r = sent_next x r u v j in
      let w : (entry s v).field.width ≡ x.width = ap (λ (k : Items). (named k v).width) i in
      rw eu
      (record {
        plain = h.plain.1;
        bits = omega (arith, bits_more es (entry s v), h.bits);
        fields = omega (arith, values_more es (entry s v), h.fields);
      })
  front_more nest u i g h j = absurd h.plain
  front_more (send_if c x r) u i g h j = absurd h.plain
  front_more (send_either c x r) u i g h j = absurd h.plain
  front_more (send_times c x r) u i g h j = absurd h.plain

  -- the stage behind the field, where something is left to send (on), and where a packet or the header ends (off)

  front_on : {u : Items} → s.context.level ≡ in_header → s.context.earlier ≡ [] → Fronts es s.todo → T (going s.todo) → next s.todo v ≡ some u
      → (left.level ≡ in_header) × (left.earlier ≡ []) × Fronts more u
  front_on {u} l e h g j = (by_stand st, kept s.context s.at v _ (λ r i. absurd (header_packet l i)) ∙ e, front_more s.todo u refl g h j)
    where
      header_packet : {x : Level} → x ≡ in_header → x ≡ in_packet → ⊥
      header_packet i k = let z : ◌≡◌ {A = ℕ} 0 1 = cc in omega arith

      header_user : {x : Level} → x ≡ in_header → x ≡ in_user → ⊥
      header_user i k = let z : ◌≡◌ {A = ℕ} 0 1 = cc in omega arith

      by_amid : Amid es s.todo s.context → left.level ≡ in_header
      by_amid (amid_header i k) = header_noted s.context s.at v (rule_of (field s).sense) (every_due InHeader s.todo g k) ∙ i
      by_amid (amid_packet i k) = absurd (header_packet l i)
      by_amid (amid_user i o x y k z w) = absurd (header_user l i)

      by_stand : Stands es s → left.level ≡ in_header
      by_stand (between i k x) = absurd (header_packet l k)
      by_stand (amid i k) = by_amid k

  -- behind a field amid a packet no NID_PACKET stands
  past_more : T (going s.todo) → ((b : List Entry) (n : ℕ) → es ≡ b ++ (holding NID_PACKET n ∷ []) → ⊥) → Past more
  past_more g h =
      record {
        unnamed = not_named es (entry s v) (λ i. going_on s.todo g (named_begins es s v (awaits st) i));
        undirected = not_directed es (entry s v) h;
      }

  stays_here : T (going s.todo) → Past es → Stays s.context left
  stays_here g q = by_stand st
    where
      by_stand : Stands es s → Stays s.context left
      by_stand (between i k x) = going_on s.todo g i
      by_stand (amid i k) = amid_stays s.context s.at v s.todo g q k

  level_here : T (going s.todo) → (s.context.level ≡ in_header → ⊥) → left.level ≡ in_header → ⊥
  level_here g n = by_stand st
    where
      by_stand : Stands es s → left.level ≡ in_header → ⊥
      by_stand (between i k x) = going_on s.todo g i
      by_stand (amid i k) = amid_level s.context s.at v s.todo g n k

  -- the packets before begin where they did
  start_here : s.todo ≡ end → s.context.start ≡ bit_count es
  start_here i = by_stand st
    where
      by_stand : Stands es s → s.context.start ≡ bit_count es
      by_stand (between k l x) = x ∙ a
      by_stand (amid g k) = going_on s.todo g i

  -- in the header something is left to send
  front_going : s.context.level ≡ in_header → T (going s.todo)
  front_going l = by_stand st
    where
      by_stand : Stands es s → T (going s.todo)
      by_stand (between i k x) = let z : ◌≡◌ {A = ℕ} 0 1 = cc in absurd (omega arith)
      by_stand (amid g k) = g

  -- entries that end in a Q_DIR end in no NID_PACKET
  dir_last : (b : List Entry) (i d : ℕ) → es ≡ b ++ (holding NID_PACKET i ∷ holding Q_DIR d ∷ []) → (c : List Entry) (n : ℕ)
      → es ≡ c ++ (holding NID_PACKET n ∷ []) → ⊥
  dir_last b i d e c n h =
      not_named (b ++ (holding NID_PACKET i ∷ [])) (holding Q_DIR d) (apart Q_DIR NID_PACKET refl) c n
      (append_assoc b (holding NID_PACKET i ∷ []) (holding Q_DIR d ∷ []) ∙ sym e ∙ h)

  module _ (u : Items) (j : next s.todo v ≡ some u) where
    -- a NID_PACKET of the tables, whose items begin with Q_DIR
    name_headed : s.todo ≡ end → Headed outer_body u
    unfolding next
    name_headed i = packet_headed v u (rw i at j)

    name_unmarked : s.todo ≡ end → eqb v 255 ≡ false
    unfolding next
    name_unmarked i = mark_apart p s.context s.at v u (rw i at j)

    -- what follows the Q_DIR and the L_PACKET of a packet
    dir_next : {r : Items} → s.todo ≡ with_head r → u ≡ send L_PACKET r
    dir_next {r} i = sent_next Q_DIR (send L_PACKET r) u v (rw i at j)

    size_next : {r : Items} → s.todo ≡ send L_PACKET r → u ≡ r
    size_next {r} i = sent_next L_PACKET r u v (rw i at j)

    dir_goes : (t : Items) {r : Items} → s.todo ≡ t → t ≡ with_head r → Goes t (holding Q_DIR v ∷ []) u
    dir_goes t i q =
        let k : Goes t (holding (named t v) v ∷ []) u = further v here (rw q tt) (rw i at j) in
        subst (λ (x : Field). Goes t (holding x v ∷ []) u) (ap (λ (y : Items). named y v) q) k

    size_goes : {t r : Items} {d : ℕ} → s.todo ≡ send L_PACKET r → Goes t (holding Q_DIR d ∷ []) s.todo
        → Goes t (holding Q_DIR d ∷ holding L_PACKET v ∷ []) u
    size_goes {t} {r} {d} i k =
        let m : Goes t (holding Q_DIR d ∷ holding (named s.todo v) v ∷ []) u = further v k (rw i tt) j in
        subst (λ (x : Field). Goes t (holding Q_DIR d ∷ holding x v ∷ []) u) (ap (λ (y : Items). named y v) i) m

    -- what an L_PACKET leaves
    left_size : {r : Items} → s.todo ≡ send L_PACKET r → s.context.level ≡ in_packet
        → left
        ≡ context in_packet s.context.start s.context.id s.context.dir v s.context.user_start s.context.user_long s.context.pig s.context.earlier
    left_size i l = rw i (size_in_packet s.context s.at v l)

    packet_level : in_packet ≡ in_header → ⊥
    packet_level h = let z : ◌≡◌ {A = ℕ} 0 1 = cc in omega arith

    -- something is left to send
    stage_on : T (going u) → Stage es s → Stage more (moved s u left)
    stage_on g (fronting l e h) = let n = front_on l e h (front_going l) j in fronting n.0 n.1 n.2
    stage_on g (resting i w) =
        let hd = name_headed i in
        let o : Began v = record { items = u; found = rw i at j; small = rw i at f.small } in
        rw (i, name_unmarked i, packet_noted s.context s.at v) (after_name es o refl w refl (start_here i) refl refl hd.is)
    stage_on g (after_name b {i = n} o e w l x k i q) =
        rw (i, q, dir_next (i ∙ q), direction_in_packet s.context s.at v l)
        (after_dir b v o (appended b _ (holding Q_DIR v) e) w (ap (λ (m : ℕ). record { id = m; dir = v } ∷ s.context.earlier) k) refl x
        (rw (dir_next (i ∙ q)) at (dir_goes o.items i q)) refl (rw (i ∙ q) at f.small))
    stage_on g (after_dir b {i = n} d {r = r} o e w m l x k i q) =
        let c : Past more = past_more (rw i tt) (dir_last b n d e) in
        let eu = size_next i in
        rw (i, size_in_packet s.context s.at v l)
        (after_size b d v [] o (appended b _ (holding L_PACKET v) e) w m x refl (size_goes i k) q (rw i at f.small) g
        packet_level (rw i at c))
    stage_on g (after_size b d n body o e w m x y k q r h z c) =
        let t = stays_here h c in
        after_size b d n (body ++ (entry s v ∷ [])) o (appended b _ (entry s v) e) w (t.earlier ∙ m) (t.start ∙ x) (t.long ∙ y) (further v k h j) q r g
        (level_here h z) (past_more h c.unnamed)

    -- a packet or the header ends
    module _ (eu : u ≡ end) (shut : closes (past s) left left.level ≡ true) where
      -- it is whole
      closed_whole : {b : List Entry} {i : ℕ} {l : List Earlier} (d n : ℕ) (body : List Entry) (o : Began i) → more ≡ b ++ headed i d n body → Whole b l
          → left.earlier ≡ record { id = i; dir = d } ∷ l → left.start ≡ bit_count b → left.long ≡ n
          → Goes o.items (holding Q_DIR d ∷ holding L_PACKET n ∷ body) u → d < 4 → n < 8192 → (left.level ≡ in_header → ⊥) → Whole more left.earlier
      closed_whole {b} {i} {l} d n body o e w m x y k q r z =
          let size : past s - left.start ≡ left.long = closed_size (past s) left left.level z shut in
          let sum : bit_count more ≡ bit_count b + bit_count (headed i d n body) = ap bit_count e ∙ bit_count_append b (headed i d n body) in
          let long : n ≡ bit_count (headed i d n body) = omega (arith, past_is) in
          rw (e, m) (then w (record { began = o; goes = rw eu at k; small_dir = q; small_size = r; size = long }))

      stage_off : Stage es s → Stage more (moved s end (fresh (past s) left))
      stage_off (fronting l e h) =
          let n = front_on l e h (front_going l) j in
          let g : Fronts more end = rw eu at n.2 in
          resting refl (rw n.1 (front {es = more} (omega (arith, g.bits)) (omega (arith, g.fields))))
      stage_off (resting i w) = going_on u (rw (name_headed i).is tt) eu
      stage_off (after_name b o e w l x k i q) = going_on u (rw (dir_next (i ∙ q)) tt) eu
      stage_off (after_dir b {i = n} d {r = r} o e w m l x k i q) =
          let t = left_size i l in
          let size : named s.todo v ≡ L_PACKET = ap (λ (y : Items). named y v) i in
          let whole = appended b _ (entry s v) e ∙ ap (λ (y : Field). b ++ holding NID_PACKET n ∷ holding Q_DIR d ∷ holding y v ∷ []) size in
          resting refl
          (closed_whole d v [] o whole w (ap (λ (c : Context). c.earlier) t ∙ m) (ap (λ (c : Context). c.start) t ∙ x) (ap (λ (c : Context). c.long) t)
          (size_goes i k) q (rw i at f.small) (λ h. packet_level (sym (ap (λ (c : Context). c.level) t) ∙ h)))
      stage_off (after_size b d n body o e w m x y k q r h z c) =
          let t = stays_here h c in
          resting refl
          (closed_whole d n (body ++ (entry s v ∷ [])) o (appended b _ (entry s v) e) w (t.earlier ∙ m) (t.start ∙ x) (t.long ∙ y) (further v k h j) q r
          (level_here h z))

  -- so after any field that goes on
  stage_next : (t : Items) (c : Context) → step p s v ≡ go t c → Stage es s → Stage more (moved s t c)
  stage_next t c e h = by_way (stepped p s v) e
    where
      by_way : {n : Next} → Stepped p s v n → n ≡ go t c → Stage more (moved s t c)
      by_way (forbidden b) i = let z : ◌≡◌ {A = ℕ} 0 1 = cc in absurd (omega arith)
      by_way (marked b j) i = let z : ◌≡◌ {A = ℕ} 0 1 = cc in absurd (omega arith)
      by_way (noticed {t = u} b j (on g)) i =
          let et : u ≡ t = cc in
          let ec : left ≡ c = cc in
          rw (← et, ← ec) (stage_on u j g h)
      by_way (noticed {t = u} b j (closed k)) i =
          let et : end ≡ t = cc in
          let ec : fresh (past s) left ≡ c = cc in
          rw (← et, ← ec) (stage_off u j k (closes_so p s v b (rw k at j) e) h)
      by_way (noticed b j (misfitted k q)) i = let z : ◌≡◌ {A = ℕ} 0 1 = cc in absurd (omega arith)

-- ---- along the entries

begun_stage : Stage [] begun
unfolding begun header
begun_stage = fronting refl refl (record { plain = header_plain; bits = refl; fields = refl })

pub sends_stage : {p : Terms} {es : List Entry} {s : State} → Sends p es s → Stage es s
sends_stage nothing = begun_stage
sends_stage {p} (one_more {es = es} {s = s} v {t = t} {c = c} h f e) = stage_next p es s v (sends_at h) (sends_stands h) f t c e (sends_stage h)

-- ---- where the Q_DIR of a packet is due

-- the packet in hand, and what stands before it
pub record Directs (es : List Entry) (s : State) : Type 0 where
  pub before : List Entry
  pub name : ℕ
  pub ends : es ≡ before ++ (holding NID_PACKET name ∷ [])
  pub start : s.context.start ≡ bit_count before
  pub whole : Whole before s.context.earlier

pub sends_directs : {p : Terms} {es : List Entry} {s : State} → Sends p es s → rule_of (field s).sense ≡ direction → s.context.level ≡ in_packet → Directs es s
sends_directs {p} {es} {s} h d l = by_stage (sends_stage h)
  where
    past_awaits : Past es → T (going s.todo) → Awaits es s → Directs es s
    past_awaits q g (begins i) = going_on s.todo g i
    past_awaits q g (directs k i x b n e) = absurd (q.unnamed b n e)
    past_awaits q g (goes_by k w) = absurd (w.unruled d l)

    by_stage : Stage es s → Directs es s
    by_stage (fronting x e k) = let z : ◌≡◌ {A = ℕ} 0 1 = cc in absurd (omega arith)
    by_stage (resting i w) = let y : packet ≡ direction = rw i at d in let z : ◌≡◌ {A = ℕ} 0 1 = cc in absurd (omega arith)
    by_stage (after_name b {i = n} o e w x k y i q) = record { before = b; name = n; ends = e; start = k; whole = w }
    by_stage (after_dir b m o e w x y k u i q) = let t : size ≡ direction = rw i at d in let z : ◌≡◌ {A = ℕ} 0 1 = cc in absurd (omega arith)
    by_stage (after_size b m n body o e w x y k u q r g z c) = past_awaits c g (awaits (sends_stands h))
