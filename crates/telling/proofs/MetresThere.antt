-- Packets that are in metres or have no scale, by their bits: a walk from packet to packet that meets no other tells that the telegram is its own
-- normal form. Assumes nothing.
use mathlib.Core.Bool.{Bool, true, false, cond, not}
use mathlib.Core.List.{List, [], ◌∷◌, ◌++◌}
use mathlib.Core.Option.{Option, some, none}
use mathlib.Core.Path.{◌≡◌, refl, sym, ap, ◌∙◌, subst}
use Prim.Native.Nat.{ℕ, zero, suc, ◌+◌}
use native.Mathlib.Omega.{arith}
use lib.Dec.{T, eqb}
use lib.ListN.{take}
use borrow.Author.Tests.{eqb-true}
use Rattle.bits.specs.Bits.{bits_of}
use Rattle.format.specs.Among.{holding}
use Rattle.format.specs.Fields.{Sense, NID_PACKET, NID_XUSER, Q_DIR, L_PACKET, Q_SCALE}
use Rattle.format.specs.Fields.Sense.{plain, scale, distance, text_length}
use Rattle.format.specs.Packets.{Items, find, etcs, ctcs}
use Rattle.format.specs.Packets.Items.{end, nest, send, send_if, send_either, send_times}
use Rattle.format.specs.Rules.{Terms, or_end, next}
use Rattle.format.specs.Telegrams.{Entry, bits, bit_count, Telegram}
use Rattle.format.specs.Normal.{normal}
use Rattle.format.proofs.Rows.{and_right}
use Rattle.laws.proofs.Every.{IfSome, found}
use Rattle.laws.proofs.Headed.{with_head}
use Rattle.laws.proofs.Tile.{end_mark}
use Rattle.laws.proofs.Told.{AllFair, and_two, fair, fair_after}
use Rattle.laws.proofs.Whole.{Goes, headed}
use Rattle.telling.proofs.Under.{InMetres, metres_append}
use Rattle.telling.proofs.Once.{bare_metres, heading_bare, behind_metres}
use Rattle.telling.proofs.Once.Phase.{heading, behind}
use Rattle.telling.proofs.WholePackets.{reaches_shape, goes_reached}
use Rattle.telling.proofs.InOrder.{InOrder, laid}
use Rattle.telling.proofs.InOrder.InOrder.{no_more, packet_then}
use Rattle.telling.proofs.Scales.{opens, tests, ordered}
use Rattle.telling.proofs.Faced.{goes_first, sent_first, Facing, Heads, UserHeads, etcs_heads, ctcs_heads}
use Rattle.telling.proofs.Faced.Facing.{by_own, by_none}
use Rattle.telling.proofs.Faced.Heads.{heads, carries}
use Rattle.telling.proofs.Faced.UserHeads.{user_heads}
use Rattle.telling.proofs.AtBits.{AtBit, value_there, value_there_lem, next_there, at_front, at_behind, at_all, fair_front}
use Rattle.telling.proofs.ByItems.{each_round}
use Rattle.telling.proofs.Decided.{Sent, sent_there, user_there, head_there, PacketAt, packet_at, behind_at, Headed, headed_there}
use Rattle.telling.proofs.Far.{laid_metres}

-- ---- what the bits say

abbrev is_scale : Sense → Bool
is_scale (plain r) = false
is_scale scale = true
is_scale distance = false
is_scale text_length = false

-- items that begin at a bit with a scale, which then is that of metres
abbrev metres_in : List ℕ → Items → ℕ → Bool
metres_in s end x = true
metres_in s nest x = true
metres_in s (send f r) x = cond (is_scale f.sense) (eqb (value_there s f x) 1) true
metres_in s (send_if c f r) x = true
metres_in s (send_either c a b) x = true
metres_in s (send_times c g r) x = true

-- items without the field that they begin with
abbrev behind_one : Items → Items
behind_one end = end
behind_one nest = end
behind_one (send f r) = r
behind_one (send_if c f r) = end
behind_one (send_either c a b) = end
behind_one (send_times c g r) = end

-- a CTCS packet, by what its NID_XUSER leads to: behind its head, at bit 47 of the packet that begins at the bit x
abbrev user_metres : List ℕ → ℕ → Option Items → Bool
user_metres s x none = true
user_metres s x (some t) = metres_in s (behind_one (behind_one t)) (x + 47)

-- behind a packet's head
abbrev body_metres : List ℕ → ℕ → Items → Bool
body_metres s x end = true
body_metres s x nest = user_metres s x (find (value_there s NID_XUSER (x + 23)) ctcs)
body_metres s x (send f r) = metres_in s (send f r) (x + 23)
body_metres s x (send_if c f r) = true
body_metres s x (send_either c a b) = true
body_metres s x (send_times c g r) = true

abbrev packet_metres : List ℕ → ℕ → Option Items → Bool
packet_metres s x none = true
packet_metres s x (some t) = body_metres s x (behind_one (behind_one t))

-- the packet that begins at the bit x is in metres, or has no scale
abbrev pub metres_there : List ℕ → ℕ → Bool
metres_there s x = packet_metres s x (find (value_there s NID_PACKET x) etcs)

-- the bit where the packet behind it begins
abbrev pub hop : List ℕ → ℕ → ℕ
hop s x = x + value_there s L_PACKET (x + 10)

-- ---- one packet

module _ (s : List ℕ) (x : ℕ) where
  -- by its kind: with a scale of its own, or with a CTCS packet that has one
  pub there_own : (i : ℕ) (r : Items) → find i etcs ≡ some (with_head (send Q_SCALE r)) → value_there s NID_PACKET x ≡ i
      → metres_there s x ≡ eqb (value_there s Q_SCALE (x + 23)) 1
  there_own i r e h = ap (λ (j : ℕ). packet_metres s x (find j etcs)) h ∙ ap (packet_metres s x) e

  pub there_user : (u : ℕ) (r : Items) → find u ctcs ≡ some (with_head (send Q_SCALE r)) → value_there s NID_PACKET x ≡ 44
      → value_there s NID_XUSER (x + 23) ≡ u → metres_there s x ≡ eqb (value_there s Q_SCALE (x + 47)) 1
  unfolding find etcs
  there_user u r e h k =
      ap (λ (j : ℕ). packet_metres s x (find j etcs)) h ∙ ap (λ (j : ℕ). user_metres s x (find j ctcs)) k ∙ ap (user_metres s x) e

  -- without a scale in front
  quiet_in : (t : Items) → T (ordered heading t) → (y : ℕ) → metres_in s t y ≡ true
  quiet_in end g y = refl
  quiet_in nest g y = refl
  quiet_in (send f a) g y = by_sense f.sense (and_right (not (opens f)) _ g)
    where
      by_sense : (k : Sense) → T (tests heading k (ordered heading a) (ordered behind a)) → cond (is_scale k) (eqb (value_there s f y) 1) true ≡ true
      by_sense (plain c) h = refl
      by_sense scale h = absurd h
      by_sense distance h = refl
      by_sense text_length h = refl
  quiet_in (send_if c f a) g y = refl
  quiet_in (send_either c a b) g y = refl
  quiet_in (send_times c b a) g y = refl

  quiet_body : (t : Items) → T (ordered heading t) → body_metres s x t ≡ true
  quiet_body end g = refl
  quiet_body nest g = absurd g
  quiet_body (send f a) g = quiet_in (send f a) g (x + 23)
  quiet_body (send_if c f a) g = refl
  quiet_body (send_either c a b) g = refl
  quiet_body (send_times c b a) g = refl

  pub there_none : (i : ℕ) (r : Items) → find i etcs ≡ some (with_head r) → T (ordered heading r) → value_there s NID_PACKET x ≡ i
      → metres_there s x ≡ true
  there_none i r e o h = ap (λ (j : ℕ). packet_metres s x (find j etcs)) h ∙ ap (packet_metres s x) e ∙ quiet_body r o

  pub there_user_none : (u : ℕ) (r : Items) → find u ctcs ≡ some (with_head r) → T (ordered heading r) → value_there s NID_PACKET x ≡ 44
      → value_there s NID_XUSER (x + 23) ≡ u → metres_there s x ≡ true
  unfolding find etcs
  there_user_none u r e o h k =
      ap (λ (j : ℕ). packet_metres s x (find j etcs)) h
      ∙ ap (λ (j : ℕ). user_metres s x (find j ctcs)) k
      ∙ ap (user_metres s x) e
      ∙ quiet_in r o (x + 47)

  facing_metres : {r : Items} → Facing r → (body : List Entry) (k : ℕ) → Goes r body end → AllFair body → AtBit s (x + k) body
      → metres_in s r (x + k) ≡ true → InMetres body
  facing_metres (by_own {r = r} o) body k g fair at m =
      let f = sent_there s x Q_SCALE r body k g fair at in
      let way = goes_reached behind o f.goes in
      let one = eqb-true (value_there s Q_SCALE (x + k)) 1 m in
      subst InMetres (sym f.is) ((λ h. one), behind_metres f.rest (reaches_shape behind way.phase f.rest way.way))
  facing_metres (by_none o) body k g fair at m =
      let way = goes_reached heading o g in
      bare_metres body (heading_bare body (reaches_shape heading way.phase body way.way))

  head_metres : {r : Items} → Facing r → {es : List Entry} → Headed s x r es 32 → metres_in s r (x + 47) ≡ true → InMetres es
  head_metres f h m =
      let front = holding Q_DIR h.dir ∷ holding L_PACKET h.size ∷ [] in
      subst InMetres (sym h.is)
      (metres_append front h.rest (bare_metres front (refl, (refl, tt))) (facing_metres f h.rest 47 h.goes h.fair h.there m))

  user_metres_lem : {t : Items} → UserHeads t → (es : List Entry) → Goes t es end → AllFair es → AtBit s (x + 32) es
      → metres_in s (behind_one (behind_one t)) (x + 47) ≡ true → InMetres es
  user_metres_lem (user_heads {r = r} f) es g fair at m = head_metres f (headed_there s x r es 32 g fair at) m

  found_metres : (o : Option Items) → IfSome UserHeads o → (es : List Entry) → Goes (or_end o) es end → AllFair es → AtBit s (x + 32) es
      → user_metres s x o ≡ true → InMetres es
  found_metres none h [] g fair at m = tt
  found_metres none h (e ∷ es) g fair at m = absurd (goes_first g e es refl).goes
  found_metres (some t) h es g fair at m = user_metres_lem h es g fair at m

  nest_metres : {body : List Entry} → Sent s x NID_XUSER (or_end (find (value_there s NID_XUSER (x + 23)) ctcs)) body 23
      → user_metres s x (find (value_there s NID_XUSER (x + 23)) ctcs) ≡ true → InMetres body
  nest_metres a m =
      let u = value_there s NID_XUSER (x + 23) in
      subst InMetres (sym a.is)
      (metres_append (holding NID_XUSER u ∷ []) a.rest (bare_metres (holding NID_XUSER u ∷ []) (refl, tt))
      (found_metres (find u ctcs) (found UserHeads u ctcs ctcs_heads) a.rest a.goes a.fair a.there m))

  heads_metres : {t : Items} {d n : ℕ} → Heads t → (body : List Entry) → Goes t (holding Q_DIR d ∷ holding L_PACKET n ∷ body) end → AllFair body
      → AtBit s (x + 23) body → body_metres s x (behind_one (behind_one t)) ≡ true → InMetres body
  heads_metres (heads (by_own o)) body g fair at m = facing_metres (by_own o) body 23 (sent_first (sent_first g)) fair at m
  heads_metres (heads (by_none o)) body g fair at m =
      let way = goes_reached heading o (sent_first (sent_first g)) in
      bare_metres body (heading_bare body (reaches_shape heading way.phase body way.way))
  heads_metres carries body g fair at m = nest_metres (user_there s x body 23 (sent_first (sent_first g)) fair at) m

  pub packet_there : {i d n : ℕ} {body : List Entry} → PacketAt s x i d n body → metres_there s x ≡ true → InMetres (headed i d n body)
  unfolding next
  packet_there {i} {d} {n} {body} p m =
      let b = p.packet.began in
      let rest = holding Q_DIR d ∷ holding L_PACKET n ∷ body in
      let v : i ≡ value_there s NID_PACKET x = value_there_lem s x (holding NID_PACKET i) rest p.there b.small in
      let e : find (value_there s NID_PACKET x) etcs ≡ some b.items = ap (λ (j : ℕ). find j etcs) (sym v) ∙ b.found in
      let front = headed i d n [] in
      metres_append front body (bare_metres front (refl, (refl, (refl, tt))))
      (heads_metres (rw b.found at (found Heads i etcs etcs_heads)) body p.packet.goes p.fair (head_there s x i d n body p.there)
      (sym (ap (packet_metres s x) e) ∙ m))

  -- its L_PACKET leads behind it
  pub packet_hop : {i d n : ℕ} {body : List Entry} → PacketAt s x i d n body → hop s x ≡ x + n
  packet_hop {i} {d} {n} {body} p =
      let e : x + 8 + 2 ≡ x + 10 = omega arith in
      let at = next_there s (x + 8) (holding Q_DIR d) (holding L_PACKET n ∷ body)
      (next_there s x (holding NID_PACKET i) (holding Q_DIR d ∷ holding L_PACKET n ∷ body) p.there) in
      let v : n ≡ value_there s L_PACKET (x + 8 + 2) = value_there_lem s (x + 8 + 2) (holding L_PACKET n) body at p.packet.small_size in
      ap (λ (k : ℕ). x + k) (sym (v ∙ ap (value_there s L_PACKET) e))

-- ---- packet by packet

abbrev pub packet_count : {es : List Entry} → InOrder es → ℕ
packet_count no_more = zero
packet_count (packet_then b h) = suc (packet_count h)

module _ (s : List ℕ) where
  -- each of them, one hop behind the other
  pub order_there : {es : List Entry} (h : InOrder es) (x : ℕ) → AllFair es → AtBit s x es
      → each_round (metres_there s) (hop s) (packet_count h) x ≡ true → InMetres es
  order_there no_more x fair at m = tt
  order_there (packet_then {i} {d} {n} {body} {es} b h) x fair at m =
      let p = packet_at s x b es fair at in
      let two = and_two (metres_there s x) (each_round (metres_there s) (hop s) (packet_count h) (hop s x)) m in
      let rest = subst (λ (y : ℕ). each_round (metres_there s) (hop s) (packet_count h) y ≡ true) (packet_hop s x p) two.1 in
      metres_append (headed i d n body) es (packet_there s x p two.0)
      (order_there h (x + n) (fair_after (headed i d n body) es fair) (behind_at s x b es at) rest)

  -- of an accepted telegram
  pub telegram_itself : (p : Terms) {es : List Entry} (t : Telegram p es) (n : ℕ) → take n (bits_of s) ≡ bits es
      → each_round (metres_there s) (hop s) (packet_count (laid p t).order) 50 ≡ true → normal es ≡ es
  telegram_itself p {es} t n h m =
      let l = laid p t in
      let tail = l.packets ++ (end_mark ∷ []) in
      let all : AllFair (l.header ++ tail) = subst AllFair l.parts (fair t) in
      let at : AtBit s 0 (l.header ++ tail) = subst (AtBit s 0) l.parts (at_all s n es h) in
      let wide : 0 + bit_count l.header ≡ 50 = omega (arith, l.wide) in
      let there : AtBit s 50 tail = subst (λ (k : ℕ). AtBit s k tail) wide (at_behind s 0 l.header tail at) in
      laid_metres l
      (order_there l.order 50 (fair_front l.packets (end_mark ∷ []) (fair_after l.header tail all))
      (at_front s 50 l.packets (end_mark ∷ []) there) m)
