-- A packet with a scale, from its bits: where the scale stands, what decides whether the packet is told in metres, and its normal form. The scale
-- stands behind the packet's head, at its bit 23, or behind that of the CTCS packet in it, at bit 47. Assumes nothing.
use mathlib.Core.Bool.{Bool, true, false}
use mathlib.Core.List.{List, [], ◌∷◌, ◌++◌, map}
use mathlib.Core.Option.{some}
use mathlib.Core.Path.{◌≡◌, refl, sym, ap, ◌∙◌, subst}
use Prim.Native.Nat.{ℕ, ◌+◌, ◌≤◌}
use native.Mathlib.Omega.{arith}
use lib.Dec.{T}
use Rattle.format.specs.Among.{holding}
use Rattle.format.specs.Fields.{Field, NID_PACKET, NID_XUSER, Q_DIR, L_PACKET, Q_SCALE}
use Rattle.format.specs.Packets.{Items, find, etcs, ctcs}
use Rattle.format.specs.Packets.Items.{end, nest, send}
use Rattle.format.specs.Rules.{or_end, next}
use Rattle.format.specs.Telegrams.{Entry, bit_count}
use Rattle.format.specs.Normal.{metric, normal}
use Rattle.laws.proofs.Headed.{with_head}
use Rattle.laws.proofs.Tile.{sent_next}
use Rattle.laws.proofs.Told.{AllFair}
use Rattle.laws.proofs.Whole.{Goes, headed, Packet}
use Rattle.telling.proofs.Under.{InMetres, metres_append}
use Rattle.telling.proofs.Once.{Shape, Bare, bare_metres, behind_metres, retold, packet_metric, packet_stays}
use Rattle.telling.proofs.Once.Phase.{behind}
use Rattle.telling.proofs.Scales.{holds}
use Rattle.telling.proofs.Ordered.{holds_ordered}
use Rattle.telling.proofs.WholePackets.{reaches_shape, goes_reached}
use Rattle.telling.proofs.Faced.{goes_none, goes_first, body_goes}
use Rattle.telling.proofs.AtBits.{AtBit, value_there, value_there_lem, next_there, at_front, at_behind, fair_front}
use Rattle.telling.proofs.ByItems.{metric_at, items_metric}

module _ (s : List ℕ) (x : ℕ) where
  -- ---- one field after the other, by its bits behind the bit x

  pub record Sent (f : Field) (r : Items) (es : List Entry) (k : ℕ) : Type 0 where
    pub rest : List Entry
    pub is : es ≡ holding f (value_there s f (x + k)) ∷ rest
    pub goes : Goes r rest end
    pub fair : AllFair rest
    pub there : AtBit s (x + (k + f.width)) rest

  sent : (f : Field) (r : Items) (e : Entry) (es : List Entry) (k : ℕ) → e.field ≡ f → Goes r es end → AllFair (e ∷ es) → AtBit s (x + k) (e ∷ es)
      → Sent f r (e ∷ es) k
  sent f r e es k n g fair h =
      let v : e.value ≡ value_there s f (x + k) = value_there_lem s (x + k) e es h fair.0.small ∙ ap (λ (c : Field). value_there s c (x + k)) n in
      let w : x + k + f.width ≡ x + (k + f.width) = omega arith in
      record {
        rest = es;
        is = ap (λ (c : Field). holding c e.value ∷ es) n ∙ ap (λ (u : ℕ). holding f u ∷ es) v;
        goes = g;
        fair = fair.1;
        there = subst (λ (y : ℕ). AtBit s y es) w (subst (λ (c : Field). AtBit s (x + k + c.width) es) n (next_there s (x + k) e es h));
      }

  pub sent_there : (f : Field) (r : Items) (es : List Entry) (k : ℕ) → Goes (send f r) es end → AllFair es → AtBit s (x + k) es → Sent f r es k
  sent_there f r [] k g fair h =
      let i : send f r ≡ end = goes_none g refl in
      let z : ◌≡◌ {A = ℕ} 0 1 = cc in
      absurd (omega arith)
  sent_there f r (e ∷ es) k g fair h =
      let y = goes_first g e es refl in
      sent f r e es k y.name (subst (λ (t : Items). Goes t es end) (sent_next f r y.items e.value y.leads) y.rest) fair h

  -- the CTCS packet in a packet goes by its NID_XUSER
  pub user_there : (es : List Entry) (k : ℕ) → Goes nest es end → AllFair es → AtBit s (x + k) es
      → Sent NID_XUSER (or_end (find (value_there s NID_XUSER (x + k)) ctcs)) es k
  unfolding next
  user_there [] k g fair h =
      let i : nest ≡ end = goes_none g refl in
      let z : ◌≡◌ {A = ℕ} 0 1 = cc in
      absurd (omega arith)
  user_there (e ∷ es) k g fair h =
      let y = goes_first g e es refl in
      let n : e.field ≡ NID_XUSER = y.name in
      let v : e.value ≡ value_there s NID_XUSER (x + k) =
      value_there_lem s (x + k) e es h fair.0.small ∙ ap (λ (c : Field). value_there s c (x + k)) n in
      let i : or_end (find e.value ctcs) ≡ y.items = let l = y.leads in cc in
      sent NID_XUSER (or_end (find (value_there s NID_XUSER (x + k)) ctcs)) e es k n
      (subst (λ (t : Items). Goes t es end) (sym i ∙ ap (λ (u : ℕ). or_end (find u ctcs)) v) y.rest) fair h

  -- behind a packet's head
  pub head_there : (i d n : ℕ) (body : List Entry) → AtBit s x (headed i d n body) → AtBit s (x + 23) body
  head_there i d n body h =
      let e : x + 8 + 2 + 13 ≡ x + 23 = omega arith in
      rw e at
      (next_there s (x + 8 + 2) (holding L_PACKET n) body
      (next_there s (x + 8) (holding Q_DIR d) (holding L_PACKET n ∷ body)
      (next_there s x (holding NID_PACKET i) (holding Q_DIR d ∷ holding L_PACKET n ∷ body) h)))

  -- a whole packet that stands at the bit x
  pub record PacketAt (i d n : ℕ) (body : List Entry) : Type 0 where
    pub packet : Packet i d n body
    pub fair : AllFair body
    pub there : AtBit s x (headed i d n body)

  -- the first of packets, and those behind it
  pub packet_at : {i d n : ℕ} {body : List Entry} → Packet i d n body → (es : List Entry) → AllFair (headed i d n body ++ es)
      → AtBit s x (headed i d n body ++ es) → PacketAt i d n body
  packet_at {i} {d} {n} {body} b es fair at =
      record { packet = b; fair = (fair_front (headed i d n body) es fair).1.1.1; there = at_front s x (headed i d n body) es at }

  pub behind_at : {i d n : ℕ} {body : List Entry} → Packet i d n body → (es : List Entry) → AtBit s x (headed i d n body ++ es) → AtBit s (x + n) es
  behind_at {i} {d} {n} {body} b es at = subst (λ (k : ℕ). AtBit s (x + k) es) (sym b.size) (at_behind s x (headed i d n body) es at)

  -- ---- the scale and what stands behind it

  -- a packet from the bit x on with its Q_SCALE k bits behind that, and what decides by the scale whether it is told in metres
  pub record Decided (es : List Entry) (k : ℕ) (test : ℕ → Bool) : Type 0 where
    pub front : List Entry
    pub rest : List Entry
    pub is : es ≡ front ++ holding Q_SCALE (value_there s Q_SCALE (x + k)) ∷ rest
    pub wide : bit_count front ≡ k
    pub known : value_there s Q_SCALE (x + k) ≤ 2
    pub plain : Bare front
    pub shape : Shape behind rest
    pub fair : AllFair rest
    pub there : AtBit s (x + (k + 2)) rest
    pub decides : (q : ℕ) → q ≤ 2 → metric q rest ≡ test q

  -- the same test in other words
  pub decided_as : {es : List Entry} {k : ℕ} {test test2 : ℕ → Bool} → ((q : ℕ) → q ≤ 2 → test q ≡ test2 q)
      → Decided es k test → Decided es k test2
  decided_as h d =
      record {
        front = d.front;
        rest = d.rest;
        is = d.is;
        wide = d.wide;
        known = d.known;
        plain = d.plain;
        shape = d.shape;
        fair = d.fair;
        there = d.there;
        decides = λ q l. d.decides q l ∙ h q l;
      }

  module _ {es : List Entry} {k : ℕ} {test : ℕ → Bool} (d : Decided es k test) where
    abbrev q : ℕ
    q = value_there s Q_SCALE (x + k)

    -- in metres, so that it is its own normal form (`normal-metres`)
    pub decided_metres : q ≡ 1 → InMetres es
    decided_metres h =
        subst InMetres (sym d.is)
        (metres_append d.front (holding Q_SCALE q ∷ d.rest) (bare_metres d.front d.plain) ((λ i. h), behind_metres d.rest d.shape))

    -- where the test holds, it is told in metres
    pub decided_metric : test q ≡ true → normal es ≡ d.front ++ holding Q_SCALE 1 ∷ map (retold q 1) d.rest
    decided_metric h =
        ap normal d.is
        ∙ packet_metric d.front (holding Q_SCALE q) d.rest d.plain refl d.shape (d.decides q d.known ∙ h)

    -- otherwise it is itself
    pub decided_stays : test q ≡ false → normal es ≡ es
    decided_stays h =
        ap normal d.is
        ∙ packet_stays d.front (holding Q_SCALE q) d.rest d.plain refl d.shape (d.decides q d.known ∙ h)
        ∙ sym d.is

  -- ---- of a kind

  -- behind the front, which ends k bits behind x
  scale_decided : (front : List Entry) (k : ℕ) → bit_count front ≡ k → Bare front → (r : Items) → T (holds behind r)
      → (es body : List Entry) → es ≡ front ++ body → Goes (send Q_SCALE r) body end → AllFair body → AtBit s (x + k) body
      → Decided es k (λ q. metric_at s q r (x + (k + 2)))
  scale_decided front k w b r h es body e g fair at =
      let f = sent_there Q_SCALE r body k g fair at in
      let way = goes_reached behind (holds_ordered behind r h) f.goes in
      record {
        front = front;
        rest = f.rest;
        is = e ∙ ap (λ (l : List Entry). front ++ l) f.is;
        wide = w;
        known = (subst AllFair f.is fair).0.known refl;
        plain = b;
        shape = reaches_shape behind way.phase f.rest way.way;
        fair = f.fair;
        there = f.there;
        decides = λ q l. items_metric s q r h f.rest (x + (k + 2)) f.goes f.fair f.there;
      }

  pub kind_decided : (i : ℕ) (r : Items) → find i etcs ≡ some (with_head (send Q_SCALE r)) → T (holds behind r)
      → {d n : ℕ} {body : List Entry} → PacketAt i d n body → Decided (headed i d n body) 23 (λ q. metric_at s q r (x + 25))
  kind_decided i r e h {d} {n} {body} p =
      scale_decided (headed i d n []) 23 refl (refl, (refl, (refl, tt))) r h (headed i d n body) body refl (body_goes p.packet e) p.fair
      (head_there i d n body p.there)

  -- ---- of the CTCS packet in a packet

  found_44 : find 44 etcs ≡ some (with_head nest)
  unfolding find etcs
  found_44 = refl

  -- the head of a CTCS packet behind its NID_XUSER
  pub record Headed (r : Items) (es : List Entry) (k : ℕ) : Type 0 where
    pub dir : ℕ
    pub size : ℕ
    pub rest : List Entry
    pub is : es ≡ holding Q_DIR dir ∷ holding L_PACKET size ∷ rest
    pub goes : Goes r rest end
    pub fair : AllFair rest
    pub there : AtBit s (x + (k + 2 + 13)) rest

  pub headed_there : (r : Items) (es : List Entry) (k : ℕ) → Goes (with_head r) es end → AllFair es → AtBit s (x + k) es → Headed r es k
  headed_there r es k g fair h = by_dir (sent_there Q_DIR (send L_PACKET r) es k g fair h)
    where
      by_size : (b : Sent Q_DIR (send L_PACKET r) es k) → Sent L_PACKET r b.rest (k + 2) → Headed r es k
      by_size b c =
          record {
            dir = value_there s Q_DIR (x + k);
            size = value_there s L_PACKET (x + (k + 2));
            rest = c.rest;
            is = b.is ∙ ap (λ (l : List Entry). holding Q_DIR (value_there s Q_DIR (x + k)) ∷ l) c.is;
            goes = c.goes;
            fair = c.fair;
            there = c.there;
          }

      by_dir : Sent Q_DIR (send L_PACKET r) es k → Headed r es k
      by_dir b = by_size b (sent_there L_PACKET r b.rest (k + 2) b.goes b.fair b.there)

  pub user_decided : (u : ℕ) (r : Items) → find u ctcs ≡ some (with_head (send Q_SCALE r)) → T (holds behind r)
      → {d n : ℕ} {body : List Entry} → PacketAt 44 d n body → value_there s NID_XUSER (x + 23) ≡ u
      → Decided (headed 44 d n body) 47 (λ q. metric_at s q r (x + 49))
  user_decided u r e h {d} {n} {body} p is_u =
      by_name (user_there body 23 (body_goes p.packet found_44) p.fair (head_there 44 d n body p.there))
    where
      leads : Items
      leads = or_end (find (value_there s NID_XUSER (x + 23)) ctcs)

      by_head : (a : Sent NID_XUSER leads body 23) → Headed (send Q_SCALE r) a.rest 32
          → Decided (headed 44 d n body) 47 (λ q. metric_at s q r (x + 49))
      by_head a b =
          let v = value_there s NID_XUSER (x + 23) in
          let front = headed 44 d n (holding NID_XUSER v ∷ holding Q_DIR b.dir ∷ holding L_PACKET b.size ∷ []) in
          scale_decided front 47 refl (refl, (refl, (refl, (refl, (refl, (refl, tt)))))) r h (headed 44 d n body) b.rest
          (ap (headed 44 d n) (a.is ∙ ap (λ (l : List Entry). holding NID_XUSER v ∷ l) b.is)) b.goes b.fair b.there

      by_name : Sent NID_XUSER leads body 23 → Decided (headed 44 d n body) 47 (λ q. metric_at s q r (x + 49))
      by_name a =
          let o : leads ≡ with_head (send Q_SCALE r) = ap (λ (v : ℕ). or_end (find v ctcs)) is_u ∙ ap or_end e in
          by_head a (headed_there (send Q_SCALE r) a.rest 32 (subst (λ (t : Items). Goes t a.rest end) o a.goes) a.fair a.there)
