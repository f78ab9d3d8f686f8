-- A packet with a scale, told in metres over its bits: what is put where its distances stand, and Q_SCALE 1, leave its normal form there, and
-- everything else as it was. Assumes nothing.
use mathlib.Core.Bool.{Bool, true, false, cond, ◌&&◌}
use mathlib.Core.List.{List, [], ◌∷◌, ◌++◌, map, append_assoc}
use mathlib.Core.Option.{some}
use mathlib.Core.Path.{◌≡◌, refl, sym, ap, ap₂, ◌∙◌, subst}
use Prim.Native.Nat.{ℕ, ◌+◌, ◌≤◌}
use native.Mathlib.Omega.{arith}
use lib.Dec.{T, eqb, leb}
use lib.ListN.{length, length-append}
use borrow.Author.Tests.{eqb-true, le-leb}
use Rattle.bits.specs.Bits.{digits, bits_of}
use Rattle.bits.proofs.Digits.{length_digits}
use Rattle.format.specs.Among.{holding}
use Rattle.format.specs.Fields.{NID_XUSER, Q_DIR, L_PACKET, Q_SCALE}
use Rattle.format.specs.Normal.{metric, normal}
use Rattle.format.specs.Packets.{Items, find, etcs, ctcs}
use Rattle.format.specs.Packets.Items.{end, nest, send}
use Rattle.format.specs.Rules.{or_end}
use Rattle.format.specs.Telegrams.{Entry, bits_in, bits, bit_count}
use Rattle.laws.proofs.Demand2.{length_bits}
use Rattle.laws.proofs.Headed.{with_head}
use Rattle.laws.proofs.Round.{all_append}
use Rattle.laws.proofs.Sources.{width_positive}
use Rattle.laws.proofs.Told.{AllFair}
use Rattle.laws.proofs.Whole.{Goes, headed}
use Rattle.telling.proofs.Under.{normal_metres}
use Rattle.telling.proofs.Once.{retold}
use Rattle.telling.proofs.Once.Phase.{behind}
use Rattle.telling.proofs.Scales.{holds}
use Rattle.telling.proofs.Faced.{body_goes}
use Rattle.telling.proofs.AtBits.{AtBit, value_there}
use Rattle.telling.proofs.ByItems.{metric_at, items_metric}
use Rattle.telling.proofs.Decided.{Sent, sent_there, user_there, head_there, PacketAt, Decided, decided_metres, decided_metric, decided_stays, Headed, headed_there}
use Rattle.told.specs.Metres.{metres_said}
use Rattle.told.proofs.Overwritten.{put_there, Holds, Tells, tells_as}
use Rattle.told.proofs.ToldItems.{told_at, items_tell}

-- ---- entries are parted at a bit in one way

parted : (a b : List Entry) (d e : Entry) (xs ys : List Entry) → a ++ d ∷ xs ≡ b ++ e ∷ ys → bit_count a ≡ bit_count b → xs ≡ ys
parted [] [] d e xs ys h n = cc
parted [] (x ∷ b) d e xs ys h n = let w = width_positive x.field in absurd (omega arith)
parted (x ∷ a) [] d e xs ys h n = let w = width_positive x.field in absurd (omega arith)
parted (x ∷ a) (y ∷ b) d e xs ys h n =
    let i : x ≡ y = cc in
    let j : a ++ d ∷ xs ≡ b ++ e ∷ ys = cc in
    let w : x.field.width ≡ y.field.width = ap (λ (z : Entry). z.field.width) i in
    parted a b d e xs ys j (omega arith)

module _ (s : List ℕ) (x : ℕ) where
  -- ---- what is put behind the scale

  -- a packet from the bit x on with its Q_SCALE k bits behind that, what decides by the scale whether it is told in metres, and what then is put
  pub record ToldBy (es : List Entry) (k : ℕ) (test : ℕ → Bool) (puts : ℕ → List ℕ → List ℕ) : Type 0 where
    pub decided : Decided s x es k test
    pub tells : (q : ℕ) → q ≤ 2 → test q ≡ true → Tells q (x + (k + 2)) decided.rest (puts q)

  -- the same puts in other words
  pub told_as : {es : List Entry} {k : ℕ} {test : ℕ → Bool} {puts puts2 : ℕ → List ℕ → List ℕ}
      → ((q : ℕ) (out : List ℕ) → puts q out ≡ puts2 q out) → ToldBy es k test puts → ToldBy es k test puts2
  told_as {puts = puts} {puts2 = puts2} h t =
      record { decided = t.decided; tells = λ q l m. tells_as (puts q) (puts2 q) (h q) (t.tells q l m) }

  -- ---- of a kind

  -- behind the front, which ends k bits behind x
  scale_told : (front : List Entry) (k : ℕ) → bit_count front ≡ k → (r : Items) → T (holds behind r) → {test : ℕ → Bool}
      → (es body : List Entry) → es ≡ front ++ body → Goes (send Q_SCALE r) body end → AllFair body → AtBit s (x + k) body → Decided s x es k test
      → ToldBy es k test (λ q. told_at s q r (x + (k + 2)))
  scale_told front k w r h {test} es body e g fair at d =
      let f = sent_there s x Q_SCALE r body k g fair at in
      let y = x + (k + 2) in
      let m = holding Q_SCALE (value_there s Q_SCALE (x + k)) in
      let i : f.rest ≡ d.rest =
      parted front d.front m m f.rest d.rest (sym (e ∙ ap (λ (l : List Entry). front ++ l) f.is) ∙ d.is) (w ∙ sym d.wide) in
      let good : (q : ℕ) → q ≤ 2 → test q ≡ true → metric_at s q r y ≡ true = λ q l o.
      sym (items_metric s q r h f.rest y f.goes f.fair f.there) ∙ ap (metric q) i ∙ d.decides q l ∙ o in
      record {
        decided = d;
        tells = λ q l o.
            subst (λ (z : List Entry). Tells q y z (told_at s q r y)) i
            (items_tell s q r h f.rest y f.goes f.fair f.there (good q l o));
      }

  pub kind_told : (i : ℕ) (r : Items) → find i etcs ≡ some (with_head (send Q_SCALE r)) → T (holds behind r)
      → {d n : ℕ} {body : List Entry} {test : ℕ → Bool} → PacketAt s x i d n body → Decided s x (headed i d n body) 23 test
      → ToldBy (headed i d n body) 23 test (λ q. told_at s q r (x + 25))
  kind_told i r e h {d} {n} {body} p t =
      let at = head_there s x i d n body p.there in
      scale_told (headed i d n []) 23 refl r h (headed i d n body) body refl (body_goes p.packet e) p.fair at t

  -- ---- of the CTCS packet in a packet

  found_44 : find 44 etcs ≡ some (with_head nest)
  unfolding find etcs
  found_44 = refl

  pub user_told : (u : ℕ) (r : Items) → find u ctcs ≡ some (with_head (send Q_SCALE r)) → T (holds behind r)
      → {d n : ℕ} {body : List Entry} {test : ℕ → Bool} → PacketAt s x 44 d n body → value_there s NID_XUSER (x + 23) ≡ u
      → Decided s x (headed 44 d n body) 47 test → ToldBy (headed 44 d n body) 47 test (λ q. told_at s q r (x + 49))
  user_told u r e h {d} {n} {body} {test} p is_u t =
      by_name (user_there s x body 23 (body_goes p.packet found_44) p.fair (head_there s x 44 d n body p.there))
    where
      leads : Items
      leads = or_end (find (value_there s NID_XUSER (x + 23)) ctcs)

      by_head : (a : Sent s x NID_XUSER leads body 23) → Headed s x (send Q_SCALE r) a.rest 32
          → ToldBy (headed 44 d n body) 47 test (λ q. told_at s q r (x + 49))
      by_head a b =
          let v = value_there s NID_XUSER (x + 23) in
          let front = headed 44 d n (holding NID_XUSER v ∷ holding Q_DIR b.dir ∷ holding L_PACKET b.size ∷ []) in
          scale_told front 47 refl r h (headed 44 d n body) b.rest
          (ap (headed 44 d n) (a.is ∙ ap (λ (l : List Entry). holding NID_XUSER v ∷ l) b.is)) b.goes b.fair b.there t

      by_name : Sent s x NID_XUSER leads body 23 → ToldBy (headed 44 d n body) 47 test (λ q. told_at s q r (x + 49))
      by_name a =
          let o : leads ≡ with_head (send Q_SCALE r) = ap (λ (v : ℕ). or_end (find v ctcs)) is_u ∙ ap or_end e in
          by_head a (headed_there s x (send Q_SCALE r) a.rest 32 (subst (λ (t : Items). Goes t a.rest end) o a.goes) a.fair a.there)

  -- ---- the normal form in its place

  -- the bits of entries with a scale among them
  scale_among : (front rest : List Entry) (v : ℕ) (post : List ℕ)
      → bits (front ++ holding Q_SCALE v ∷ rest) ++ post ≡ bits front ++ (digits 2 v ++ (bits rest ++ post))
  unfolding bits_in
  scale_among front rest v post =
      ap (λ (l : List ℕ). l ++ post) (all_append bits_in front (holding Q_SCALE v ∷ rest))
      ∙ append_assoc (bits front) (digits 2 v ++ bits rest) post
      ∙ ap (λ (l : List ℕ). bits front ++ l) (append_assoc (digits 2 v) (bits rest) post)

  module _ {es : List Entry} {k : ℕ} {test : ℕ → Bool} {puts : ℕ → List ℕ → List ℕ} (t : ToldBy es k test puts) where
    abbrev q : ℕ
    q = value_there s Q_SCALE (x + k)

    -- Where the test holds: each distance is put in metres, and then Q_SCALE 1.
    pub told_normal : test q ≡ true → (out pre post : List ℕ) → length pre ≡ x → Holds out pre es post
        → Holds (metres_said (x + k) (puts q out)) pre (normal es) post
    told_normal h out pre post l e =
        let d = t.decided in
        let front = d.front in
        let rest2 = map (retold q 1) d.rest in
        let a = pre ++ bits front in
        let wide : length a ≡ x + k = length-append pre (bits front) ∙ ap₂ (λ (i j : ℕ). i + j) l (length_bits front ∙ d.wide) in
        let b = a ++ digits 2 q in
        let long : length b ≡ x + (k + 2) =
        length-append a (digits 2 q) ∙ ap₂ (λ (i j : ℕ). i + j) wide (length_digits 2 q) ∙ (let z : x + k + 2 ≡ x + (k + 2) = omega arith in z) in
        let split : (v : ℕ) (r : List Entry) → pre ++ (bits (front ++ holding Q_SCALE v ∷ r) ++ post) ≡ a ++ (digits 2 v ++ (bits r ++ post)) = λ v r.
        ap (λ (l : List ℕ). pre ++ l) (scale_among front r v post) ∙ sym (append_assoc pre (bits front) (digits 2 v ++ (bits r ++ post))) in
        let sent : bits_of out ≡ b ++ (bits d.rest ++ post) =
        e
        ∙ ap (λ (l : List Entry). pre ++ (bits l ++ post)) d.is
        ∙ split q d.rest
        ∙ sym (append_assoc a (digits 2 q) (bits d.rest ++ post)) in
        let told : bits_of (puts q out) ≡ a ++ (digits 2 q ++ (bits rest2 ++ post)) =
        (t.tells q d.known h).leaves out b post long sent ∙ append_assoc a (digits 2 q) (bits rest2 ++ post) in
        put_there (puts q out) (x + k) 2 q 1 a (bits rest2 ++ post) wide (omega arith) (omega arith) told
        ∙ sym (split 1 rest2)
        ∙ ap (λ (l : List Entry). pre ++ (bits l ++ post)) (sym (decided_metric s x d h))

    -- Whatever its scale and its distances are: in metres already, told in metres, or as it was sent.
    pub told_whole : (out pre post : List ℕ) → length pre ≡ x → Holds out pre es post
        → Holds (cond (eqb q 1) out (cond (leb q 2 && test q) (metres_said (x + k) (puts q out)) out)) pre (normal es) post
    told_whole out pre post l e = by_scale (eqb q 1) refl
      where
        itself : normal es ≡ es → Holds out pre (normal es) post
        itself h = e ∙ ap (λ (l : List Entry). pre ++ (bits l ++ post)) (sym h)

        by_test : (b : Bool) → test q ≡ b → Holds (cond (true && b) (metres_said (x + k) (puts q out)) out) pre (normal es) post
        by_test true h = told_normal h out pre post l e
        by_test false h = itself (decided_stays s x t.decided h)

        by_scale : (b : Bool) → eqb q 1 ≡ b
            → Holds (cond b out (cond (leb q 2 && test q) (metres_said (x + k) (puts q out)) out)) pre (normal es) post
        by_scale true h = itself (normal_metres 0 es (decided_metres s x t.decided (eqb-true q 1 h)))
        by_scale false h = rw (le-leb q 2 t.decided.known) (by_test (test q) refl)
