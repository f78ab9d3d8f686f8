-- Where a packet's scale stands: right behind its head, or behind the head of the CTCS packet in it; else the packet has none, and no distance.
-- Assumes nothing.
use mathlib.Core.List.{List, [], ◌∷◌, ◌++◌}
use mathlib.Core.Option.{Option, some, none}
use mathlib.Core.Path.{◌≡◌, refl, sym, subst}
use Prim.Native.Nat.{ℕ}
use native.Mathlib.Omega.{arith}
use lib.Dec.{T}
use Rattle.format.specs.Fields.{Field, NID_XUSER, Q_DIR, L_PACKET, Q_SCALE}
use Rattle.format.specs.Packets.{Items, etcs, ctcs, find}
use Rattle.format.specs.Packets.Items.{end, nest, send}
use Rattle.format.specs.Rules.{named, or_end, next}
use Rattle.format.specs.Telegrams.{Entry}
use Rattle.laws.proofs.Every.{IfSome, Throughout, found}
use Rattle.laws.proofs.Headed.{with_head}
use Rattle.laws.proofs.Pairs.{not_empty}
use Rattle.format.specs.Among.{holding}
use Rattle.laws.proofs.Steps.{going}
use Rattle.laws.proofs.Tile.{sent_next}
use Rattle.laws.proofs.Whole.{Goes, Packet}
use Rattle.laws.proofs.Whole.Goes.{here, further}
use Rattle.telling.proofs.Once.{Shape, Bare, heading_bare}
use Rattle.telling.proofs.Once.Phase.{heading, behind}
use Rattle.telling.proofs.Scales.{ordered}
use Rattle.telling.proofs.WholePackets.{reaches_shape, goes_reached}

-- ---- the first of entries that lead on

pub goes_none : {t u : Items} {es : List Entry} → Goes t es u → es ≡ [] → t ≡ u
goes_none here e = refl
goes_none (further {es = es} {u = u} v g n i) e = not_empty es (holding (named u v) v) [] (sym e)

pub record First (t : Items) (e : Entry) (es : List Entry) (w : Items) : Type 0 where
  pub goes : T (going t)
  pub items : Items
  pub leads : next t e.value ≡ some items
  pub name : e.field ≡ named t e.value
  pub rest : Goes items es w

first_of : {t u w : Items} (v : ℕ) (fs : List Entry) → Goes t fs u → T (going u) → next u v ≡ some w
    → ((e : Entry) (es : List Entry) → fs ≡ e ∷ es → First t e es u)
    → (e : Entry) (es : List Entry) → fs ++ (holding (named u v) v ∷ []) ≡ e ∷ es → First t e es w
first_of {t} {u} {w} v [] g n j ih e es i =
    let x : holding (named u v) v ≡ e = cc in
    let y : [] ≡ es = cc in
    let k : t ≡ u = goes_none g refl in
    let f : First t (holding (named u v) v) [] w = rw k (record { goes = n; items = w; leads = j; name = refl; rest = here }) in
    subst (λ (a : Entry). First t a es w) x (subst (λ (l : List Entry). First t (holding (named u v) v) l w) y f)
first_of {t} {u} {w} v (a ∷ fs) g n j ih e es i =
    let x : a ≡ e = cc in
    let y : fs ++ (holding (named u v) v ∷ []) ≡ es = cc in
    let r = ih a fs refl in
    let f : First t a (fs ++ (holding (named u v) v ∷ [])) w =
    record { goes = r.goes; items = r.items; leads = r.leads; name = r.name; rest = further v r.rest n j } in
    subst (λ (b : Entry). First t b es w) x (subst (λ (l : List Entry). First t a l w) y f)

pub goes_first : {t w : Items} {l : List Entry} → Goes t l w → (e : Entry) (es : List Entry) → l ≡ e ∷ es → First t e es w
goes_first here e es i = not_empty [] e es i
goes_first (further {es = fs} v g n j) e es i = first_of v fs g n j (λ a b h. goes_first g a b h) e es i

-- one field of a row
pub sent_first : {f : Field} {r w : Items} {v : ℕ} {es : List Entry} → Goes (send f r) (holding f v ∷ es) w → Goes r es w
sent_first {f} {r} {w} {v} {es} g =
    let x = goes_first g (holding f v) es refl in
    subst (λ (t : Items). Goes t es w) (sent_next f r x.items v x.leads) x.rest

-- behind a packet's head
pub body_goes : {i d n : ℕ} {body : List Entry} {r : Items} → Packet i d n body → find i etcs ≡ some (with_head r) → Goes r body end
unfolding next
body_goes {i} {d} {n} {body} {r} p e =
    let k : p.began.items ≡ with_head r = let f = p.began.found in cc in
    sent_first (sent_first (subst (λ (t : Items). Goes t (holding Q_DIR d ∷ holding L_PACKET n ∷ body) end) k p.goes))

-- ---- what stands behind a head

pub data Body : List Entry → Type 0 where
  own : (q : ℕ) (rest : List Entry) → Shape behind rest → Body (holding Q_SCALE q ∷ rest)
  unscaled : {es : List Entry} → Bare es → Body es

pub data Faced : List Entry → Type 0 where
  outer : {es : List Entry} → Body es → Faced es
  inner : (x d n : ℕ) {es : List Entry} → Body es → Faced (holding NID_XUSER x ∷ holding Q_DIR d ∷ holding L_PACKET n ∷ es)

-- by the items
pub data Facing : Items → Type 0 where
  by_own : {r : Items} → T (ordered behind r) → Facing (send Q_SCALE r)
  by_none : {r : Items} → T (ordered heading r) → Facing r

pub data Heads : Items → Type 0 where
  heads : {r : Items} → Facing r → Heads (with_head r)
  carries : Heads (with_head nest)

pub data UserHeads : Items → Type 0 where
  user_heads : {r : Items} → Facing r → UserHeads (with_head r)

pub etcs_heads : Throughout Heads etcs
unfolding etcs
etcs_heads = (
  heads (by_own tt),
  (
    heads (by_own tt),
    (
      heads (by_own tt),
      (
        heads (by_own tt),
        (
          heads (by_none tt),
          (
            carries,
            (
              heads (by_none tt),
              (heads (by_own tt), (heads (by_own tt), (heads (by_own tt), (heads (by_own tt), (heads (by_none tt), (heads (by_none tt), (heads (by_none tt), tt))))))),
            ),
          ),
        ),
      ),
    ),
  ),
)

pub ctcs_heads : Throughout UserHeads ctcs
unfolding ctcs
ctcs_heads = (user_heads (by_own tt), (user_heads (by_own tt), (user_heads (by_own tt), (user_heads (by_own tt), (user_heads (by_none tt), tt)))))

-- a scale in front
pub own_body : {r : Items} → T (ordered behind r) → (body : List Entry) → Goes (send Q_SCALE r) body end → Body body
own_body {r} o [] g =
    let k : send Q_SCALE r ≡ end = goes_none g refl in
    let z : ◌≡◌ {A = ℕ} 0 1 = cc in
    absurd (omega arith)
own_body {r} o (e ∷ es) g =
    let x = goes_first g e es refl in
    let h : Goes r es end = subst (λ (t : Items). Goes t es end) (sent_next Q_SCALE r x.items e.value x.leads) x.rest in
    let w = goes_reached behind o h in
    subst (λ (f : Field). Body (holding f e.value ∷ es)) (sym x.name) (own e.value es (reaches_shape behind w.phase es w.way))

-- neither a scale nor a distance
pub none_body : {r : Items} → T (ordered heading r) → {body : List Entry} → Goes r body end → Body body
none_body o {body} g = let w = goes_reached heading o g in unscaled (heading_bare body (reaches_shape heading w.phase body w.way))

facing_body : {r : Items} → Facing r → (body : List Entry) → Goes r body end → Body body
facing_body (by_own o) body g = own_body o body g
facing_body (by_none o) body g = none_body o g

-- the CTCS packet
head_faced : (x : ℕ) {r : Items} → Facing r → (es : List Entry) → Goes (with_head r) es end → Faced (holding NID_XUSER x ∷ es)
head_faced x {r} f [] g =
    let k : with_head r ≡ end = goes_none g refl in
    let z : ◌≡◌ {A = ℕ} 0 1 = cc in
    absurd (omega arith)
head_faced x {r} f (a ∷ es) g =
    let y = goes_first g a es refl in
    subst (λ (c : Field). Faced (holding NID_XUSER x ∷ holding c a.value ∷ es)) (sym y.name)
    (by_next es (subst (λ (t : Items). Goes t es end) (sent_next Q_DIR (send L_PACKET r) y.items a.value y.leads) y.rest))
  where
    by_next : (l : List Entry) → Goes (send L_PACKET r) l end → Faced (holding NID_XUSER x ∷ holding Q_DIR a.value ∷ l)
    by_next [] h =
        let k : send L_PACKET r ≡ end = goes_none h refl in
        let z : ◌≡◌ {A = ℕ} 0 1 = cc in
        absurd (omega arith)
    by_next (b ∷ l) h =
        let w = goes_first h b l refl in
        let i : Goes r l end = subst (λ (t : Items). Goes t l end) (sent_next L_PACKET r w.items b.value w.leads) w.rest in
        subst (λ (c : Field). Faced (holding NID_XUSER x ∷ holding Q_DIR a.value ∷ holding c b.value ∷ l)) (sym w.name)
        (inner x a.value b.value (facing_body f l i))

user_faced : (x : ℕ) {t : Items} → UserHeads t → (es : List Entry) → Goes t es end → Faced (holding NID_XUSER x ∷ es)
user_faced x (user_heads f) es g = head_faced x f es g

found_faced : (x : ℕ) (o : Option Items) → IfSome UserHeads o → (es : List Entry) → Goes (or_end o) es end → Faced (holding NID_XUSER x ∷ es)
found_faced x none h [] g = outer (unscaled {es = holding NID_XUSER x ∷ []} (refl, tt))
found_faced x none h (e ∷ es) g = absurd (goes_first g e es refl).goes
found_faced x (some t) h es g = user_faced x h es g

nest_faced : (body : List Entry) → Goes nest body end → Faced body
unfolding next
nest_faced [] g =
    let k : nest ≡ end = goes_none g refl in
    let z : ◌≡◌ {A = ℕ} 0 1 = cc in
    absurd (omega arith)
nest_faced (e ∷ es) g =
    let x = goes_first g e es refl in
    let k : or_end (find e.value ctcs) ≡ x.items = let l = x.leads in cc in
    subst (λ (f : Field). Faced (holding f e.value ∷ es)) (sym x.name)
    (found_faced e.value (find e.value ctcs) (found UserHeads e.value ctcs ctcs_heads) es
    (subst (λ (t : Items). Goes t es end) (sym k) x.rest))

heads_faced : {t : Items} {d n : ℕ} → Heads t → (body : List Entry) → Goes t (holding Q_DIR d ∷ holding L_PACKET n ∷ body) end → Faced body
heads_faced (heads f) body g = outer (facing_body f body (sent_first (sent_first g)))
heads_faced carries body g = nest_faced body (sent_first (sent_first g))

-- of a whole packet
pub packet_faced : {i d n : ℕ} {body : List Entry} → Packet i d n body → Faced body
unfolding next
packet_faced {i} {d} {n} {body} p = heads_faced (rw p.began.found at (found Heads i etcs etcs_heads)) body p.goes
