-- A whole packet among the entries that were sent has one scale at most, no distance before that and no scale behind it; and behind it everything is
-- told by itself. For any terms. Assumes nothing.
use mathlib.Core.Bool.{Bool, true, false, cond, not}
use mathlib.Core.List.{List, [], ◌∷◌, ◌++◌}
use mathlib.Core.Path.{◌≡◌, refl, ap, ◌∙◌}
use Prim.Native.Nat.{ℕ}
use lib.Dec.{T, eqb}
use Rattle.format.specs.Fields.{Field, Sense, steers, Q_DIR, L_PACKET}
use Rattle.format.specs.Fields.Sense.{plain, scale, distance, text_length}
use Rattle.format.specs.Packets.{Items, etcs}
use Rattle.format.specs.Packets.Items.{end, nest, send, send_if, send_either, send_times}
use Rattle.format.specs.Rules.{State, Terms, named, next}
use Rattle.format.specs.Telegrams.{Entry, Run}
use Rattle.format.specs.Normal.{View, view_of, view, normal_under, normal}
use Rattle.format.specs.Normal.View.{kept, scales, measures}
use Rattle.format.proofs.Rows.{and_left}
use Rattle.laws.proofs.Every.{found}
use Rattle.format.specs.Among.{holding}
use Rattle.laws.proofs.Steps.{going}
use Rattle.laws.proofs.Told.{choose_t}
use Rattle.laws.proofs.Whole.{Goes, headed, Packet}
use Rattle.laws.proofs.Whole.Goes.{here, further}
use Rattle.telling.proofs.Under.{Led, led_append, normal_append}
use Rattle.telling.proofs.Once.{Phase, Shape, shape_led, Sorted, sorted}
use Rattle.telling.proofs.Once.Phase.{ahead, behind}
use Rattle.telling.proofs.Scales.{opens, same, ordered}
use Rattle.telling.proofs.Ordered.{etcs_ordered, Fares, fares, is_late}
use Rattle.telling.proofs.Ordered.Fares.{edge, stays, turns}
use Rattle.telling.proofs.EachPacket.{left_led}

-- ---- phases along entries that grow at their end

-- entries lead from the phase k to the phase j
abbrev pub Reaches : Phase → List Entry → Phase → Type 0
Reaches k [] j = k ≡ j
Reaches k (e ∷ es) j = choose_t (view e) (Reaches k es j) ((k ≡ ahead) × Reaches behind es j) ((k ≡ behind) × Reaches k es j)

pub reaches_append : (k i j : Phase) (es fs : List Entry) → Reaches k es i → Reaches i fs j → Reaches k (es ++ fs) j
reaches_append k i j [] fs r s = rw r s
reaches_append k i j (e ∷ es) fs r s = by_view (view e) (λ l. reaches_append l i j es fs) r
  where
    by_view : (x : View) → ((l : Phase) → Reaches l es i → Reaches i fs j → Reaches l (es ++ fs) j)
        → choose_t x (Reaches k es i) ((k ≡ ahead) × Reaches behind es i) ((k ≡ behind) × Reaches k es i)
        → choose_t x (Reaches k (es ++ fs) j) ((k ≡ ahead) × Reaches behind (es ++ fs) j) ((k ≡ behind) × Reaches k (es ++ fs) j)
    by_view kept ih r = ih k r s
    by_view scales ih r = (r.0, ih behind r.1 s)
    by_view measures ih r = (r.0, ih k r.1 s)

pub reaches_shape : (k j : Phase) (es : List Entry) → Reaches k es j → Shape k es
reaches_shape k j [] r = tt
reaches_shape k j (e ∷ es) r = by_view (view e) (λ l. reaches_shape l j es) r
  where
    by_view : (x : View) → ((l : Phase) → Reaches l es j → Shape l es)
        → choose_t x (Reaches k es j) ((k ≡ ahead) × Reaches behind es j) ((k ≡ behind) × Reaches k es j)
        → choose_t x (Shape k es) ((k ≡ ahead) × Shape behind es) ((k ≡ behind) × Shape k es)
    by_view kept ih r = ih k r
    by_view scales ih r = (r.0, ih behind r.1)
    by_view measures ih r = (r.0, ih k r.1)

-- ---- one field

reaches_same : (k : Phase) (f : Field) (v : ℕ) → T (same k f.sense) → Reaches k (holding f v ∷ []) k
reaches_same k f v h = by_sense f.sense h
  where
    by_sense : (s : Sense) → T (same k s) → choose_t (view_of s v) (k ≡ k) ((k ≡ ahead) × (behind ≡ k)) ((k ≡ behind) × (k ≡ k))
    by_sense (plain r) h = refl
    by_sense scale h = absurd h
    by_sense distance h = (is_late k h, refl)
    by_sense text_length h = by_test (eqb v 32767)
      where
        by_test : (b : Bool) → choose_t (cond b kept measures) (k ≡ k) ((k ≡ ahead) × (behind ≡ k)) ((k ≡ behind) × (k ≡ k))
        by_test true = refl
        by_test false = (is_late k h, refl)

not_both : {A : Type 0} (b : Bool) → T b → T (not b) → A
not_both true h k = absurd k
not_both false h k = absurd h

-- no packet begins inside one
going_shut : (k : Phase) (t : Items) (v : ℕ) → T (going t) → T (ordered k t) → T (not (opens (named t v)))
going_shut k end v g o = absurd g
going_shut k nest v g o = tt
going_shut k (send f r) v g o = and_left (not (opens f)) _ o
going_shut k (send_if c f r) v g o = and_left (not (opens (steers c))) _ o
going_shut k (send_either c a b) v g o = and_left (not (opens (steers c))) _ o
going_shut k (send_times c b r) v g o = and_left (not (opens (steers c))) _ o

-- a phase that entries lead to, from which the items that are left are ordered
pub record Reached (k : Phase) (es : List Entry) (u : Items) : Type 0 where
  pub phase : Phase
  pub way : Reaches k es phase
  pub left : T (ordered phase u)

reached_more : {k : Phase} {es : List Entry} {u w : Items} (f : Field) (v : ℕ) (g : Reached k es u) → T (not (opens f)) → Fares g.phase f w
    → Reached k (es ++ (holding f v ∷ [])) w
reached_more f v g n (edge o s i) = not_both (opens f) o n
reached_more {k} {es} f v g n (stays o s i) =
    record { phase = g.phase; way = reaches_append k g.phase g.phase es (holding f v ∷ []) g.way (reaches_same g.phase f v s); left = i }
reached_more {k} {es} f v g n (turns a o s i) =
    record { phase = behind; way = reaches_append k g.phase behind es (holding f v ∷ []) g.way (rw s (a, refl)); left = i }

pub goes_reached : {t u : Items} {es : List Entry} (k : Phase) → T (ordered k t) → Goes t es u → Reached k es u
goes_reached k o here = record { phase = k; way = refl; left = o }
goes_reached k o (further {u = u} {w = w} v g n e) =
    let r = goes_reached k o g in
    reached_more (named u v) v r (going_shut r.phase u v n r.left) (fares r.phase u v w r.left e)

-- ---- a whole packet

pub packet_shaped : {i d n : ℕ} {body : List Entry} → Packet i d n body → Shape ahead (headed i d n body)
unfolding next
packet_shaped {i} {d} {n} {body} p =
    let o : T (ordered ahead p.began.items) = rw p.began.found at (found (λ t. T (ordered ahead t)) i etcs etcs_ordered) in
    let r = goes_reached ahead o p.goes in
    reaches_shape ahead r.phase (holding Q_DIR d ∷ holding L_PACKET n ∷ body) r.way

pub packet_sorted : {i d n : ℕ} {body : List Entry} → Packet i d n body → Sorted (headed i d n body)
packet_sorted {i} {d} {n} {body} p = sorted (headed i d n body) (packet_shaped p)

pub packet_led : {i d n : ℕ} {body : List Entry} → Packet i d n body → Led (headed i d n body)
packet_led {i} {d} {n} {body} p = shape_led (headed i d n body) (packet_shaped p)

-- with what came before it, and what is left behind it up to the end mark: each by itself
module _ (p : Terms) {i d n : ℕ} {body : List Entry} (b : Packet i d n body) {s : State} {left : List Entry} (r : Run p s left) (e : s.todo ≡ end)
  where
    abbrev packet : List Entry
    packet = headed i d n body

    pub normal_whole : (q t : ℕ) (es : List Entry) → normal_under q t (es ++ (packet ++ left)) ≡ normal_under q t es ++ (normal packet ++ normal left)
    normal_whole q t es =
        normal_append (packet ++ left) (led_append packet left (packet_led b) (left_led p r e)) q t es
        ∙ ap (λ (l : List Entry). normal_under q t es ++ l) (normal_append left (left_led p r e) 0 0 packet)
