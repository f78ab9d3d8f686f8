-- An accepted telegram from its front: the header's 50 bits, whole packets one after the other, and the end mark. Its normal form goes along
-- them. For any terms. Assumes nothing.
use mathlib.Core.List.{List, [], ◌∷◌, ◌++◌, append_assoc, append-nil}
use mathlib.Core.Path.{◌≡◌, refl, sym, ap, ◌∙◌, subst}
use Prim.Native.Nat.{ℕ}
use native.Mathlib.Omega.{arith}
use Rattle.format.specs.Packets.Items.{end}
use Rattle.format.specs.Rules.{State, Terms, Earlier}
use Rattle.format.specs.Rules.Level.{in_header}
use Rattle.format.specs.Telegrams.{Entry, entry, bit_count, divided, Run, Telegram}
use Rattle.format.specs.Telegrams.Run.{last, more}
use Rattle.format.specs.Normal.{metric, normal_under, normal}
use Rattle.laws.proofs.Sources.{width_positive}
use Rattle.laws.proofs.Steps.{going_on, over_mark}
use Rattle.laws.proofs.Tile.{end_mark, joined, divided_joined, tiled}
use Rattle.laws.proofs.Points.{Sends}
use Rattle.laws.proofs.Points.Sends.{nothing, one_more}
use Rattle.laws.proofs.Recalled.{sends_stands}
use Rattle.laws.proofs.Standing.{Stands}
use Rattle.laws.proofs.Standing.Stands.{between, amid}
use Rattle.laws.proofs.Whole.{headed, Packet, Whole, Stage}
use Rattle.laws.proofs.Whole.Whole.{front, then}
use Rattle.laws.proofs.Whole.Stage.{fronting, resting, after_name, after_dir, after_size}
use Rattle.laws.proofs.Stages.{sends_stage}
use Rattle.telling.proofs.Under.{Led, led_append, metric_append, normal_append}
use Rattle.telling.proofs.Once.{Bare, normal_front}
use Rattle.telling.proofs.EachPacket.{header_bare}
use Rattle.telling.proofs.WholePackets.{packet_led}

-- ---- whole packets, the first in front

pub data InOrder : List Entry → Type 0 where
  no_more : InOrder []
  packet_then : {i d n : ℕ} {body es : List Entry} → Packet i d n body → InOrder es → InOrder (headed i d n body ++ es)

in_order_append : {es fs : List Entry} → InOrder es → InOrder fs → InOrder (es ++ fs)
in_order_append no_more g = g
in_order_append {fs = fs} (packet_then {i} {d} {n} {body} {es} b h) g =
    subst InOrder (sym (append_assoc (headed i d n body) es fs)) (packet_then b (in_order_append h g))

-- packets that stand whole
record Split (es : List Entry) : Type 0 where
  header : List Entry
  packets : List Entry
  parts : es ≡ header ++ packets
  wide : bit_count header ≡ 50
  order : InOrder packets

split : {es : List Entry} {l : List Earlier} → Whole es l → Split es
split (front {es = es} b v) = record { header = es; packets = []; parts = sym (append-nil es); wide = b; order = no_more }
split (then {es = es} {i = i} {d = d} {n = n} {body = body} w p) =
    let h = split w in
    let one : InOrder (headed i d n body) = subst InOrder (append-nil (headed i d n body)) (packet_then p no_more) in
    record {
      header = h.header;
      packets = h.packets ++ headed i d n body;
      parts = ap (λ (x : List Entry). x ++ headed i d n body) h.parts ∙ append_assoc h.header h.packets (headed i d n body);
      wide = h.wide;
      order = in_order_append h.order one;
    }

-- ---- of a telegram

-- between two packets all are whole
whole_between : {p : Terms} {es : List Entry} {s : State} → Sends p es s → s.todo ≡ end → (l : List Earlier) × Whole es l
whole_between {p} {es} {s} h i = by_stage (sends_stands h) (sends_stage h)
  where
    not_going : {A : Type 0} → Stands es s → s.context.level ≡ in_header → A
    not_going (between k l x) m = let z : ◌≡◌ {A = ℕ} 0 1 = cc in absurd (omega arith)
    not_going (amid g k) m = going_on s.todo g i

    by_stage : Stands es s → Stage es s → (l : List Earlier) × Whole es l
    by_stage st (fronting l e f) = not_going st l
    by_stage st (resting k w) = (s.context.earlier, w)
    by_stage st (after_name b o e w l x k j q) = let z : ◌≡◌ {A = ℕ} 0 1 = cc in absurd (omega arith)
    by_stage st (after_dir b d o e w m l x k j q) = let z : ◌≡◌ {A = ℕ} 0 1 = cc in absurd (omega arith)
    by_stage st (after_size b d n body o e w m x y k q r g z c) = going_on s.todo g i

record Sent (p : Terms) (es : List Entry) : Type 0 where
  front : List Entry
  state : State
  sends : Sends p front state
  done : state.todo ≡ end
  is : es ≡ front ++ (end_mark ∷ [])

sent : {p : Terms} {s : State} (ds : List Entry) {es : List Entry} → Sends p ds s → Run p s es → Sent p (ds ++ es)
sent {p} ds h (last {s = s} {v = v} f e) =
    let m = over_mark p s v e in
    record { front = ds; state = s; sends = h; done = m.0; is = ap (λ (x : Entry). ds ++ (x ∷ [])) (rw (m.0, m.1)) }
sent {p} ds h (more {s = s} {v = v} {es = es} f e r) =
    subst (Sent p) (append_assoc ds (entry s v ∷ []) es) (sent (ds ++ (entry s v ∷ [])) (one_more v h f e) r)

-- two fronts of as many bits are one
one_front : (xs ys us vs : List Entry) → xs ++ us ≡ ys ++ vs → bit_count xs ≡ bit_count ys → xs ≡ ys
one_front [] [] us vs e h = refl
one_front [] (y ∷ ys) us vs e h = let w = width_positive y.field in absurd (omega arith)
one_front (x ∷ xs) [] us vs e h = let w = width_positive x.field in absurd (omega arith)
one_front (x ∷ xs) (y ∷ ys) us vs e h =
    let i : x ≡ y = cc in
    let j : xs ++ us ≡ ys ++ vs = cc in
    let w : x.field.width ≡ y.field.width = ap (λ (a : Entry). a.field.width) i in
    let k : xs ≡ ys = one_front xs ys us vs j (omega arith) in
    cc

-- the header, the packets in order, the end mark
pub record Laid (es : List Entry) : Type 0 where
  pub header : List Entry
  pub packets : List Entry
  pub parts : es ≡ header ++ (packets ++ (end_mark ∷ []))
  pub wide : bit_count header ≡ 50
  pub plain : Bare header
  pub order : InOrder packets

pub laid : (p : Terms) {es : List Entry} → Telegram p es → Laid es
laid p {es} t =
    let m = sent [] nothing t in
    let h = split (whole_between m.sends m.done).1 in
    let e : es ≡ h.header ++ (h.packets ++ (end_mark ∷ [])) =
    m.is ∙ ap (λ (x : List Entry). x ++ (end_mark ∷ [])) h.parts ∙ append_assoc h.header h.packets (end_mark ∷ []) in
    let one : (divided es).header ≡ h.header =
    one_front (divided es).header h.header (joined (divided es).packets) (h.packets ++ (end_mark ∷ [])) (divided_joined es ∙ e)
    ((tiled p t).header ∙ sym h.wide) in
    record { header = h.header; packets = h.packets; parts = e; wide = h.wide; plain = subst Bare one (header_bare p t); order = h.order }

-- ---- its normal form

pub order_led : {es : List Entry} → InOrder es → Led (es ++ (end_mark ∷ []))
order_led no_more = tt
order_led (packet_then {i} {d} {n} {body} {es} b h) =
    subst Led (sym (append_assoc (headed i d n body) es (end_mark ∷ [])))
    (led_append (headed i d n body) (es ++ (end_mark ∷ [])) (packet_led b) (order_led h))

-- the header as it is
pub normal_laid : {es : List Entry} (l : Laid es) → normal es ≡ l.header ++ normal (l.packets ++ (end_mark ∷ []))
normal_laid l = ap normal l.parts ∙ normal_front 0 0 l.header (l.packets ++ (end_mark ∷ [])) l.plain

-- each packet by itself, and then those behind it
pub normal_next : {i d n : ℕ} {body es : List Entry} → Packet i d n body → InOrder es
    → normal (headed i d n body ++ (es ++ (end_mark ∷ []))) ≡ normal (headed i d n body) ++ normal (es ++ (end_mark ∷ []))
normal_next {i} {d} {n} {body} {es} b h = normal_append (es ++ (end_mark ∷ [])) (order_led h) 0 0 (headed i d n body)

-- the end mark as it is
pub normal_mark : normal (end_mark ∷ []) ≡ end_mark ∷ []
unfolding normal_under
normal_mark = refl

-- whatever of a packet stands before those behind it, `metric` goes by that alone
pub metric_next : {es : List Entry} → InOrder es → (q : ℕ) (fs : List Entry) → metric q (fs ++ (es ++ (end_mark ∷ []))) ≡ metric q fs
metric_next {es} h q fs = metric_append (es ++ (end_mark ∷ [])) (order_led h) q fs
