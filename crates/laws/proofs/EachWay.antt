-- Clause 5.1.5: a train that runs either way gets at most one packet of each kind but ETCS-44. Of 0 to 2, two directions collide just where
-- some train gets both; and no packet of a telegram has another direction, or is left out. Assumes nothing.
use mathlib.Core.Bool.{Bool, true, false, ◌&&◌, ◌||◌, or-true, or_comm}
use mathlib.Core.List.{List, [], ◌∷◌, ◌++◌}
use mathlib.Core.Path.{◌≡◌, refl, sym, ap, ◌∙◌, subst}
use Prim.Native.Nat.{ℕ, zero, suc, ◌≤◌}
use native.Mathlib.Omega.{arith}
use borrow.Author.Tests.{eqb-true, eqb-false, eq-eqb, ne_eqb}
use lib.Dec.{eqb}
use Rattle.format.specs.Among.{holding, PacketIn}
use Rattle.format.specs.Fields.{Field, NID_PACKET, Q_DIR, L_PACKET, END}
use Rattle.format.specs.Packets.{Items}
use Rattle.format.specs.Packets.Items.{end, send}
use Rattle.format.specs.Rules.{State, Context, Terms, step, next, clash, field_place, paper}
use Rattle.format.specs.Rules.Next.{go, over}
use Rattle.format.specs.Telegrams.{Entry, entry, Run, Telegram}
use Rattle.format.specs.Telegrams.Run.{last, more}
use Rattle.laws.proofs.Steps.{go_next, over_mark}
use Rattle.laws.proofs.Points.{Sends}
use Rattle.laws.proofs.Points.Sends.{nothing, one_more}
use Rattle.laws.proofs.Headed.{named_due, packet_headed}
use Rattle.laws.proofs.Standing.{apart}
use Rattle.laws.proofs.Pairs.{Newest, Order, serves, packet_newest, packets_ordered, not_empty}
use Rattle.laws.proofs.Pairs.Newest.{old, new}
use Rattle.laws.proofs.Pairs.Order.{same, ahead, behind}
use Rattle.laws.proofs.Awaited.{Awaits}
use Rattle.laws.proofs.Awaited.Awaits.{begins, directs, goes_by}
use Rattle.laws.proofs.Recalled.{begins_apart, sends_awaits, named_begins}
use Rattle.laws.proofs.Collided.{allowed_small, go_unbroken}
use Rattle.laws.proofs.Apart.{Finished, finished, telegram_apart}

-- ---- the rule of directions

-- two numbers are one, either way round
pub eqb_symmetric : (d e : ℕ) → eqb d e ≡ eqb e d
eqb_symmetric d e = by_test (eqb d e) refl
  where
    by_test : (b : Bool) → eqb d e ≡ b → b ≡ eqb e d
    by_test true i = sym (eq-eqb e d (sym (eqb-true d e i)))
    by_test false i = sym (ne_eqb e d (λ j. eqb-false d e i (sym j)))

-- it does not matter which of two packets is the later one
pub clash_symmetric : (d e : ℕ) → clash d e ≡ clash e d
unfolding clash
clash_symmetric d e = rw (eqb_symmetric d e, or_comm (eqb d 2) (eqb e 2))

-- directions that a train running some way gets both collide
pub served_clash : (way d e : ℕ) → serves d way ≡ true → serves e way ≡ true → clash d e ≡ true
unfolding clash
served_clash way d e h k = by_tests (eqb d 2) (eqb e 2) (eqb d way) (eqb e way) refl refl h k
  where
    by_tests : (a b x y : Bool) → eqb d way ≡ x → eqb e way ≡ y → (a || x) ≡ true → (b || y) ≡ true → (eqb d e || (a || b)) ≡ true
    by_tests true b x y i j h k = or-true (eqb d e)
    by_tests false true x y i j h k = or-true (eqb d e)
    by_tests false false x y i j h k = rw (eq-eqb d e (eqb-true d way (i ∙ h) ∙ sym (eqb-true e way (j ∙ k))))

-- "A packet valid both ways counts for each way": two directions collide just where a train that runs way 0 or way 1 gets both
pub clash_shared : (d e : ℕ) → d ≤ 2 → e ≤ 2 → clash d e ≡ (serves d 0 && serves e 0 || serves d 1 && serves e 1)
unfolding clash
clash_shared zero zero h k = refl
clash_shared zero (suc zero) h k = refl
clash_shared zero (suc (suc zero)) h k = refl
clash_shared zero (suc (suc (suc e))) h k = absurd (omega arith)
clash_shared (suc zero) zero h k = refl
clash_shared (suc zero) (suc zero) h k = refl
clash_shared (suc zero) (suc (suc zero)) h k = refl
clash_shared (suc zero) (suc (suc (suc e))) h k = absurd (omega arith)
clash_shared (suc (suc zero)) zero h k = refl
clash_shared (suc (suc zero)) (suc zero) h k = refl
clash_shared (suc (suc zero)) (suc (suc zero)) h k = refl
clash_shared (suc (suc zero)) (suc (suc (suc e))) h k = absurd (omega arith)
clash_shared (suc (suc (suc d))) e h k = absurd (omega arith)

-- ---- one packet of each kind for each way

-- two packets of one kind in a telegram, whose directions collide
module _ {es : List Entry} (telegram : Telegram paper es) (id : ℕ) (not_44 : id ≡ 44 → ⊥) where
  -- one before the other would make a pair
  not_before : (d e : ℕ) (k : PacketIn es id e) → PacketIn k.before id d → clash e d ≡ true → ⊥
  not_before d e k h c =
      telegram_apart field_place clash telegram
      (record { id = id; dir = e; later = k; not_44 = not_44; earlier = record { other = d; packet = h; collides = c } })

  -- so the two are one
  same_packet : {d e : ℕ} (h : PacketIn es id d) (k : PacketIn es id e) → clash d e ≡ true → (h.before ≡ k.before) × (d ≡ e)
  same_packet {d} {e} h k c = by_order (packets_ordered h k)
    where
      by_order : Order h.before k.before id d id e → (h.before ≡ k.before) × (d ≡ e)
      by_order (same i n j) = (i, j)
      by_order (ahead x y) = absurd (not_before d e k x (clash_symmetric e d ∙ c))
      by_order (behind x y) = absurd (not_before e d h x c)

-- "Clause 5.1.5 allows one packet per direction": a train running either way gets at most one packet of each kind but ETCS-44. Two packets of
-- one kind that both count for it are one, for the same entries stand before both.
abbrev pub OneEachWay : List Entry → Type 0
OneEachWay es =
    (way id d e : ℕ) → (id ≡ 44 → ⊥) → (h : PacketIn es id d) (k : PacketIn es id e) → serves d way ≡ true → serves e way ≡ true
    → (h.before ≡ k.before) × (d ≡ e)

pub one_each_way : {es : List Entry} → Telegram paper es → OneEachWay es
one_each_way t way id d e not_44 h k a b = same_packet t id not_44 h k (served_clash way d e a b)

-- ---- and no packet is left out

module _ (p : Terms) where
  -- a run's first entry is of the field that is due
  run_due : {s : State} {es : List Entry} → Run p s es → (f : Field) (r : Items) → s.todo ≡ send f r
      → (v : ℕ) × ((rest : List Entry) × (es ≡ holding f v ∷ rest))
  run_due (last {s = s} {v = v} f e) g r i = (v, ([], rw i refl))
  run_due (more {s = s} {v = v} {es = es} f e w) g r i = (v, (es, rw i refl))

  module _ {es : List Entry} {s : State} {v id : ℕ} (sends : Sends p es s) (is : entry s v ≡ holding NID_PACKET id) where
    begins_here : s.todo ≡ end
    begins_here = named_begins es s v (sends_awaits sends) (ap (λ (x : Entry). x.field) is)

    -- the end mark is no packet
    not_marked : step p s v ≡ over → ⊥
    not_marked e =
        let m = over_mark p s v e in
        apart END NID_PACKET refl (rw (m.0, m.1) at (ap (λ (x : Entry). x.field) is))

    -- a packet goes on with its Q_DIR
    headed : (t : Items) (c : Context) → step p s v ≡ go t c → (r : Items) × (t ≡ send Q_DIR r)
    unfolding next
    headed t c e = let h = packet_headed v t (rw begins_here at (go_next p s v t c e)) in (send L_PACKET h.rest, h.is)

  directed_on : {es : List Entry} {s : State} {rest : List Entry} (id : ℕ) (b a : List Entry) → Sends p es s → Run p s rest
      → rest ≡ b ++ holding NID_PACKET id ∷ a → (dir : ℕ) × ((after : List Entry) × (a ≡ holding Q_DIR dir ∷ after))
  directed_on id [] a h (last {s = s} {v = v} f e) i = let is : entry s v ≡ holding NID_PACKET id = cc in absurd (not_marked h is e)
  directed_on id [] a h (more {s = s} {v = v} {t = t} {c = c} f e w) i =
      let is : entry s v ≡ holding NID_PACKET id = cc in
      let d = headed h is t c e in
      let r = run_due w Q_DIR d.0 d.1 in
      (r.0, (r.1.0, cc r.1.1))
  directed_on id (x ∷ b) a h (last {s = s} {v = v} f e) i = not_empty b (holding NID_PACKET id) a (cc)
  directed_on {es = es} {s = s} id (x ∷ b) a h (more {v = v} f e w) i = directed_on {es = es ++ (entry s v ∷ [])} id b a (one_more v h f e) w (cc)

-- every NID_PACKET of a telegram begins a packet: its Q_DIR stands right behind it
pub every_packet : {p : Terms} {es : List Entry} → Telegram p es → (id : ℕ) (b a : List Entry) → es ≡ b ++ holding NID_PACKET id ∷ a
    → (dir : ℕ) × ((h : PacketIn es id dir) × (h.before ≡ b))
every_packet {p} t id b a i =
    let d = directed_on p id b a nothing t i in
    (d.0, (record { before = b; after = d.1.0; parts = i ∙ ap (λ (l : List Entry). b ++ holding NID_PACKET id ∷ l) d.1.1 }, refl))

-- ---- and its Q_DIR is 0, 1 or 2

-- of a packet that the last entry makes: the entry breaks no rule
newest_small : {p : Terms} {es : List Entry} {s : State} {v : ℕ} (t : Items) (c : Context) (b : List Entry) (id d : ℕ) → Sends p es s
    → step p s v ≡ go t c → entry s v ≡ holding Q_DIR d → es ≡ b ++ (holding NID_PACKET id ∷ []) → d ≤ 2
newest_small {p} {es} {s} {v} t c b id d h e f j = by_due (sends_awaits h)
  where
    value_is : v ≡ d
    value_is = ap (λ (x : Entry). x.value) f

    by_due : Awaits es s → d ≤ 2
    by_due (begins i) = absurd (begins_apart (eqb v 255) (rw i at (ap (λ (x : Entry). x.field) f)))
    by_due (directs g q l a n k) = rw value_is at (allowed_small p s.context v (rw q at (go_unbroken p s v t c e)))
    by_due (goes_by g w) = absurd (w.undirected (sym (named_due s.todo v g) ∙ ap (λ (x : Entry). x.field) f) b id j)

-- of each packet that was sent
sends_small : {p : Terms} {es : List Entry} {s : State} {id d : ℕ} → Sends p es s → PacketIn es id d → d ≤ 2
sends_small nothing h = not_empty h.before _ _ h.parts
sends_small {id = id} {d = d} (one_more {es = es} {s = s} v {t = t} {c = c} w fits e) h =
    by_last (λ k. sends_small w k) (packet_newest h)
  where
    by_last : (PacketIn es id d → d ≤ 2) → Newest es (entry s v) h.before id d → d ≤ 2
    by_last before (old a j) = before (record { before = h.before; after = a; parts = j })
    by_last before (new f j) = newest_small t c h.before id d w e f j

-- of each packet of a telegram
pub telegram_small : {p : Terms} {es : List Entry} {id d : ℕ} → Telegram p es → PacketIn es id d → d ≤ 2
telegram_small {p} {es} {id} {d} t h = by_last (packet_newest (subst (λ (l : List Entry). PacketIn l id d) w.ends h))
  where
    w : Finished p es
    w = finished t

    by_last : {b : List Entry} → Newest w.sent (entry w.state w.value) b id d → d ≤ 2
    by_last {b} (old a j) = sends_small w.sends (record { before = b; after = a; parts = j })
    by_last (new f j) =
        let m = over_mark p w.state w.value w.marks in
        absurd (begins_apart (eqb w.value 255) (rw m.0 at (ap (λ (x : Entry). x.field) f)))
