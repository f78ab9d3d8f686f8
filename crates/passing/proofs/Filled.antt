-- From one packet's edge to the next: a packet that keeps its rules and collides with none before it, its fields its own or those of the CTCS packet
-- inside it. Assumes nothing.
use mathlib.Core.Bool.{true, false, or-true}
use mathlib.Core.Logic.{◌⊎◌, inl, inr, ⊎_elim}
use mathlib.Core.List.{List, [], ◌∷◌, ◌++◌, append_assoc}
use mathlib.Core.Option.{some}
use mathlib.Core.Path.{◌≡◌, refl, sym, ap, ◌∙◌}
use Prim.Native.Nat.{ℕ, ◌+◌, ◌-◌, ◌≤◌}
use native.Mathlib.Omega.{arith}
use borrow.Author.Tests.{le-leb, eq-eqb}
use lib.Dec.{T, eqb}
use lib.ListN.{drop}
use Rattle.bits.specs.Bits.{value_of}
use Rattle.bits.specs.Take.{field_bits}
use Rattle.format.specs.Fields.{Q_DIR, L_PACKET, NID_PACKET}
use Rattle.format.specs.Packets.{Items, etcs, ctcs, find}
use Rattle.format.specs.Packets.Items.{end, nest, send, send_if, send_either, send_times}
use Rattle.format.specs.Rules.{Context, Earlier, context, step, next, broken, misdirected, noted, closes, settled, onward, clash, collides_among, collides_by, paper}
use Rattle.format.specs.Rules.Level.{in_packet, in_user}
use Rattle.format.specs.Rules.Next.{go}
use Rattle.format.specs.Telegrams.{Entry, bits, bits_in, bit_count}
use Rattle.format.specs.Among.{holding}
use Rattle.laws.proofs.Round.{all_append}
use Rattle.laws.proofs.Stages.{sends_directs}
use Rattle.laws.proofs.Steps.{going, going_on}
use Rattle.states.specs.Lookback.{packets_before}
use Rattle.states.proofs.Colliding.{found_back}
use Rattle.states.proofs.LookedBack.{whole_before}
use Rattle.states.proofs.Scanning.{telegram_bits}
use Rattle.passing.proofs.Stood.{Stood, stood_on, standing, settled_going, settled_closing, stood_closed, between}
use Rattle.passing.proofs.Passing.{Passed, passed_grows, passed_from}
use Rattle.passing.proofs.Passing.Passed.{stay, pass}

-- ---- a packet's head

step_name : (x pig : ℕ) (l : List Earlier) (id : ℕ) (t : Items) → find id etcs ≡ some t → T (going t)
    → step paper (between x pig l) id ≡ go t (context in_packet x id 0 0 0 0 pig l)
unfolding step broken next onward noted
step_name x pig l id t e g = rw (e, or-true (eqb id 255)) (settled_going (x + 8) t (context in_packet x id 0 0 0 0 pig l) g)

step_way : (x start pig : ℕ) (l : List Earlier) (id dir : ℕ) (t : Items) → dir ≤ 2
    → collides_by clash (context in_packet start id 0 0 0 0 pig l) dir ≡ false → T (going t)
    → step paper (standing x (send Q_DIR t) (context in_packet start id 0 0 0 0 pig l)) dir
    ≡ go t (context in_packet start id dir 0 0 0 pig (record { id = id; dir = dir } ∷ l))
unfolding step broken misdirected next onward noted
step_way x start pig l id dir t h e g =
    rw (le-leb dir 2 h, e) (settled_going (x + 2) t (context in_packet start id dir 0 0 0 pig (record { id = id; dir = dir } ∷ l)) g)

step_size : (x start pig : ℕ) (l : List Earlier) (id dir long : ℕ) (t : Items)
    → step paper (standing x (send L_PACKET t) (context in_packet start id dir 0 0 0 pig l)) long
    ≡ settled (x + 13) t (context in_packet start id dir long 0 0 pig l)
unfolding step broken next onward noted
step_size x start pig l id dir long t = refl

-- the hops find what the context has, where the Q_DIR of a packet is due
module _ {s : List ℕ} {n : ℕ} {x start pig : ℕ} {l : List Earlier} {id : ℕ} {t : Items} {count : ℕ}
    (i : Stood s n (standing x (send Q_DIR t) (context in_packet start id 0 0 0 0 pig l)) count) (first : start ≤ n) where
  stood_alone : (dir : ℕ) → false ≡ collides_among clash id dir (packets_before s start)
      → collides_by clash (context in_packet start id 0 0 0 0 pig l) dir ≡ false
  unfolding collides_by
  stood_alone dir e =
      let q = sends_directs i.sends refl refl in
      let b = q.before in
      let mark = holding NID_PACKET q.name in
      let rest = drop x (telegram_bits s n) in
      let fs : telegram_bits s n ≡ bits b ++ (bits (mark ∷ []) ++ rest) =
      i.front
      ∙ ap (λ (es : List Entry). bits es ++ rest) q.ends
      ∙ ap (λ (y : List ℕ). y ++ rest) (all_append bits_in b (mark ∷ []))
      ∙ append_assoc (bits b) (bits (mark ∷ [])) rest in
      let low : bit_count b ≤ n = omega (arith, q.start) in
      found_back id dir l (ap (packets_before s) q.start ∙ whole_before s n i.wide q.whole _ fs low) e

-- ---- a whole packet

-- nothing is left to send, or something is
ended_or_going : (t : Items) → (t ≡ end) ⊎ T (going t)
ended_or_going end = inl refl
ended_or_going nest = inr tt
ended_or_going (send f r) = inr tt
ended_or_going (send_if k f r) = inr tt
ended_or_going (send_either k a b) = inr tt
ended_or_going (send_times k a r) = inr tt

-- from nothing no field is passed
passed_none : {s : List ℕ} {t w : Items} {x m y : ℕ} → Passed s t x m w y → t ≡ end → (m ≡ 0) × (x ≡ y)
passed_none stay e = (refl, refl)
passed_none {t = t} (pass g k j p) e = going_on t g e

-- its head keeps every rule and collides with none before it; with its L_PACKET
pub record Heading (s : List ℕ) (x : ℕ) (r : Items) (id dir long : ℕ) : Type 0 where
  pub named : id ≡ value_of (field_bits s 8 x)
  pub directed : dir ≡ value_of (field_bits s 2 (x + 8))
  pub sized : long ≡ value_of (field_bits s 13 (x + 10))
  pub found : find id etcs ≡ some (send Q_DIR (send L_PACKET r))
  pub allowed : dir ≤ 2
  pub alone : false ≡ collides_among clash id dir (packets_before s x)

module _ {s : List ℕ} {n : ℕ} {x pig : ℕ} {l : List Earlier} {count : ℕ} (i : Stood s n (between x pig l) count)
    {r : Items} {id dir long : ℕ} (h : Heading s x r id dir long) (room : x + 23 ≤ n) where
  abbrev after : List Earlier
  after = record { id = id; dir = dir } ∷ l

  abbrev inside : Context
  inside = context in_packet x id dir long 0 0 pig after

  stood_name : Stood s n (standing (x + 8) (send Q_DIR (send L_PACKET r)) (context in_packet x id 0 0 0 0 pig l)) (count + 1)
  stood_name =
      stood_on i (omega arith) (rw (← h.named) (step_name x pig l id (send Q_DIR (send L_PACKET r)) h.found tt))

  stood_way : Stood s n (standing (x + 8 + 2) (send L_PACKET r) (context in_packet x id dir 0 0 0 pig after)) (count + 1 + 1)
  stood_way =
      stood_on stood_name (omega arith)
      (rw (← h.directed) (step_way (x + 8) x pig l id dir (send L_PACKET r) h.allowed (stood_alone stood_name i.within dir h.alone) tt))

  ten : x + 8 + 2 ≡ x + 10
  ten = omega arith

  behind : x + 10 + 13 ≡ x + 23
  behind = omega arith

  before_size : Stood s n (standing (x + 10) (send L_PACKET r) (context in_packet x id dir 0 0 0 pig after)) (count + 1 + 1)
  before_size = rw ten at stood_way

  step_long : step paper (standing (x + 10) (send L_PACKET r) (context in_packet x id dir 0 0 0 pig after)) (value_of (field_bits s 13 (x + 10)))
      ≡ settled (x + 10 + 13) r inside
  step_long = rw (← h.sized) (step_size (x + 10) x pig after id dir long r)

  -- behind the head, where a field follows it
  pub stood_headed : T (going r) → Stood s n (standing (x + 23) r inside) (count + 3)
  stood_headed g =
      let three : count + 1 + 1 + 1 ≡ count + 3 = omega arith in
      rw (← three, ← behind) (stood_on before_size (omega arith) (step_long ∙ settled_going (x + 10 + 13) r inside g))

  closes_here : (y : ℕ) → y ≡ x + long → closes y inside in_packet ≡ true
  unfolding closes
  closes_here y e = eq-eqb (y - x) long (omega arith)

  -- behind the packet
  pub passed_packet : {m : ℕ} → Passed s r (x + 23) m end (x + long) → x + long ≤ n → Stood s n (between (x + long) pig after) (count + 3 + m)
  passed_packet {m} p f = ⊎_elim ends more (ended_or_going r)
    where
      more : T (going r) → Stood s n (between (x + long) pig after) (count + 3 + m)
      more g = stood_closed inside p g (stood_headed g) f (closes_here (x + long) refl)

      -- the head is all of it
      ends : r ≡ end → Stood s n (between (x + long) pig after) (count + 3 + m)
      ends e =
          let z = passed_none p e in
          let y : x + 10 + 13 ≡ x + long = omega (arith, z.1) in
          let three : count + 1 + 1 + 1 ≡ count + 3 + m = omega (arith, z.0) in
          rw (← three, ← y)
          (stood_on before_size (omega arith)
          (step_long ∙ ap (λ (t : Items). settled (x + 10 + 13) t inside) e ∙ settled_closing (x + 10 + 13) inside (closes_here (x + 10 + 13) y)))

-- ---- an ETCS-44, and the CTCS packet inside it

step_user : (x : ℕ) (c : Context) (user : ℕ) (t : Items) → find user ctcs ≡ some t → T (going t)
    → step paper (standing x nest c) user ≡ go t (context in_user c.start c.id c.dir c.long x 0 c.pig c.earlier)
unfolding step broken next onward noted
step_user x c user t e g =
    rw e (settled_going (x + 9) t (context in_user c.start c.id c.dir c.long x 0 c.pig c.earlier) g)

module _ (x start id dir long from pig : ℕ) (l : List Earlier) where
  step_alike : (t : Items) → dir ≤ 2 → T (going t)
      → step paper (standing x (send Q_DIR t) (context in_user start id dir long from 0 pig l)) dir
      ≡ go t (context in_user start id dir long from 0 pig l)
  unfolding step broken misdirected next onward noted
  step_alike t h g = rw (le-leb dir 2 h, eq-eqb dir dir refl) (settled_going (x + 2) t (context in_user start id dir long from 0 pig l) g)

  step_inner : (inner : ℕ) (t : Items) → T (going t)
      → step paper (standing x (send L_PACKET t) (context in_user start id dir long from 0 pig l)) inner
      ≡ go t (context in_user start id dir long from inner pig l)
  unfolding step broken next onward noted
  step_inner inner t g = settled_going (x + 13) t (context in_user start id dir long from inner pig l) g

-- the head of the CTCS packet, whose NID_XUSER stands at the bit y: it keeps every rule, and its Q_DIR is that of the packet around it
pub record Carried (s : List ℕ) (y dir inner : ℕ) (r : Items) : Type 0 where
  pub user : ℕ
  pub named : user ≡ value_of (field_bits s 9 y)
  pub found : find user ctcs ≡ some (send Q_DIR (send L_PACKET r))
  pub alike : dir ≡ value_of (field_bits s 2 (y + 9))
  pub sized : inner ≡ value_of (field_bits s 13 (y + 11))
  pub more : T (going r)

-- what stands behind the head of a packet of so many bits, with so many fields: its own, or a CTCS packet
pub data Filled (s : List ℕ) (x long dir : ℕ) : Items → ℕ → Type 0 where
  own : {r : Items} {m : ℕ} → Passed s r (x + 23) m end (x + long) → Filled s x long dir r m
  carries : {r : Items} {m inner : ℕ} → Carried s (x + 23) dir inner r → long ≡ inner + 23 → Passed s r (x + 47) m end (x + long)
      → Filled s x long dir nest (3 + m)

pub filled_long : {s : List ℕ} {x long dir : ℕ} {t : Items} {m : ℕ} → Filled s x long dir t m → 23 ≤ long
filled_long (own p) = let h = passed_grows p in omega arith
filled_long (carries c e p) = omega arith

module _ {s : List ℕ} {n : ℕ} {x pig : ℕ} {l : List Earlier} {count : ℕ} (i : Stood s n (between x pig l) count)
    {t : Items} {id dir long : ℕ} (h : Heading s x t id dir long) (fits : x + long ≤ n) where
  abbrev met : List Earlier
  met = record { id = id; dir = dir } ∷ l

  module _ {r : Items} {m inner : ℕ} (nests : t ≡ nest) (c : Carried s (x + 23) dir inner r)
      (e : long ≡ inner + 23) (p : Passed s r (x + 47) m end (x + long)) where
    abbrev around : Context
    around = context in_packet x id dir long 0 0 pig met

    abbrev within_it : ℕ → Context
    within_it k = context in_user x id dir long (x + 23) k pig met

    at_user : Stood s n (standing (x + 23) nest around) (count + 3)
    at_user = rw nests at (stood_headed i h (omega arith) (rw nests tt))

    at_way : Stood s n (standing (x + 23 + 9) (send Q_DIR (send L_PACKET r)) (within_it 0)) (count + 3 + 1)
    at_way =
        let y = passed_grows p in
        stood_on at_user (omega arith) (rw (← c.named) (step_user (x + 23) around c.user (send Q_DIR (send L_PACKET r)) c.found tt))

    at_size : Stood s n (standing (x + 23 + 9 + 2) (send L_PACKET r) (within_it 0)) (count + 3 + 1 + 1)
    at_size =
        let y = passed_grows p in
        stood_on at_way (omega arith) (rw (← c.alike) (step_alike (x + 23 + 9) x id dir long (x + 23) pig met (send L_PACKET r) h.allowed tt))

    eleven : x + 23 + 9 + 2 ≡ x + 23 + 11
    eleven = omega arith

    at_body : Stood s n (standing (x + 23 + 11 + 13) r (within_it inner)) (count + 3 + 1 + 1 + 1)
    at_body =
        let y = passed_grows p in
        let j : Stood s n (standing (x + 23 + 11) (send L_PACKET r) (within_it 0)) (count + 3 + 1 + 1) = rw eleven at at_size in
        stood_on j (omega arith) (rw (← c.sized) (step_inner (x + 23 + 11) x id dir long (x + 23) pig met inner r c.more))

    closes_both : closes (x + long) (within_it inner) in_user ≡ true
    unfolding closes
    closes_both = rw (eq-eqb (x + long - (x + 23)) inner (omega arith), eq-eqb (x + long - x) long (omega arith))

    carried_packet : Stood s n (between (x + long) pig met) (count + 3 + (3 + m))
    carried_packet =
        let there : x + 23 + 11 + 13 ≡ x + 47 = omega arith in
        let all : count + 3 + 1 + 1 + 1 + m ≡ count + 3 + (3 + m) = omega arith in
        rw (← all) (stood_closed (within_it inner) (passed_from p (sym there)) c.more at_body fits closes_both)

  by_body : {u : Items} {m : ℕ} → u ≡ t → Filled s x long dir u m → Stood s n (between (x + long) pig met) (count + 3 + m)
  by_body e (own p) = let y = passed_grows p in passed_packet i h (omega arith) (rw e at p) fits
  by_body e (carries c f p) = carried_packet (sym e) c f p

  pub filled_packet : {m : ℕ} → Filled s x long dir t m → Stood s n (between (x + long) pig met) (count + 3 + m)
  filled_packet b = by_body refl b
