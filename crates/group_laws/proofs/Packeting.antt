-- The packets of an accepted telegram where they stand in its bytes: each by its three numbers, and the end mark behind the last. Assumes nothing.
use Rattle.std.specs.Prelude.{Some, None, Option, ℕ}
use mathlib.Core.List.{List, [], ◌∷◌, ◌++◌, append_assoc, append-nil}
use mathlib.Core.Path.{◌≡◌, refl, sym, ap, ap₂, ◌∙◌, subst}
use Prim.Native.Nat.{ℕ, zero, suc, ◌+◌, ◌-◌, ◌*◌, ◌/◌, ◌%◌, ◌≤◌, ◌<◌, max}
use native.Mathlib.Omega.{arith}
use lib.ListN.{length}
use Rattle.bits.specs.Bits.{value_of}
use Rattle.bits.specs.Take.{field_bits}
use Rattle.bits.proofs.Fields.{field_in_field, field_lt, take_whole, take_past}
use Rattle.format.specs.Among.{holding}
use Rattle.format.specs.Fields.{NID_PACKET, Q_DIR, L_PACKET}
use Rattle.format.specs.Rules.{paper}
use Rattle.format.specs.Telegrams.{Entry, divided, bit_count}
use Rattle.laws.proofs.Demand2.{length_bits}
use Rattle.laws.proofs.Tile.{end_mark, joined, divided_joined, bit_count_append, bit_counts, bit_count_joined, bit_counts_append, tiled}
use Rattle.states.proofs.Accepting.{sent}
use Rattle.laws.proofs.EachWay.{telegram_small}
use Rattle.states.specs.Lookback.{id_in, dir_in, long_in}
use Rattle.sightings.specs.Sightings.{head_of, head_at, on_sight, Glimpse, glimpsed, glimpses}
use Rattle.group.specs.Groups.{Member, packets_from, packets_of}
use Rattle.group.specs.Walks.{Front}
use Rattle.group_laws.proofs.Heads.{IsHeaded, AllHeaded}
use Rattle.group_laws.proofs.FoundInBits.{Standing, telegram_standing}
use Rattle.group_laws.proofs.Held.{front_sound, front_number}

pub joined_append : (xs ys : List (List Entry)) → joined (xs ++ ys) ≡ joined xs ++ joined ys
joined_append [] ys = refl
joined_append (x ∷ xs) ys = ap (λ (l : List Entry). x ++ l) (joined_append xs ys) ∙ sym (append_assoc x (joined xs) (joined ys))

headed_at : (xs : List (List Entry)) (p : List Entry) (ys : List (List Entry)) → AllHeaded (xs ++ p ∷ ys) → IsHeaded p
headed_at [] p ys h = h.0
headed_at (x ∷ xs) p ys h = headed_at xs p ys h.1

-- what stands at a packet's bit
pub record PacketAt (u : List ℕ) (n at : ℕ) (p : List Entry) : Type 0 where
  pub head : IsHeaded p
  pub sight : head_at u (n - 8) at ≡ Some (head.id, head.dir, bit_count p)
  pub small : head.dir ≤ 2
  pub least : 23 ≤ bit_count p
  pub inside : at + bit_count p + 8 ≤ n

-- a head of three numbers in one
head_parts : (a i d l : ℕ) → a < 8388608 → i ≡ a / 32768 % 256 → d ≡ a / 8192 % 4 → l ≡ a / 1 % 8192 → 23 ≤ l
    → ◌≡◌ {A = Option (ℕ × ℕ × ℕ)} (Some (id_in a, dir_in a, max (long_in a) 23)) (Some (i, d, l))
head_parts a i d l h ei ed el least =
    let x : id_in a ≡ i = omega arith in
    let y : dir_in a ≡ d = omega arith in
    let z : max (long_in a) 23 ≡ l = omega arith in
    rw (x, y, z)

module _ {u : List ℕ} {n : ℕ} {es : List Entry} (q : Front paper u n es) where
  abbrev stands : Standing es
  stands = telegram_standing (front_sound q).telegram

  pub packet_at : (xs : List (List Entry)) (p : List Entry) (ys : List (List Entry)) → (divided stands.sent).packets ≡ xs ++ p ∷ ys → PacketAt u n (50 + bit_counts xs) p
  packet_at xs p ys e =
      let d = stands in
      let h = headed_at xs p ys (subst AllHeaded e d.divides.headed) in
      let k = h.packet in
      let b = (divided es).header ++ joined xs in
      let mark : List (List Entry) = (end_mark ∷ []) ∷ [] in
      let after = h.body ++ (joined ys ++ joined mark) in
      let split : (divided es).packets ≡ xs ++ (p ∷ (ys ++ mark)) = d.parts ∙ ap (λ (l : List (List Entry)). l ++ mark) e ∙ append_assoc xs (p ∷ ys) mark in
      let whole : es ≡ b ++ (p ++ (joined ys ++ joined mark)) =
      sym (divided_joined es) ∙ ap (λ (l : List (List Entry)). (divided es).header ++ joined l) split
      ∙ ap (λ (l : List Entry). (divided es).header ++ l) (joined_append xs (p ∷ (ys ++ mark)) ∙ ap (λ (l : List Entry). joined xs ++ (p ++ l)) (joined_append ys mark))
      ∙ sym (append_assoc (divided es).header (joined xs) (p ++ (joined ys ++ joined mark))) in
      let here : es ≡ b ++ (holding NID_PACKET h.id ∷ holding Q_DIR h.dir ∷ holding L_PACKET h.long ∷ after) =
      whole ∙ ap (λ (l : List Entry). b ++ (l ++ (joined ys ++ joined mark))) h.is in
      let start : bit_count b ≡ 50 + bit_counts xs = bit_count_append (divided es).header (joined xs) ∙ ap₂ ◌+◌ (tiled paper (front_sound q).telegram).header (bit_count_joined xs) in
      let all : bit_count es ≡ n = sym (length_bits es) ∙ sent paper _ n es (front_sound q) in
      let long : bit_count p ≡ h.long = ap bit_count h.is ∙ sym k.size in
      let sum : bit_count es ≡ bit_count b + (bit_count p + bit_count (joined ys ++ joined mark)) =
      ap bit_count whole ∙ bit_count_append b (p ++ (joined ys ++ joined mark)) ∙ ap (λ (x : ℕ). bit_count b + x) (bit_count_append p (joined ys ++ joined mark)) in
      let last : bit_count (joined ys ++ joined mark) ≡ bit_count (joined ys) + 8 = bit_count_append (joined ys) (joined mark) in
      let least : 23 ≤ bit_count p = omega (arith, ap bit_count h.is) in
      let one : List Entry = holding NID_PACKET h.id ∷ [] in
      let two : List Entry = holding NID_PACKET h.id ∷ holding Q_DIR h.dir ∷ [] in
      let sec : bit_count (b ++ one) ≡ 50 + bit_counts xs + 8 = bit_count_append b one ∙ rw start in
      let thi : bit_count (b ++ two) ≡ 50 + bit_counts xs + 10 = bit_count_append b two ∙ rw start in
      let at = 50 + bit_counts xs in
      let room : n ≤ 8 * length u = let f = q.few in omega arith in
      let number = value_of (field_bits u 23 at) in
      let name : h.id ≡ number / 32768 % 256 =
      sym (front_number q b NID_PACKET h.id _ here k.began.small (omega arith))
      ∙ ap (λ (x : ℕ). value_of (field_bits u 8 x)) (let z : bit_count b ≡ at + 0 = omega arith in z)
      ∙ field_in_field u at 0 8 15 (omega arith) in
      let way : h.dir ≡ number / 8192 % 4 =
      sym (front_number q (b ++ one) Q_DIR h.dir (holding L_PACKET h.long ∷ after)
      (here ∙ sym (append_assoc b one (holding Q_DIR h.dir ∷ holding L_PACKET h.long ∷ after))) k.small_dir (omega arith))
      ∙ ap (λ (x : ℕ). value_of (field_bits u 2 x)) sec
      ∙ field_in_field u at 8 2 13 (omega arith) in
      let size : h.long ≡ number / 1 % 8192 =
      sym (front_number q (b ++ two) L_PACKET h.long after (here ∙ sym (append_assoc b two (holding L_PACKET h.long ∷ after))) k.small_size (omega arith))
      ∙ ap (λ (x : ℕ). value_of (field_bits u 13 x)) thi
      ∙ field_in_field u at 10 13 0 (omega arith) in
      record {
        head = h;
        sight = ap head_of (take_whole u (n - 8) 23 at (omega arith) (omega arith) (omega arith))
            ∙ head_parts number h.id h.dir h.long (field_lt u 23 at (omega arith)) name way size (omega arith)
            ∙ ap (λ (far : ℕ). Some (h.id, h.dir, far)) (sym long);
        small = telegram_small (front_sound q).telegram (record { before = b; after = holding L_PACKET h.long ∷ after; parts = here });
        least = least;
        inside = omega arith;
      }

  -- behind the last the end mark's 8 bits are left
  pub packets_end : 50 + bit_counts (divided stands.sent).packets + 8 ≡ n
  packets_end =
      let d = stands in
      let all : bit_count es ≡ n = sym (length_bits es) ∙ sent paper _ n es (front_sound q) in
      let mark : List (List Entry) = (end_mark ∷ []) ∷ [] in
      let i : bit_count es ≡ bit_count (divided es).header + bit_count (joined (divided es).packets) = ap bit_count (sym (divided_joined es)) ∙ bit_count_append (divided es).header (joined (divided es).packets) in
      let j : bit_count (joined (divided es).packets) ≡ bit_counts (divided stands.sent).packets + 8 =
      ap (λ (l : List (List Entry)). bit_count (joined l)) d.parts ∙ ap bit_count (joined_append (divided d.sent).packets mark)
      ∙ bit_count_append (joined (divided d.sent).packets) (joined mark) ∙ ap (λ (x : ℕ). x + 8) (bit_count_joined (divided d.sent).packets) in
      let t = (tiled paper (front_sound q).telegram).header in
      omega arith

-- ---- so the packets that are seen one after the other are the telegram's

-- with their balise's N_PIG, and numbers from j on
abbrev pub numbered : ℕ → ℕ → List Glimpse → List Member
numbered k j [] = []
numbered k j (g ∷ gs) = record { pig = k; number = j; id = g.id; dir = g.dir; at = g.at } ∷ numbered k (suc j) gs

pub from_head : (p : List Entry) (h : IsHeaded p) (k j at : ℕ) (rest : List (List Entry))
    → packets_from k j at (p ∷ rest) ≡ record { pig = k; number = j; id = h.id; dir = h.dir; at = at + 8 } ∷ packets_from k (suc j) (at + bit_count p) rest
unfolding packets_from
from_head p h k j at rest = rw h.is

module _ {u : List ℕ} {n : ℕ} {es : List Entry} (q : Front paper u n es) (k : ℕ) where
  abbrev all : List (List Entry)
  all = (divided (stands q).sent).packets

  abbrev mark : List (List Entry)
  mark = (end_mark ∷ []) ∷ []

  last_seen : (fuel at : ℕ) → at + 8 ≡ n → glimpsed fuel u (n - 8) at ≡ []
  unfolding glimpsed
  last_seen zero at h = refl
  last_seen (suc fuel) at h =
      let e : head_at u (n - 8) at ≡ None = ap head_of (take_past u (n - 8) 23 at (omega arith) (omega arith)) in
      rw e

  seen_from : (fuel j : ℕ) (xs ys : List (List Entry)) → all ≡ xs ++ ys → bit_counts ys ≤ fuel
      → numbered k j (glimpsed fuel u (n - 8) (50 + bit_counts xs)) ≡ packets_from k j (50 + bit_counts xs) (ys ++ mark)
  unfolding glimpsed packets_from
  seen_from fuel j xs [] e h =
      let i : all ≡ xs = e ∙ append-nil xs in
      let o = packets_end q in
      let p : 50 + bit_counts xs + 8 ≡ n = ap (λ (l : List (List Entry)). 50 + bit_counts l + 8) (sym i) ∙ o in
      ap (numbered k j) (last_seen fuel (50 + bit_counts xs) p)
  seen_from zero j xs (p ∷ ys) e h = let a = (packet_at q xs p ys e).least in absurd (omega arith)
  seen_from (suc fuel) j xs (p ∷ ys) e h =
      let a = packet_at q xs p ys e in
      let at = 50 + bit_counts xs in
      let m : List Glimpse = record { id = a.head.id; dir = a.head.dir; at = at + 8 } ∷ glimpsed fuel u (n - 8) (at + bit_count p) in
      let sum : bit_counts (xs ++ (p ∷ [])) ≡ bit_counts xs + bit_count p = bit_counts_append xs (p ∷ []) ∙ omega arith in
      let least = a.least in
      let next : at + bit_count p ≡ 50 + bit_counts (xs ++ (p ∷ [])) = omega arith in
      let rest = seen_from fuel (suc j) (xs ++ (p ∷ [])) ys (e ∙ sym (append_assoc xs (p ∷ []) ys)) (omega arith) in
      ap (λ (x : Option (ℕ × ℕ × ℕ)). numbered k j (on_sight x (λ i d l. record { id = i; dir = d; at = at + 8 } ∷ glimpsed fuel u (n - 8) (at + l)))) a.sight
      ∙ ap (λ (l : List Member). record { pig = k; number = j; id = a.head.id; dir = a.head.dir; at = at + 8 } ∷ l)
      (ap (λ (x : ℕ). numbered k (suc j) (glimpsed fuel u (n - 8) x)) next ∙ rest ∙ ap (λ (x : ℕ). packets_from k (suc j) x (ys ++ mark)) (sym next))
      ∙ sym (from_head p a.head k j at (ys ++ mark))

  -- in order of sending, with their numbers from 0
  pub seen_packets : numbered k 0 (glimpses u n) ≡ packets_of (record { pig = k; telegram = es })
  seen_packets =
      let h = (tiled paper (front_sound q).telegram).header in
      let o = packets_end q in
      seen_from (n - 8) 0 [] all refl (omega arith)
      ∙ ap₂ (λ (x : ℕ) (l : List (List Entry)). packets_from k 0 x l) (sym h) (sym (stands q).parts)

-- ---- and have a NID_PACKET of eight bits, and a direction

abbrev pub AllSmall : List Glimpse → Type 0
AllSmall [] = Unit
AllSmall (g ∷ gs) = ((g.id < 256) × (g.dir ≤ 2)) × AllSmall gs

module _ {u : List ℕ} {n : ℕ} {es : List Entry} (q : Front paper u n es) where
  small_from : (fuel : ℕ) (xs ys : List (List Entry)) → (divided (stands q).sent).packets ≡ xs ++ ys → AllSmall (glimpsed fuel u (n - 8) (50 + bit_counts xs))
  unfolding glimpsed
  small_from zero xs ys e = tt
  small_from (suc fuel) xs [] e =
      let p : 50 + bit_counts xs + 8 ≡ n = ap (λ (l : List (List Entry)). 50 + bit_counts l + 8) (sym (e ∙ append-nil xs)) ∙ packets_end q in
      subst AllSmall (sym (last_seen q 0 (suc fuel) (50 + bit_counts xs) p)) tt
  small_from (suc fuel) xs (p ∷ ys) e =
      let a = packet_at q xs p ys e in
      let next : 50 + bit_counts (xs ++ (p ∷ [])) ≡ 50 + bit_counts xs + bit_count p = let s = bit_counts_append xs (p ∷ []) in omega arith in
      let rest = small_from fuel (xs ++ (p ∷ [])) ys (e ∙ sym (append_assoc xs (p ∷ []) ys)) in
      rw a.sight ((a.head.packet.began.small, a.small), (rw next at rest))

  pub seen_small : AllSmall (glimpses u n)
  seen_small = small_from (n - 8) [] (divided (stands q).sent).packets refl
