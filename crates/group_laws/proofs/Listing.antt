-- What an accepted telegram lists are its packets, each of them and nothing else, numbered from 0 in order of sending, each with the bit where its
-- Q_DIR begins. Assumes nothing.
use mathlib.Core.Bool.{Bool, true, false}
use mathlib.Core.List.{List, [], ◌∷◌, ◌++◌, append_assoc, append-nil}
use mathlib.Core.Path.{◌≡◌, refl, sym, ap, ap₂, ◌∙◌, subst}
use Prim.Native.Nat.{ℕ, suc, ◌+◌}
use native.Mathlib.Omega.{arith}
use lib.ListN.{length, length-append}
use Rattle.format.specs.Among.{holding, PacketIn}
use Rattle.format.specs.Fields.{NID_PACKET, Q_DIR, L_PACKET}
use Rattle.format.specs.Rules.{Terms}
use Rattle.format.specs.Telegrams.{Entry, Divided, begins, before, divided, bit_count, Telegram}
use Rattle.laws.proofs.Tile.{end_mark, bit_counts, bit_counts_append, bit_count_divided, joined, divided_joined, tiled}
use Rattle.group.specs.Groups.{Member, held, packets_from, packets_of}
use Rattle.group_laws.proofs.Packeting.{joined_append}
use Rattle.group_laws.proofs.Heads.{IsHeaded, AllHeaded, AllPackets, divided_front}
use Rattle.group_laws.proofs.FoundInBits.{telegram_standing}

-- ---- standing in a list

pub record In {A : Type 0} (a : A) (l : List A) : Type 0 where
  pub before : List A
  pub after : List A
  pub is : l ≡ before ++ a ∷ after

abbrev mark : List (List Entry)
mark = (end_mark ∷ []) ∷ []

-- ---- the packets of a telegram, each behind those before it

-- behind these packets of its telegram
abbrev pub member_at : ℕ → List (List Entry) → List Entry → Member
member_at pig xs p = record { pig = pig; number = length xs; id = held NID_PACKET p; dir = held Q_DIR p; at = 50 + bit_counts xs + 8 }

abbrev pub members_from : ℕ → List (List Entry) → List (List Entry) → List Member
members_from pig xs [] = []
members_from pig xs (p ∷ ps) = member_at pig xs p ∷ members_from pig (xs ++ (p ∷ [])) ps

from_members : (k : ℕ) (xs ps : List (List Entry)) → AllPackets ps → packets_from k (length xs) (50 + bit_counts xs) (ps ++ mark) ≡ members_from k xs ps
unfolding packets_from
from_members k xs [] h = refl
from_members k xs (p ∷ ps) h =
    let n : suc (length xs) ≡ length (xs ++ (p ∷ [])) = sym (length-append xs (p ∷ []) ∙ omega arith) in
    let b : 50 + bit_counts xs + bit_count p ≡ 50 + bit_counts (xs ++ (p ∷ [])) = let i = bit_counts_append xs (p ∷ []) in omega arith in
    rw h.0 (ap (λ (l : List Member). member_at k xs p ∷ l)
    (ap₂ (λ (j a : ℕ). packets_from k j a (ps ++ mark)) n b ∙ from_members k (xs ++ (p ∷ [])) ps h.1))

-- a list that ends in one is no other before it
front_same : (xs ys : List (List Entry)) (z : List Entry) → xs ++ (z ∷ []) ≡ ys ++ (z ∷ []) → xs ≡ ys
front_same [] [] z h = refl
front_same [] (y ∷ []) z h = let k = ap length h in absurd (omega arith)
front_same [] (y ∷ w ∷ ys) z h = let k = ap length h in absurd (omega arith)
front_same (x ∷ []) [] z h = let k = ap length h in absurd (omega arith)
front_same (x ∷ w ∷ xs) [] z h = let k = ap length h in absurd (omega arith)
front_same (x ∷ xs) (y ∷ ys) z h =
    let i : x ≡ y = cc in
    let j : xs ++ (z ∷ []) ≡ ys ++ (z ∷ []) = cc in
    ap₂ ◌∷◌ i (front_same xs ys z j)

module _ {p : Terms} {t : List Entry} (telegram : Telegram p t) (k : ℕ) (ps : List (List Entry)) (parts : (divided t).packets ≡ ps ++ mark) where
  sent_is : (divided (telegram_standing telegram).sent).packets ≡ ps
  sent_is = front_same (divided (telegram_standing telegram).sent).packets ps (end_mark ∷ []) (sym (telegram_standing telegram).parts ∙ parts)

  pub all_packets : AllPackets ps
  all_packets = subst AllPackets sent_is (telegram_standing telegram).divides.packets

  pub all_headed : AllHeaded ps
  all_headed = subst AllHeaded sent_is (telegram_standing telegram).divides.headed

  -- "each packet's N_PIG and its number in its telegram from 0": all but the end mark
  pub packets_listed : packets_of (record { pig = k; telegram = t }) ≡ members_from k [] ps
  packets_listed =
      ap₂ (λ (a : ℕ) (l : List (List Entry)). packets_from k 0 a l) (tiled p telegram).header parts ∙ from_members k [] ps all_packets

-- ---- the j-th of them

members_append : (k : ℕ) (ws xs ys : List (List Entry)) → members_from k ws (xs ++ ys) ≡ members_from k ws xs ++ members_from k (ws ++ xs) ys
members_append k ws [] ys = ap (λ (l : List (List Entry)). members_from k l ys) (sym (append-nil ws))
members_append k ws (x ∷ xs) ys =
    ap (λ (l : List Member). member_at k ws x ∷ l)
    (members_append k (ws ++ (x ∷ [])) xs ys ∙ ap (λ (l : List (List Entry)). members_from k (ws ++ (x ∷ [])) xs ++ members_from k l ys) (append_assoc ws (x ∷ []) xs))

pub members_count : (k : ℕ) (ws xs : List (List Entry)) → length (members_from k ws xs) ≡ length xs
members_count k ws [] = refl
members_count k ws (x ∷ xs) = ap suc (members_count k (ws ++ (x ∷ [])) xs)

pub packet_listed : {p : Terms} {t : List Entry} → Telegram p t → (k : ℕ) (xs : List (List Entry)) (q : List Entry) (ys : List (List Entry))
    → (divided t).packets ≡ (xs ++ q ∷ ys) ++ ((end_mark ∷ []) ∷ [])
    → packets_of (record { pig = k; telegram = t }) ≡ members_from k [] xs ++ member_at k xs q ∷ members_from k (xs ++ (q ∷ [])) ys
packet_listed t k xs q ys e = packets_listed t k (xs ++ q ∷ ys) e ∙ members_append k [] xs (q ∷ ys)

-- ---- so each packet that stands in the telegram is listed

-- a packet among a telegram's entries, as it is listed: its number is that of the packets before it, and its Q_DIR begins behind its NID_PACKET
abbrev pub member_of : {t : List Entry} {id dir : ℕ} → ℕ → PacketIn t id dir → Member
member_of {t} {id} {dir} pig h = record { pig = pig; number = length (divided h.before).packets; id = id; dir = dir; at = bit_count h.before + 8 }

-- what does not end a list stands before its end
record Inside (ps xs : List (List Entry)) (q : List Entry) : Type 0 where
  after : List (List Entry)
  is : ps ≡ xs ++ q ∷ after

inside : (ps xs : List (List Entry)) (q : List Entry) (zs : List (List Entry)) (z : List Entry) → xs ++ q ∷ zs ≡ ps ++ (z ∷ []) → (q ≡ z → ⊥) → Inside ps xs q
inside [] [] q zs z h n = absurd (n (cc))
inside (p ∷ ps) [] q zs z h n = record { after = ps; is = ap (λ (x : List Entry). x ∷ ps) (cc) }
inside [] (x ∷ xs) q zs z h n =
    let i = ap length h in
    let j = length-append xs (q ∷ zs) in
    absurd (omega arith)
inside (p ∷ ps) (x ∷ xs) q zs z h n =
    let i : x ≡ p = cc in
    let j : xs ++ q ∷ zs ≡ ps ++ (z ∷ []) = cc in
    let r = inside ps xs q zs z j n in
    record { after = r.after; is = ap₂ ◌∷◌ (sym i) r.is }

abbrev behind : ℕ → ℕ → List Entry → List Entry
behind id dir a = holding NID_PACKET id ∷ holding Q_DIR dir ∷ a

divided_behind : (id dir : ℕ) (a : List Entry) → divided (behind id dir a) ≡ record { header = []; packets = behind id dir (divided a).header ∷ (divided a).packets }
unfolding divided
divided_behind id dir a = refl

not_mark : (id dir : ℕ) (a : List Entry) → behind id dir a ≡ end_mark ∷ [] → ⊥
not_mark id dir a h = let k = ap length h in omega arith

module _ {p : Terms} {t : List Entry} (telegram : Telegram p t) (k : ℕ) where
  pub every_listed : {id dir : ℕ} (h : PacketIn t id dir) → In (member_of k h) (packets_of (record { pig = k; telegram = t }))
  every_listed {id} {dir} h =
      let b = h.before in
      let d = divided_behind id dir h.after in
      let w : divided t ≡ record { header = (divided b).header; packets = (divided b).packets ++ (divided (behind id dir h.after)).packets } =
      ap divided h.parts ∙ divided_front b (behind id dir h.after) (ap (λ (x : Divided). x.header) d) in
      let xs = (divided b).packets in
      let q = behind id dir (divided h.after).header in
      let zs = (divided h.after).packets in
      let s = telegram_standing telegram in
      let ps = (divided s.sent).packets in
      let split : (divided t).packets ≡ xs ++ q ∷ zs =
      ap (λ (x : Divided). x.packets) w ∙ ap (λ (x : Divided). xs ++ x.packets) d in
      let i = inside ps xs q zs (end_mark ∷ []) (sym split ∙ s.parts) (not_mark id dir (divided h.after).header) in
      let n : bit_count b ≡ 50 + bit_counts xs =
      bit_count_divided b ∙ ap (λ (x : ℕ). x + bit_counts xs) (ap (λ (x : Divided). bit_count x.header) (sym w) ∙ (tiled p telegram).header) in
      let m : member_at k xs q ≡ member_of k h = ap (λ (x : ℕ). record { pig = k; number = length xs; id = id; dir = dir; at = x + 8 }) (sym n) in
      record {
        before = members_from k [] xs;
        after = members_from k (xs ++ (q ∷ [])) i.after;
        is = packet_listed telegram k xs q i.after (s.parts ∙ ap (λ (l : List (List Entry)). l ++ mark) i.is)
            ∙ ap (λ (x : Member). members_from k [] xs ++ x ∷ members_from k (xs ++ (q ∷ [])) i.after) m;
      }

-- ---- and what is listed is one

-- the place of a member among the packets
record Nth (k : ℕ) (ws ps : List (List Entry)) (m : Member) : Type 0 where
  before : List (List Entry)
  packet : List Entry
  after : List (List Entry)
  parts : ps ≡ before ++ packet ∷ after
  is : m ≡ member_at k (ws ++ before) packet

nth_of : (k : ℕ) (ws ps : List (List Entry)) (m : Member) (x y : List Member) → members_from k ws ps ≡ x ++ m ∷ y → Nth k ws ps m
nth_of k ws [] m [] y h = let z : ◌≡◌ {A = ℕ} 0 1 = cc in absurd (omega arith)
nth_of k ws [] m (v ∷ x) y h = let z : ◌≡◌ {A = ℕ} 0 1 = cc in absurd (omega arith)
nth_of k ws (p ∷ ps) m [] y h =
    let i : member_at k ws p ≡ m = cc in
    record { before = []; packet = p; after = ps; parts = refl; is = sym i ∙ ap (λ (l : List (List Entry)). member_at k l p) (sym (append-nil ws)) }
nth_of k ws (p ∷ ps) m (v ∷ x) y h =
    let r = nth_of k (ws ++ (p ∷ [])) ps m x y (cc) in
    record {
      before = p ∷ r.before;
      packet = r.packet;
      after = r.after;
      parts = ap (λ (l : List (List Entry)). p ∷ l) r.parts;
      is = r.is ∙ ap (λ (l : List (List Entry)). member_at k l r.packet) (append_assoc ws (p ∷ []) r.before);
    }

headed_in : (xs : List (List Entry)) (p : List Entry) (ys : List (List Entry)) → AllHeaded (xs ++ p ∷ ys) → IsHeaded p
headed_in [] p ys h = h.0
headed_in (x ∷ xs) p ys h = headed_in xs p ys h.1

abbrev Before : Bool → Entry → List Entry → Divided
Before b e es = before b e (divided es)

-- what stands before a packet divides as it did
divided_before : (t : List Entry) (xs : List (List Entry)) (q : List Entry) (zs : List (List Entry)) → (divided t).packets ≡ xs ++ q ∷ zs
    → divided ((divided t).header ++ joined xs) ≡ record { header = (divided t).header; packets = xs }
unfolding divided
divided_before [] [] q zs h = let z : ◌≡◌ {A = ℕ} 0 1 = cc in absurd (omega arith)
divided_before [] (x ∷ xs) q zs h = let z : ◌≡◌ {A = ℕ} 0 1 = cc in absurd (omega arith)
divided_before (e ∷ es) [] q zs h = by_test (begins e) refl h (λ i. divided_before es [] q zs i)
  where
    by_test : (b : Bool) → begins e ≡ b → (Before b e es).packets ≡ [] ++ q ∷ zs
        → ((divided es).packets ≡ [] ++ q ∷ zs → divided ((divided es).header ++ []) ≡ record { header = (divided es).header; packets = [] })
        → divided ((Before b e es).header ++ []) ≡ record { header = (Before b e es).header; packets = [] }
    by_test true j i on = refl
    by_test false j i on = rw (j, on i)
divided_before (e ∷ es) (x ∷ xs) q zs h = by_test (begins e) refl h (λ i. divided_before es xs q zs i) (λ i. divided_before es (x ∷ xs) q zs i)
  where
    by_test : (b : Bool) → begins e ≡ b → (Before b e es).packets ≡ (x ∷ xs) ++ q ∷ zs
        → ((divided es).packets ≡ xs ++ q ∷ zs → divided ((divided es).header ++ joined xs) ≡ record { header = (divided es).header; packets = xs })
        → ((divided es).packets ≡ (x ∷ xs) ++ q ∷ zs → divided ((divided es).header ++ joined (x ∷ xs)) ≡ record { header = (divided es).header; packets = x ∷ xs })
        → divided ((Before b e es).header ++ joined (x ∷ xs)) ≡ record { header = (Before b e es).header; packets = x ∷ xs }
    by_test true j i first on =
        let y : e ∷ (divided es).header ≡ x = cc in
        let r = first (cc) in
        rw (← y, j, r)
    by_test false j i first on = rw (j, on i)

module _ {p : Terms} {t : List Entry} (telegram : Telegram p t) (k : ℕ) where
  pub only_listed : (m : Member) → In m (packets_of (record { pig = k; telegram = t })) → (id : ℕ) × ((dir : ℕ) × ((h : PacketIn t id dir) × (m ≡ member_of k h)))
  only_listed m i =
      let s = telegram_standing telegram in
      let ps = (divided s.sent).packets in
      let n = nth_of k [] ps m i.before i.after (sym (packets_listed telegram k ps s.parts) ∙ i.is) in
      let xs = n.before in
      let q = n.packet in
      let ys = n.after in
      let hd = headed_in xs q ys (subst AllHeaded n.parts s.divides.headed) in
      let split : (divided t).packets ≡ xs ++ q ∷ (ys ++ mark) = s.parts ∙ ap (λ (l : List (List Entry)). l ++ mark) n.parts ∙ append_assoc xs (q ∷ ys) mark in
      let b = (divided t).header ++ joined xs in
      let whole : t ≡ b ++ (q ++ joined (ys ++ mark)) =
      sym (divided_joined t) ∙ ap (λ (l : List (List Entry)). (divided t).header ++ joined l) split
      ∙ ap (λ (l : List Entry). (divided t).header ++ l) (joined_append xs (q ∷ (ys ++ mark)))
      ∙ sym (append_assoc (divided t).header (joined xs) (q ++ joined (ys ++ mark))) in
      let here : t ≡ b ++ holding NID_PACKET hd.id ∷ holding Q_DIR hd.dir ∷ (holding L_PACKET hd.long ∷ (hd.body ++ joined (ys ++ mark))) =
      whole ∙ ap (λ (l : List Entry). b ++ (l ++ joined (ys ++ mark))) hd.is in
      let d = divided_before t xs q (ys ++ mark) split in
      let c : bit_count b ≡ 50 + bit_counts xs =
      bit_count_divided b ∙ ap (λ (x : Divided). bit_count x.header + bit_counts x.packets) d ∙ ap (λ (x : ℕ). x + bit_counts xs) (tiled p telegram).header in
      let e : member_at k xs q ≡ record { pig = k; number = length xs; id = hd.id; dir = hd.dir; at = 50 + bit_counts xs + 8 } = ap (member_at k xs) hd.is in
      let f : ◌≡◌ {A = Member} (record { pig = k; number = length xs; id = hd.id; dir = hd.dir; at = 50 + bit_counts xs + 8 })
      (record { pig = k; number = length (divided b).packets; id = hd.id; dir = hd.dir; at = bit_count b + 8 }) =
      ap₂ (λ (l : List (List Entry)) (x : ℕ). record { pig = k; number = length l; id = hd.id; dir = hd.dir; at = x + 8 }) (sym (ap (λ (x : Divided). x.packets) d)) (sym c) in
      (hd.id, (hd.dir, (record { before = b; after = holding L_PACKET hd.long ∷ (hd.body ++ joined (ys ++ mark)); parts = here }, n.is ∙ (e ∙ f))))
