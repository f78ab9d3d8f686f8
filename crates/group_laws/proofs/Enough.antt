-- "1 for room under 264 packets": a telegram has at most 33 packets and a group at most 264, each with an N_PIG below 8 and a number below 33. Assumes nothing.
use mathlib.Core.Bool.{Bool, true, false, cond, ◌&&◌}
use mathlib.Core.List.{List, [], ◌∷◌, ◌++◌, map}
use mathlib.Core.Option.{Option, some, none}
use mathlib.Core.Path.{◌≡◌, refl, sym, ap, ◌∙◌, subst}
use Prim.Native.Nat.{ℕ, zero, suc, ◌+◌, ◌*◌, ◌≤◌, ◌<◌}
use native.Mathlib.Omega.{arith}
use borrow.Author.Tests.{leb-true}
use lib.Dec.{eqb, leb}
use lib.ListN.{length, length-append}
use Rattle.bits.specs.Bits.{Below}
use Rattle.format.specs.Fields.{N_PIG, N_TOTAL, NID_PACKET, Q_DIR}
use Rattle.format.specs.Rules.{Terms, paper}
use Rattle.format.specs.Telegrams.{Entry, divided, bit_count, Telegram}
use Rattle.laws.proofs.Demand2.{length_bits, room}
use Rattle.laws.proofs.Tile.{end_mark, bit_counts, bit_count_divided, tiled}
use Rattle.states.proofs.Answers.{check_judges}
use Rattle.group.specs.Groups.{Part, Balise, Member, arrived, parts, held, every, pairwise, agree, standing, once, grouped, in_order, linked, counting, is_packet, packets_from, packets_of, listed, group}
use Rattle.group.specs.Groups.Arrived.{all}
use Rattle.group.specs.Groups.Message.{lists}
use Rattle.group.specs.Walks.{Front, Lineup, telegrams_of, packets_of_all}
use Rattle.group_laws.proofs.Arrival.{first_of, once_at, grouped_once}
use Rattle.group_laws.proofs.Heads.{IsHeaded, AllHeaded, AllPackets}
use Rattle.group_laws.proofs.FoundInBits.{telegram_standing}
use Rattle.group_laws.proofs.Held.{front_sound}
use Rattle.group_laws.proofs.Passing.{group_passes}

abbrev Telegrams : Type 0
Telegrams = List (List Entry)

abbrev mark : List (List Entry)
mark = (end_mark ∷ []) ∷ []

-- ---- the packets of one telegram

-- "in packets of at least 23": NID_PACKET, Q_DIR and L_PACKET
pub packet_least : {p : List Entry} → IsHeaded p → 23 ≤ bit_count p
packet_least h = omega (arith, ap bit_count h.is)

packets_bits : (ps : List (List Entry)) → AllHeaded ps → 23 * length ps + 8 ≤ bit_counts (ps ++ mark)
packets_bits [] h = omega arith
packets_bits (p ∷ ps) h = let l = packet_least h.0 in let i = packets_bits ps h.1 in omega arith

-- the end mark is none of them, and each other is one
packets_count : (k j at : ℕ) (ps : List (List Entry)) → AllPackets ps → length (packets_from k j at (ps ++ mark)) ≡ length ps
unfolding packets_from
packets_count k j at [] h = refl
packets_count k j at (p ∷ ps) h = rw h.0 (ap suc (packets_count k (suc j) (at + bit_count p) ps h.1))

-- "of at most 772 bits behind their headers"
pub telegram_most : {p : Terms} {es : List Entry} → Telegram p es → (k : ℕ) → length (packets_of (record { pig = k; telegram = es })) ≤ 33
telegram_most {p} {es} t k =
    let d = telegram_standing t in
    let ps = (divided d.sent).packets in
    let at = bit_count (divided es).header in
    let c : length (packets_from k 0 at (divided es).packets) ≡ length ps =
    ap (λ (l : List (List Entry)). length (packets_from k 0 at l)) d.parts ∙ packets_count k 0 at ps d.divides.packets in
    let b : 23 * length ps + 8 ≤ bit_counts (divided es).packets = rw d.parts (packets_bits ps d.divides.headed) in
    let h = (tiled p t).header in
    let n = bit_count_divided es in
    let m = room p t in
    let l = length_bits es in
    omega arith

pub front_most : {u : List ℕ} {n : ℕ} {es : List Entry} → Front paper u n es → (k : ℕ) → length (packets_of (record { pig = k; telegram = es })) ≤ 33
front_most q k = telegram_most (front_sound q).telegram k

-- ---- their numbers

-- each packet's N_PIG and its number in its telegram are below these
abbrev pub Within : ℕ → ℕ → List Member → Type 0
Within pigs numbers [] = Unit
Within pigs numbers (m ∷ ms) = (m.pig < pigs) × ((m.number < numbers) × Within pigs numbers ms)

within_append : (a b : ℕ) (xs ys : List Member) → Within a b xs → Within a b ys → Within a b (xs ++ ys)
within_append a b [] ys h k = k
within_append a b (x ∷ xs) ys h k = (h.0, (h.1.0, within_append a b xs ys h.1.1 k))

pub within_at : (a b : ℕ) (ms : List Member) → Within a b ms → (x : List Member) (m : Member) (y : List Member) → ms ≡ x ++ m ∷ y → (m.pig < a) × (m.number < b)
within_at a b [] h [] m y e = let z : ◌≡◌ {A = ℕ} 0 1 = cc in absurd (omega arith)
within_at a b [] h (w ∷ x) m y e = let z : ◌≡◌ {A = ℕ} 0 1 = cc in absurd (omega arith)
within_at a b (v ∷ ms) h [] m y e = let i : v ≡ m = cc in subst (λ (w : Member). (w.pig < a) × (w.number < b)) i (h.0, h.1.0)
within_at a b (v ∷ ms) h (w ∷ x) m y e = within_at a b ms h.1.1 x m y (cc)

-- so a byte holds each
pub within_bytes : (ms : List Member) → Within 8 33 ms → Below 256 (map (λ m. m.pig) ms) × Below 256 (map (λ m. m.number) ms)
within_bytes [] h = (tt, tt)
within_bytes (m ∷ ms) h =
    let r = within_bytes ms h.1.1 in
    let a = h.0 in
    let b = h.1.0 in
    ((omega arith, r.0), (omega arith, r.1))

from_within : (a b k j at : ℕ) (ps : List (List Entry)) → k < a → j + length (packets_from k j at ps) ≤ b → Within a b (packets_from k j at ps)
unfolding packets_from
from_within a b k j at [] h n = tt
from_within a b k j at (p ∷ ps) h n = by_test (is_packet p) n (λ i. from_within a b k (suc j) (at + bit_count p) ps h i) (λ i. from_within a b k j at ps h i)
  where
    first : Member
    first = record { pig = k; number = j; id = held NID_PACKET p; dir = held Q_DIR p; at = at + NID_PACKET.width }

    by_test : (c : Bool) → j + length (cond c (first ∷ packets_from k (suc j) (at + bit_count p) ps) (packets_from k j at ps)) ≤ b
        → (suc j + length (packets_from k (suc j) (at + bit_count p) ps) ≤ b → Within a b (packets_from k (suc j) (at + bit_count p) ps))
        → (j + length (packets_from k j at ps) ≤ b → Within a b (packets_from k j at ps))
        → Within a b (cond c (first ∷ packets_from k (suc j) (at + bit_count p) ps) (packets_from k j at ps))
    by_test true i one other = (h, (omega arith, one (omega arith)))
    by_test false i one other = other i

-- ---- the telegrams of a group

-- each is one
abbrev pub AllTelegrams : Terms → Telegrams → Type 0
AllTelegrams p [] = Unit
AllTelegrams p (t ∷ ts) = Telegram p t × AllTelegrams p ts

module _ (p : Terms) where
  -- whatever counts of them
  pub counted_most : (k : ℕ) (u : Option (List Entry)) (ts : Telegrams) → AllTelegrams p ts → length (listed (counting k u ts)) ≤ 33 * length ts
  unfolding counting
  counted_most k u [] h = omega arith
  counted_most k u (t ∷ ts) h = by_test (linked u t) (counted_most (suc k) (some t) ts h.1)
    where
      here : Balise
      here = record { pig = k; telegram = t }

      by_test : (c : Bool) → length (listed (counting (suc k) (some t) ts)) ≤ 33 * length ts
          → length (listed (cond c (counting (suc k) (some t) ts) (here ∷ counting (suc k) (some t) ts))) ≤ 33 * suc (length ts)
      by_test true i = omega arith
      by_test false i =
          let m = telegram_most h.0 k in
          let l = length-append (packets_of here) (listed (counting (suc k) (some t) ts)) in
          omega arith

  pub counted_within : (a k : ℕ) (u : Option (List Entry)) (ts : Telegrams) → AllTelegrams p ts → k + length ts ≤ a → Within a 33 (listed (counting k u ts))
  unfolding counting
  counted_within a k u [] h n = tt
  counted_within a k u (t ∷ ts) h n = by_test (linked u t) (counted_within a (suc k) (some t) ts h.1 (omega arith))
    where
      here : Balise
      here = record { pig = k; telegram = t }

      by_test : (c : Bool) → Within a 33 (listed (counting (suc k) (some t) ts))
          → Within a 33 (listed (cond c (counting (suc k) (some t) ts) (here ∷ counting (suc k) (some t) ts)))
      by_test true i = i
      by_test false i =
          let m = telegram_most h.0 k in
          within_append a 33 (packets_of here) (listed (counting (suc k) (some t) ts))
          (from_within a 33 k 0 (bit_count (divided t).header) (divided t).packets (omega arith) (omega arith)) i

  -- those that arrive, and those by their N_PIG
  pub arrived_telegrams : (i : ℕ) (xs : List Part) (ts : Telegrams) → arrived p i xs ≡ all ts → AllTelegrams p ts
  unfolding arrived
  arrived_telegrams i [] ts h = let e : [] ≡ ts = cc in subst (AllTelegrams p) e tt
  arrived_telegrams i (x ∷ xs) ts h =
      let f = first_of p i x xs ts h in
      subst (AllTelegrams p) (sym f.is) ((((check_judges p x.bytes x.size).accepts f.head).0 f.reads).telegram, arrived_telegrams (suc i) xs f.rest f.others)

  both : (xs ys : Telegrams) → AllTelegrams p xs → AllTelegrams p ys → AllTelegrams p (xs ++ ys)
  both [] ys h k = k
  both (x ∷ xs) ys h k = (h.0, both xs ys h.1 k)

  standing_telegrams : (k : ℕ) (ts : Telegrams) → AllTelegrams p ts → AllTelegrams p (standing k ts)
  standing_telegrams k [] h = tt
  standing_telegrams k (t ∷ ts) h = by_test (eqb (held N_PIG t) k) (standing_telegrams k ts h.1)
    where
      by_test : (c : Bool) → AllTelegrams p (standing k ts) → AllTelegrams p (cond c (t ∷ standing k ts) (standing k ts))
      by_test true i = (h.0, i)
      by_test false i = i

  pub ordered_telegrams : (k m : ℕ) (ts : Telegrams) → AllTelegrams p ts → AllTelegrams p (in_order k m ts)
  unfolding in_order
  ordered_telegrams k zero ts h = tt
  ordered_telegrams k (suc m) ts h = both (standing k ts) (in_order (suc k) m ts) (standing_telegrams k ts h) (ordered_telegrams (suc k) m ts h)

pub ordered_count : (n k m : ℕ) (ts : Telegrams) → once n ts ≡ true → k + m ≤ n → length (in_order k m ts) ≡ m
unfolding in_order
ordered_count n k zero ts h l = refl
ordered_count n k (suc m) ts h l =
    let a = length-append (standing k ts) (in_order (suc k) m ts) in
    let b = once_at n k ts h (omega arith) in
    let c = ordered_count n (suc k) m ts h (omega arith) in
    omega arith

and_left : (a b : Bool) → (a && b) ≡ true → a ≡ true
and_left true b h = refl
and_left false b h = h

and_right : (a b : Bool) → (a && b) ≡ true → b ≡ true
and_right true b h = h
and_right false b h = let z : ◌≡◌ {A = ℕ} 0 1 = cc in absurd (omega arith)

-- "A group is 1 to 8 telegrams"
pub grouped_few : (ts : Telegrams) → grouped ts ≡ true → length ts ≤ 8
unfolding grouped
grouped_few ts h =
    let n = length ts in
    let rest : Bool = pairwise agree ts && (every (λ t. eqb (suc (held N_TOTAL t)) n) ts && once n ts) in
    leb-true n 8 (and_left (leb n 8) rest (and_right (leb 1 n) (leb n 8 && rest) h))

-- of a group, as it arrived
module _ (p : Terms) (ts : Telegrams) (h : AllTelegrams p ts) (g : grouped ts ≡ true) where
  ordered_few : length (in_order 0 (length ts) ts) ≤ 8
  ordered_few = let a = grouped_few ts g in let b = ordered_count (length ts) 0 (length ts) ts (grouped_once ts g) (omega arith) in omega arith

  pub group_most : length (listed (counting 0 none (in_order 0 (length ts) ts))) ≤ 264
  group_most = let a = ordered_few in let b = counted_most p 0 none (in_order 0 (length ts) ts) (ordered_telegrams p 0 (length ts) ts h) in omega arith

  pub group_within : Within 8 33 (listed (counting 0 none (in_order 0 (length ts) ts)))
  group_within = let a = ordered_few in counted_within p 8 0 none (in_order 0 (length ts) ts) (ordered_telegrams p 0 (length ts) ts h) (omega arith)

-- of telegrams in line
module _ {s ns : List ℕ} (l : Lineup s ns) where
  line_telegrams : AllTelegrams paper (telegrams_of s ns)
  line_telegrams = arrived_telegrams paper 0 (parts s ns) (telegrams_of s ns) l.arrives.goes

  pub lineup_most : length (packets_of_all s ns) ≤ 264
  lineup_most = group_most paper (telegrams_of s ns) line_telegrams l.whole

  pub lineup_within : Within 8 33 (packets_of_all s ns)
  lineup_within = group_within paper (telegrams_of s ns) line_telegrams l.whole

-- and of any answer: the room that was lent is enough for it, and a byte for each number
pub answer_most : (p : Terms) (s ns : List ℕ) (lent : ℕ) (ms : List Member) → group p s ns lent ≡ lists ms
    → (length ms ≤ 264) × ((length ms ≤ lent) × Within 8 33 ms)
answer_most p s ns lent ms h =
    let g = group_passes p s ns lent ms h in
    let a = arrived_telegrams p 0 (parts s ns) g.telegrams g.arrives in
    let n : length ms ≤ 264 = rw g.gives.packets (group_most p g.telegrams a g.gives.whole) in
    let r = g.roomy in
    (n, (omega arith, rw g.gives.packets (group_within p g.telegrams a g.gives.whole)))
