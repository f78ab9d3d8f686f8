-- What is listed of a telegram is read off the bits behind its header: so of an accepted group the answer lists the packets of every telegram that arrived, each at the balise that counts for it. Assumes nothing.
use mathlib.Core.List.{List, [], ◌∷◌, ◌++◌}
use mathlib.Core.Path.{◌≡◌, refl, sym, ap, ap₂, ◌∙◌, subst}
use Prim.Native.Nat.{ℕ, suc, ◌+◌, ◌^◌, ◌<◌}
use native.Mathlib.Omega.{arith}
use lib.ListN.{length, take, drop}
use lib.Seq.{take_at, drop_at}
use Rattle.bits.specs.Bits.{value_of, digits}
use Rattle.bits.proofs.Digits.{length_digits, value_of_digits}
use Rattle.format.specs.Among.{PacketIn}
use Rattle.format.specs.Fields.{N_PIG}
use Rattle.format.specs.Rules.{Terms}
use Rattle.format.specs.Telegrams.{Entry, bits, bits_in, bit_count, divided, Telegram}
use Rattle.laws.proofs.Round.{all_append}
use Rattle.laws.proofs.Demand2.{length_bits}
use Rattle.laws.proofs.Tile.{end_mark, joined, divided_joined, bit_count_append, tiled}
use Rattle.laws.proofs.Whole.{headed}
use Rattle.group.specs.Groups.{Member, arrived, parts, held, body, packets_from, packets_of, group}
use Rattle.group.specs.Groups.Arrived.{all}
use Rattle.group.specs.Groups.Message.{lists}
use Rattle.group_laws.proofs.Passing.{Telegrams}
use Rattle.group_laws.proofs.Heads.{AllHeaded}
use Rattle.group_laws.proofs.FoundInBits.{telegram_standing}
use Rattle.group_laws.proofs.Enough.{AllTelegrams, packet_least}
use Rattle.group_laws.proofs.Packeting.{from_head}
use Rattle.group_laws.proofs.Listing.{In, member_of, every_listed, only_listed}
use Rattle.group_laws.proofs.InLine.{telegram_in_lem}
use Rattle.group_laws.proofs.Answer.{Answered}
use Rattle.group_laws.proofs.NoneLost.{Kept, all_telegrams, answer_of, none_lost}

abbrev mark : List (List Entry)
mark = (end_mark ∷ []) ∷ []

-- ---- the same bits are the same numbers

same_field : (w v x : ℕ) (a b : List ℕ) → v < 2 ^ w → x < 2 ^ w → digits w v ++ a ≡ digits w x ++ b → (v ≡ x) × (a ≡ b)
same_field w v x a b h k e = (
  sym (value_of_digits w v h) ∙ ap value_of (sym (take_at (digits w v) a w (length_digits w v)) ∙ ap (take w) e ∙ take_at (digits w x) b w (length_digits w x)) ∙ value_of_digits w x k,
  sym (drop_at (digits w v) a w (length_digits w v)) ∙ ap (drop w) e ∙ drop_at (digits w x) b w (length_digits w x),
)

headed_bits : (i d n : ℕ) (b r : List Entry) → bits (headed i d n b ++ r) ≡ digits 8 i ++ (digits 2 d ++ (digits 13 n ++ bits (b ++ r)))
unfolding bits_in
headed_bits i d n b r = refl

-- ---- of packets one after the other

module _ (k : ℕ) where
  from_bits : (ps qs : List (List Entry)) (j at : ℕ) → AllHeaded ps → AllHeaded qs → bits (joined (ps ++ mark)) ≡ bits (joined (qs ++ mark))
      → packets_from k j at (ps ++ mark) ≡ packets_from k j at (qs ++ mark)
  from_bits [] [] j at h g e = refl
  from_bits [] (q ∷ qs) j at h g e =
      let a = packet_least g.0 in
      let b = bit_count_append q (joined (qs ++ mark)) in
      let c = sym (length_bits (joined mark)) ∙ ap length e ∙ length_bits (q ++ joined (qs ++ mark)) in
      absurd (omega arith)
  from_bits (p ∷ ps) [] j at h g e =
      let a = packet_least h.0 in
      let b = bit_count_append p (joined (ps ++ mark)) in
      let c = sym (length_bits (joined mark)) ∙ ap length (sym e) ∙ length_bits (p ++ joined (ps ++ mark)) in
      absurd (omega arith)
  from_bits (p ∷ ps) (q ∷ qs) j at h g e =
      let x = h.0 in
      let y = g.0 in
      let r = joined (ps ++ mark) in
      let s = joined (qs ++ mark) in
      let f : digits 8 x.id ++ (digits 2 x.dir ++ (digits 13 x.long ++ bits (x.body ++ r))) ≡ digits 8 y.id ++ (digits 2 y.dir ++ (digits 13 y.long ++ bits (y.body ++ s))) =
      sym (headed_bits x.id x.dir x.long x.body r) ∙ ap (λ (l : List Entry). bits (l ++ r)) (sym x.is) ∙ e ∙ ap (λ (l : List Entry). bits (l ++ s)) y.is
      ∙ headed_bits y.id y.dir y.long y.body s in
      let name = same_field 8 x.id y.id _ _ x.packet.began.small y.packet.began.small f in
      let way = same_field 2 x.dir y.dir _ _ x.packet.small_dir y.packet.small_dir name.1 in
      let size = same_field 13 x.long y.long _ _ x.packet.small_size y.packet.small_size way.1 in
      let m : bit_count p ≡ x.long = ap bit_count x.is ∙ sym x.packet.size in
      let n : bit_count q ≡ y.long = ap bit_count y.is ∙ sym y.packet.size in
      let c : bit_count p ≡ bit_count q = m ∙ size.0 ∙ sym n in
      let rest : bits r ≡ bits s =
      sym (drop_at (bits p) (bits r) (bit_count p) (length_bits p)) ∙ ap₂ drop c (sym (all_append bits_in p r) ∙ e ∙ all_append bits_in q s)
      ∙ drop_at (bits q) (bits s) (bit_count q) (length_bits q) in
      let on = from_bits ps qs (suc j) (at + bit_count q) h.1 g.1 rest in
      let front : Member = record { pig = k; number = j; id = y.id; dir = y.dir; at = at + 8 } in
      let heads : ◌≡◌ {A = Member} (record { pig = k; number = j; id = x.id; dir = x.dir; at = at + 8 }) front =
      ap₂ (λ (i d : ℕ). record { pig = k; number = j; id = i; dir = d; at = at + 8 }) name.0 way.0 in
      from_head p x k j at (ps ++ mark) ∙ ap₂ ◌∷◌ heads (ap (λ (z : ℕ). packets_from k (suc j) (at + z) (ps ++ mark)) c ∙ on) ∙ sym (from_head q y k j at (qs ++ mark))

-- ---- of telegrams

body_is : {p : Terms} {t : List Entry} → Telegram p t → body t ≡ bits (joined (divided t).packets)
body_is {p} {t} h =
    ap (λ (l : List Entry). drop 50 (bits l)) (sym (divided_joined t)) ∙ ap (drop 50) (all_append bits_in (divided t).header (joined (divided t).packets))
    ∙ drop_at (bits (divided t).header) (bits (joined (divided t).packets)) 50 (length_bits (divided t).header ∙ (tiled p h).header)

-- "its packets must be the same bits": then they are the same packets, each with its number and the bit where its Q_DIR begins, whatever the header
pub same_packets_lem : {p q : Terms} {t u : List Entry} → Telegram p t → Telegram q u → body t ≡ body u → (k : ℕ)
    → packets_of (record { pig = k; telegram = t }) ≡ packets_of (record { pig = k; telegram = u })
same_packets_lem {p} {q} {t} {u} h g e k =
    let a = telegram_standing h in
    let b = telegram_standing g in
    let xs = (divided a.sent).packets in
    let ys = (divided b.sent).packets in
    let same : bits (joined (xs ++ mark)) ≡ bits (joined (ys ++ mark)) =
    ap (λ (l : List (List Entry)). bits (joined l)) (sym a.parts) ∙ sym (body_is h) ∙ e ∙ body_is g ∙ ap (λ (l : List (List Entry)). bits (joined l)) b.parts in
    ap₂ (λ (n : ℕ) (l : List (List Entry)). packets_from k 0 n l) (tiled p h).header a.parts ∙ from_bits k xs ys 0 50 a.divides.headed b.divides.headed same
    ∙ sym (ap₂ (λ (n : ℕ) (l : List (List Entry)). packets_from k 0 n l) (tiled q g).header b.parts)

-- ---- so no packet of a group is lost

packet_kept : (p : Terms) (ts : Telegrams) {ms : List Member} {t : List Entry} → AllTelegrams p ts → Answered ts ms → In t ts → (c : Kept ts t)
    → {id dir : ℕ} (h : PacketIn t id dir) → In (member_of (held N_PIG c.telegram) h) ms
packet_kept p ts {ms} {t} hs a i c h =
    let k = held N_PIG c.telegram in
    let one = telegram_in_lem p ts t hs i in
    let other = telegram_in_lem p ts c.telegram hs c.came in
    let there = subst (In (member_of k h)) (same_packets_lem one other (sym c.same) k) (every_listed one k h) in
    let o = only_listed other k (member_of k h) there in
    a.every (member_of k h) (record { telegram = c.telegram; came = c.came; counts = c.counts; id = o.0; dir = o.1.0; packet = o.1.1.0; is = o.1.1.1 })

-- Each telegram that arrived has one that counts in its place, with the same bits behind the header, and each of its packets is listed at the N_PIG of that one:
-- with its own number, NID_PACKET, Q_DIR and bit.
pub nothing_lost : (p : Terms) (s ns : List ℕ) (room : ℕ) (ms : List Member) → group p s ns room ≡ lists ms → (ts : Telegrams) → arrived p 0 (parts s ns) ≡ all ts
    → (t : List Entry) → In t ts → (c : Kept ts t) × ((id dir : ℕ) (h : PacketIn t id dir) → In (member_of (held N_PIG c.telegram) h) ms)
nothing_lost p s ns room ms e ts a t i =
    let c = none_lost p s ns room ms e ts a t i in
    (c, λ id dir h. packet_kept p ts (all_telegrams p s ns room ms e ts a) (answer_of p s ns room ms e ts a) i c h)
