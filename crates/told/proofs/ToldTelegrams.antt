-- A telegram told packet by packet: where what is put for each packet leaves its normal form in its place, a walk from packet to packet leaves that
-- of the telegram. Assumes nothing.
use mathlib.Core.List.{List, [], ◌∷◌, ◌++◌, append_assoc}
use mathlib.Core.Path.{◌≡◌, sym, ap, ap₂, ◌∙◌, subst}
use Prim.Native.Nat.{ℕ, ◌+◌}
use native.Mathlib.Omega.{arith}
use lib.ListN.{length, take, length-append}
use Rattle.bits.specs.Bits.{bits_of}
use Rattle.format.specs.Normal.{normal}
use Rattle.format.specs.Rules.{Terms}
use Rattle.format.specs.Telegrams.{Entry, bits_in, bits, bit_count, Telegram}
use Rattle.laws.proofs.Demand2.{length_bits}
use Rattle.laws.proofs.Demand3.{normal_size}
use Rattle.laws.proofs.Round.{all_append}
use Rattle.laws.proofs.Tile.{end_mark}
use Rattle.laws.proofs.Told.{AllFair, fair, fair_after}
use Rattle.laws.proofs.Whole.{headed}
use Rattle.telling.proofs.InOrder.{InOrder, laid, normal_laid, normal_next, normal_mark}
use Rattle.telling.proofs.InOrder.InOrder.{no_more, packet_then}
use Rattle.telling.proofs.AtBits.{AtBit, at_front, at_behind, at_all, fair_front}
use Rattle.telling.proofs.Decided.{PacketAt, packet_at, behind_at}
use Rattle.telling.proofs.MetresThere.{hop, packet_hop, packet_count}
use Rattle.told.specs.Metres.{each_put}
use Rattle.told.proofs.Overwritten.{Holds}

-- entries in front of others, and what is behind them all
pub holds_front : (out pre : List ℕ) (xs ys : List Entry) (post : List ℕ) → Holds out pre (xs ++ ys) post → Holds out pre xs (bits ys ++ post)
holds_front out pre xs ys post e =
    e
    ∙ ap (λ (l : List ℕ). pre ++ l) (ap (λ (l : List ℕ). l ++ post) (all_append bits_in xs ys) ∙ append_assoc (bits xs) (bits ys) post)

pub holds_both : (out pre : List ℕ) (xs ys : List Entry) (post : List ℕ) → Holds out (pre ++ bits xs) ys post → Holds out pre (xs ++ ys) post
holds_both out pre xs ys post e =
    e
    ∙ append_assoc pre (bits xs) (bits ys ++ post)
    ∙ ap (λ (l : List ℕ). pre ++ l)
    (sym (append_assoc (bits xs) (bits ys) post) ∙ ap (λ (l : List ℕ). l ++ post) (sym (all_append bits_in xs ys)))

-- the first behind what is in front
pub holds_next : (out pre : List ℕ) (xs ys : List Entry) (post : List ℕ) → Holds out pre xs (bits ys ++ post) → Holds out (pre ++ bits xs) ys post
holds_next out pre xs ys post e = e ∙ sym (append_assoc pre (bits xs) (bits ys ++ post))

-- What is put for the packet at a bit of s leaves its normal form there, and everything else as it was.
pub record Normalises (s : List ℕ) (puts : ℕ → List ℕ → List ℕ) : Type 0 where
  pub leaves : (x : ℕ) {i d n : ℕ} {body : List Entry} → PacketAt s x i d n body → (out pre post : List ℕ) → length pre ≡ x
      → Holds out pre (headed i d n body) post → Holds (puts x out) pre (normal (headed i d n body)) post

module _ (s : List ℕ) (puts : ℕ → List ℕ → List ℕ) (f : Normalises s puts) where
  -- each of the packets, one hop behind the other
  pub order_told : {es : List Entry} (h : InOrder es) (x : ℕ) → AllFair es → AtBit s x es → (out pre post : List ℕ) → length pre ≡ x
      → Holds out pre (es ++ (end_mark ∷ [])) post → Holds (each_put puts (hop s) (packet_count h) x out) pre (normal (es ++ (end_mark ∷ []))) post
  order_told no_more x fair at out pre post l e = e ∙ ap (λ (k : List Entry). pre ++ (bits k ++ post)) (sym normal_mark)
  order_told (packet_then {i} {d} {n} {body} {es} b h) x fair at out pre post l e =
      let one = headed i d n body in
      let two = es ++ (end_mark ∷ []) in
      let p = packet_at s x b es fair at in
      let parts = append_assoc one es (end_mark ∷ []) in
      let sent : Holds out pre one (bits two ++ post) =
      holds_front out pre one two post (e ∙ ap (λ (k : List Entry). pre ++ (bits k ++ post)) parts) in
      let o = puts x out in
      let front = pre ++ bits (normal one) in
      let first : Holds o front two post = holds_next o pre (normal one) two post (f.leaves x p out pre (bits two ++ post) l sent) in
      let wide : length front ≡ x + n =
      length-append pre (bits (normal one))
      ∙ ap₂ (λ (j k : ℕ). j + k) l (normal_size one ∙ length_bits one ∙ sym b.size) in
      let rest = order_told h (x + n) (fair_after one es fair) (behind_at s x b es at) o front post wide first in
      ap (λ (y : ℕ). bits_of (each_put puts (hop s) (packet_count h) y o)) (packet_hop s x p)
      ∙ holds_both (each_put puts (hop s) (packet_count h) (x + n) o) pre (normal one) (normal two) post rest
      ∙ ap (λ (k : List Entry). pre ++ (bits k ++ post)) (sym (ap normal parts ∙ normal_next b h))

  -- an accepted telegram, of which out holds what s does
  pub telegram_told : (p : Terms) {es : List Entry} (t : Telegram p es) (n : ℕ) → take n (bits_of s) ≡ bits es
      → (out post : List ℕ) → bits_of out ≡ bits es ++ post
      → bits_of (each_put puts (hop s) (packet_count (laid p t).order) 50 out) ≡ bits (normal es) ++ post
  telegram_told p {es} t n h out post e =
      let l = laid p t in
      let tail = l.packets ++ (end_mark ∷ []) in
      let all : AllFair (l.header ++ tail) = subst AllFair l.parts (fair t) in
      let at : AtBit s 0 (l.header ++ tail) = subst (AtBit s 0) l.parts (at_all s n es h) in
      let wide : 0 + bit_count l.header ≡ 50 = omega (arith, l.wide) in
      let there : AtBit s 50 tail = subst (λ (k : ℕ). AtBit s k tail) wide (at_behind s 0 l.header tail at) in
      let front = bits l.header in
      let sent : Holds out front tail post =
      holds_next out [] l.header tail post (holds_front out [] l.header tail post (e ∙ ap (λ (k : List Entry). bits k ++ post) l.parts)) in
      let done =
      order_told l.order 50 (fair_front l.packets (end_mark ∷ []) (fair_after l.header tail all))
      (at_front s 50 l.packets (end_mark ∷ []) there) out front post (length_bits l.header ∙ l.wide) sent in
      let o = each_put puts (hop s) (packet_count l.order) 50 out in
      holds_both o [] l.header (normal tail) post done ∙ ap (λ (k : List Entry). bits k ++ post) (sym (normal_laid l))
