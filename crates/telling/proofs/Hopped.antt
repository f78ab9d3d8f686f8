-- A telegram over which somebody hops, packet by packet, and sees of each that it is in metres or has no scale: where the hops come to the end mark
-- every packet was seen, so that the telegram is its own normal form. Assumes nothing.
use mathlib.Core.Bool.{true}
use mathlib.Core.List.{List, [], ◌∷◌, ◌++◌}
use mathlib.Core.Path.{◌≡◌, ap, ◌∙◌, subst}
use Prim.Native.Nat.{ℕ, ◌+◌, ◌≤◌, ◌<◌}
use native.Mathlib.Nat.{min-le_left}
use native.Mathlib.Omega.{arith}
use lib.ListN.{length, take, length-take}
use Rattle.bits.specs.Bits.{bits_of}
use Rattle.format.specs.Rules.{Terms}
use Rattle.format.specs.Telegrams.{Entry, bits, bit_count, Telegram}
use Rattle.format.specs.Normal.{normal}
use Rattle.laws.proofs.Demand2.{length_bits}
use Rattle.laws.proofs.Tile.{end_mark, bit_count_append}
use Rattle.laws.proofs.Told.{AllFair, fair, fair_after}
use Rattle.laws.proofs.Whole.{headed}
use Rattle.telling.proofs.Under.{InMetres, metres_append}
use Rattle.telling.proofs.InOrder.{InOrder, laid}
use Rattle.telling.proofs.InOrder.InOrder.{no_more, packet_then}
use Rattle.telling.proofs.AtBits.{AtBit, at_front, at_behind, at_all, fair_front}
use Rattle.telling.proofs.Decided.{packet_at, behind_at}
use Rattle.telling.proofs.Far.{laid_metres}
use Rattle.telling.proofs.MetresThere.{metres_there, hop, packet_there, packet_hop}

-- from the bit x, hops over packets that are in metres or have no scale lead to the bit y
pub data Hopped (s : List ℕ) : ℕ → ℕ → Type 0 where
  there : {x : ℕ} → Hopped s x x
  on : {x y : ℕ} → metres_there s x ≡ true → Hopped s (hop s x) y → Hopped s x y

-- one more at the end, as a loop makes them
pub hopped_more : {s : List ℕ} {x y : ℕ} → Hopped s x y → metres_there s y ≡ true → Hopped s x (hop s y)
hopped_more there m = on m there
hopped_more (on k h) m = on k (hopped_more h m)

module _ (s : List ℕ) where
  -- hops that are not yet where they lead begin with one
  begins : {x y : ℕ} → Hopped s x y → x < y → (metres_there s x ≡ true) × Hopped s (hop s x) y
  begins there l = absurd (omega arith)
  begins (on m h) l = (m, h)

  -- a packet has the 23 bits of its head at least: as long as packets are left, hops that lead to their end, or past it, are not there yet, and
  -- each of them goes over just one packet
  pub order_hopped : {es : List Entry} (h : InOrder es) (x : ℕ) → AllFair es → AtBit s x es
      → {y : ℕ} → x + bit_count es ≤ y → Hopped s x y → InMetres es
  order_hopped no_more x fair at l k = tt
  order_hopped (packet_then {i} {d} {n} {body} {es} b h) x fair at {y} l k =
      let p = packet_at s x b es fair at in
      let c : bit_count (headed i d n body ++ es) ≡ bit_count (headed i d n body) + bit_count es = bit_count_append (headed i d n body) es in
      let size : n ≡ 8 + (2 + (13 + bit_count body)) = b.size in
      let first = begins k (omega arith) in
      metres_append (headed i d n body) es (packet_there s x p first.0)
      (order_hopped h (x + n) (fair_after (headed i d n body) es fair) (behind_at s x b es at) (omega arith)
      (subst (λ (z : ℕ). Hopped s z y) (packet_hop s x p) first.1))

  -- of an accepted telegram of n bits: from behind its header to its end mark
  pub telegram_hopped : (p : Terms) {es : List Entry} → Telegram p es → (n : ℕ) → take n (bits_of s) ≡ bits es
      → {y : ℕ} → y + 8 ≡ n → Hopped s 50 y → normal es ≡ es
  telegram_hopped p {es} t n h {y} e k =
      let l = laid p t in
      let tail = l.packets ++ (end_mark ∷ []) in
      let all : AllFair (l.header ++ tail) = subst AllFair l.parts (fair t) in
      let at : AtBit s 0 (l.header ++ tail) = subst (AtBit s 0) l.parts (at_all s n es h) in
      let wide : 0 + bit_count l.header ≡ 50 = omega (arith, l.wide) in
      let behind : AtBit s 50 tail = subst (λ (j : ℕ). AtBit s j tail) wide (at_behind s 0 l.header tail at) in
      let most : length (take n (bits_of s)) ≤ n = rw (length-take n (bits_of s)) (min-le_left n (length (bits_of s))) in
      let size : length (take n (bits_of s)) ≡ bit_count (l.header ++ tail) = ap length h ∙ length_bits es ∙ ap bit_count l.parts in
      let parts : bit_count (l.header ++ tail) ≡ bit_count l.header + bit_count tail = bit_count_append l.header tail in
      let last : bit_count tail ≡ bit_count l.packets + 8 = bit_count_append l.packets (end_mark ∷ []) in
      laid_metres l
      (order_hopped l.order 50 (fair_front l.packets (end_mark ∷ []) (fair_after l.header tail all))
      (at_front s 50 l.packets (end_mark ∷ []) behind) (omega arith) k)
